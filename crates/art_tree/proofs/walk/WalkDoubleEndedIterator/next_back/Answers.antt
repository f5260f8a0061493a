use Rattle.std.proofs.Common.{ap, refl, ◌∙◌}
use Rattle.std.proofs.lemmas.List.{map-append}
use Rattle.art_tree.specs.Leaves.{number_before}
use Rattle.art_tree.specs.Pairs.{pairs_of}
use Rattle.art_tree.specs.Spans.{ends_left}
use Rattle.art_tree.proofs.Steps.{fewer_last}
use Rattle.art_tree.proofs.Runs.{stands_after, beside_last}
use Rattle.art_tree.proofs.Steps.{has_last, passed_last}
use Rattle.art_tree.proofs.walk.WalkDoubleEndedIterator.next_back.Goals as goal

pub read-pair-requires : goal.read-pair-requires
read-pair-requires g c = let i = c.self.inside in has_last i.leaves.now.pairs c.law.ensures.distinct i.ends (c.in_ok-first.first, c.in_ok-first.last) c.in_ok-first.was c.self.invariant.0

pub invariant_of-self : goal.invariant_of-self
invariant_of-self g c =
    let i = c.self.inside in (
      (passed_last i.leaves.now.pairs c.law.ensures.distinct i.ends (c.in_ok-first.first, c.in_ok-first.last) c.in_ok-first.was c.self.invariant.0
          c.without_last-ends.result (c.read-pair.result.0.now, c.read-pair.result.1.now) (number_before i.leaves.now.pairs c.in_ok-first.last)
          c.read-pair.ensures.value refl c.without_last-ends.ensures.one c.without_last-ends.ensures.more).0,
      beside_last i.leaves.now.pairs i.leaves.now.rows c.in_ok-first.first c.in_ok-first.last i.following i.before c.without_last-ends.result c.without_last-ends.new.run c.without_last-ends.ensures.stays c.without_last-ends.ensures.runs c.without_last-ends.ensures.one
          (stands_after i.leaves.now.pairs i.leaves.now.rows c.in_ok-first.first c.in_ok-first.last i.following i.before i.ends c.in_ok-first.was c.self.invariant.1),
    )

pub returns-clause-steps : goal.returns-clause-steps
returns-clause-steps g c =
    let i = c.self.inside in
    rw (← c.self.view_is) (ap pairs_of (passed_last i.leaves.now.pairs c.law.ensures.distinct i.ends (c.in_ok-first.first, c.in_ok-first.last) c.in_ok-first.was c.self.invariant.0
    c.without_last-ends.result (c.read-pair.result.0.now, c.read-pair.result.1.now) (number_before i.leaves.now.pairs c.in_ok-first.last)
    c.read-pair.ensures.value refl c.without_last-ends.ensures.one c.without_last-ends.ensures.more).1 ∙ map-append (λ p. p.1) (ends_left c.without_last-ends.result i.leaves.now.pairs) _)

pub returns-clause-goes : goal.returns-clause-goes
returns-clause-goes g c =
    record { on = λ finite. (tt, finite, fewer_last _ _ _ (returns-clause-steps g c)); keeps = tt; rests = λ _. tt }
