use Rattle.std.proofs.Common.{rules, ap, refl}
use Rattle.art_tree.specs.Leaves.{number_after}
use Rattle.art_tree.specs.Pairs.{pairs_of}
use Rattle.art_tree.proofs.Runs.{runs_before, beside_first}
use Rattle.art_tree.proofs.Steps.{has_first, passed_first}
use Rattle.art_tree.proofs.walk.WalkIterator.next.Goals as goal

pub read-pair-requires : goal.read-pair-requires
read-pair-requires g c = let i = c.self.inside in has_first i.leaves.now.pairs c.law.ensures.distinct i.ends (c.in_ok-first.first, c.in_ok-first.last) c.in_ok-first.was c.self.invariant.0

pub invariant_of-self : goal.invariant_of-self
invariant_of-self g c =
    let i = c.self.inside in (
      (passed_first i.leaves.now.pairs c.law.ensures.distinct i.ends (c.in_ok-first.first, c.in_ok-first.last) c.in_ok-first.was c.self.invariant.0
          c.without_first-ends.result (c.read-pair.result.0.now, c.read-pair.result.1.now) (number_after i.leaves.now.pairs c.in_ok-first.first)
          c.read-pair.ensures.value refl c.without_first-ends.ensures.one c.without_first-ends.ensures.more).0,
      beside_first i.leaves.now.pairs i.leaves.now.rows c.in_ok-first.first c.in_ok-first.last i.following i.before c.without_first-ends.result c.without_first-ends.new.following c.without_first-ends.ensures.stays c.without_first-ends.ensures.following
          (runs_before i.leaves.now.pairs i.leaves.now.rows c.in_ok-first.first c.in_ok-first.last i.following i.before i.ends c.in_ok-first.was c.self.invariant.1),
    )

pub returns-clause-steps : goal.returns-clause-steps
returns-clause-steps g c =
    let i = c.self.inside in
    rw (← c.self.view_is) (ap pairs_of (passed_first i.leaves.now.pairs c.law.ensures.distinct i.ends (c.in_ok-first.first, c.in_ok-first.last) c.in_ok-first.was c.self.invariant.0
    c.without_first-ends.result (c.read-pair.result.0.now, c.read-pair.result.1.now) (number_after i.leaves.now.pairs c.in_ok-first.first)
    c.read-pair.ensures.value refl c.without_first-ends.ensures.one c.without_first-ends.ensures.more).1)

pub returns-clause-goes : goal.returns-clause-goes
returns-clause-goes g c =
    let e = returns-clause-steps g c in
    search rules
