use Rattle.std.proofs.Common.{◌≡◌, ◌-◌, length, take, get_or, Some, List, ap, ◌∙◌, arith, inl, inr}
use Rattle.std.proofs.lemmas.Bool.{cases_lt}
use Rattle.std.proofs.lemmas.List.{take_all}
use Rattle.art_tree.specs.Calls.Building.{last_depth}
use Rattle.art_tree.specs.declared.tree.build.LooseEdge.{LooseEdge}
use Rattle.art_tree.proofs.Calls.Making.{last_depth-take}
use Rattle.art_tree.proofs.tree.build.first_at.Goals as goal

pub returns-else-loose-from-clause-before : goal.returns-else-loose-from-clause-before
returns-else-loose-from-clause-before c is =
    let x : LooseEdge = get_or c.args.loose.now (c.back.from - 1) c.index-loose-from.result in
    let e : last_depth (take c.back.from c.args.loose.now) ≡ Some x.depth = last_depth-take c.args.loose.now (c.back.from - 1) c.back.from c.index-loose-from.result (omega arith) (omega arith) in
    c.if-loose-from.false (cc)

pub returns-else-loose-from-clause-some : goal.returns-else-loose-from-clause-some
returns-else-loose-from-clause-some c is =
    elim (cases_lt c.back.from (length c.args.loose.now)) [
      | inl p ↦ p
      | inr p ↦ absurd (returns-else-loose-from-clause-before c (ap (λ (t : List LooseEdge). last_depth t) (take_all c.back.from c.args.loose.now p) ∙ is))
    ]
