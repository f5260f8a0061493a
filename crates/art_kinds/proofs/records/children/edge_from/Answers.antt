use Rattle.std.proofs.Common.{◌≤◌, ◌<◌, ◌∙◌, sym, inl, inr, arith}
use Rattle.std.proofs.lemmas.Bool.Decides.{leb_tells}
use Rattle.art_kinds.proofs.records.children.edge_from.Goals as goal

pub returns-in-Some : goal.returns-in-Some
returns-in-Some g c = (c.loop-next.auto.next, sym c.find.ensures ∙ c.in-Some.is, c.loop-next.invariant)

pub returns : goal.returns
returns g c = λ b lo. elim (leb_tells 256 b) [
  | inl p ↦ c.count-count.ensures.bytes b p.1
  | inr p ↦ (let e : 256 ≤ c.loop-next.next = c.loop-next-test.false in let q : b < 256 = p.1 in c.loop-next.invariant b lo (omega arith))
]
