use Rattle.std.proofs.Common.{◌≡◌, ◌<◌, ◌≤◌, ◌∙◌, Some, IsSome, length, lit<, refl, sym, inl, inr, arith}
use Rattle.std.proofs.lemmas.Bool.Decides.{leb_tells}
use Rattle.art_kinds.specs.Edges.{child_at}
use Rattle.art_kinds.proofs.EdgeShifts.{same_edges}
use Rattle.art_kinds.proofs.Pouring.{fewer_before}
use Rattle.art_kinds.proofs.records.few.Few+16.of_indexed.Goals as goal

pub insert-requires : goal.insert-requires
insert-requires c =
    let v = c.loop-next.invariant in
    let f : child_at c.args.indexed.now c.loop-next.next ≡ Some c.in-Some.to = sym c.find.ensures ∙ c.in-Some.is in
    let s : IsSome (child_at c.args.indexed.now c.loop-next.next) = rw f refl in
    let h : length c.loop-next.edges < length c.args.indexed.now = fewer_before c.loop-next.next c.loop-next.edges c.args.indexed.now v.ascends c.count-count.ensures.ascends v.below v.above s in
    (lit< tt, (omega (arith, h, c.requires), v.above c.loop-next.next (omega arith)))

pub returns : goal.returns
returns c =
    let v = c.loop-next.invariant in
    same_edges c.loop-next.edges c.args.indexed.now v.ascends c.count-count.ensures.ascends (λ b. elim (leb_tells 256 b) [
      | inl p ↦ (let e : c.loop-next.next ≤ 256 = c.loop-next.auto.next-end in let q : 256 ≤ b = p.1 in v.above b (omega arith) ∙ sym (c.count-count.ensures.bytes b q))
      | inr p ↦ (let e : 256 ≤ c.loop-next.next = c.loop-next-test.false in let q : b < 256 = p.1 in v.below b (omega arith))
    ])
