use Rattle.std.proofs.Common.{List, ap, subst, ◌<◌, ◌≤◌, ◌∙◌, sym, inl, inr, arith}
use Rattle.std.proofs.lemmas.Bool.Decides.{leb_tells}
use Rattle.art_kinds.specs.Edges.{child_at, Ascends}
use Rattle.art_kinds.specs.declared.records.ids.Edge.{Edge}
use Rattle.art_kinds.proofs.EdgeShifts.{same_edges}
use Rattle.art_kinds.proofs.Pouring.{empty_table, no_edges}
use Rattle.art_kinds.proofs.records.full.Full.of_indexed.Goals as goal

pub invariant_of-edges : goal.invariant_of-edges
invariant_of-edges c = empty_table c.none.result c.none.ensures

pub loop-next-init : goal.loop-next-init
loop-next-init c =
    let e = no_edges c.none.result c.none.ensures in
    record {
      below = λ b l. absurd (omega arith);
      above = λ b l. ap (λ (z : List Edge). child_at z b) e;
      ascends = subst (λ (z : List Edge). Ascends z) (sym e) tt;
    }

pub returns : goal.returns
returns c =
    let v = c.loop-next.invariant in
    same_edges c.loop-next.edges c.args.indexed.now v.ascends c.count-count.ensures.ascends (λ b. elim (leb_tells 256 b) [
      | inl p ↦ (let e : c.loop-next.next ≤ 256 = c.loop-next.auto.next-end in let q : 256 ≤ b = p.1 in v.above b (omega arith) ∙ sym (c.count-count.ensures.bytes b q))
      | inr p ↦ (let e : 256 ≤ c.loop-next.next = c.loop-next-test.false in let q : b < 256 = p.1 in v.below b (omega arith))
    ])
