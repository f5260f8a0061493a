use Rattle.std.proofs.Common.{true, false, ◌≡◌, ◌<◌, ◌≤◌, ◌∙◌, suc, List, length, take, subst, sym, get_or, arith}
use Rattle.art_kinds.specs.Edges.{is_first, IsEnd, Ascends, paired}
use Rattle.art_kinds.specs.declared.records.ids.Edge.{Edge}
use Rattle.art_kinds.proofs.EdgeFills.{in_use}
use Rattle.art_kinds.proofs.EdgeNexts.{first-least, last-greatest}
use Rattle.art_kinds.proofs.Pairs.{edge, at-paired, length-paired}
use Rattle.art_kinds.proofs.records.few.Few.end_edge.Goals as goal
use Rattle.art_kinds.proofs.records.few.Few.end_edge.Goals.{in-First, in-Last}

pub returns : goal.returns
returns g c =
    let i = c.self.inside in
    let v = c.self.invariant in
    let es = paired i.bytes i.children in
    let same : length i.children ≡ length i.bytes = v.long ∙ sym v.wide in
    let ls = length-paired i.bytes i.children same in
    let u : length (take i.count es) ≡ i.count = in_use i.count g.row.N es es v.sorted in
    let w : 0 < length (take i.count es) = rw c.self.view_is c.requires in
    let le : i.count ≤ length es = omega (arith, v.sorted.within, v.wide) in
    let x = c.index-self-place.result in
    let d = edge 0 x in
    let n = c.match-end.place in
    let h : (n < i.count) × IsEnd (is_first c.args.end) (take i.count es) (get_or es n d) = elim c.match-end.branch [
      | in-First b ↦ (omega (arith, b.place-is), rw (b.in-First.is, b.place-is) (first-least i.count es d v.sorted.ascends (omega arith) le))
      | in-Last b ↦ (
          let e : suc n ≡ i.count = omega (arith, b.place-is) in
          (omega arith, rw b.in-Last.is (subst (λ k. IsEnd false (take k es) (get_or es n d)) e (last-greatest n es d (subst (λ k. Ascends (take k es)) (sym e) v.sorted.ascends) (omega arith)))))
    ] in
    let lt : n < i.count = h.0 in
    let q : get_or es n d ≡ edge (get_or i.bytes n 0) (get_or i.children n x) = at-paired i.bytes i.children n 0 x d (omega arith) same in
    rw c.child.ensures (subst (λ (z : List Edge). IsEnd (is_first c.args.end) z (edge (get_or i.bytes n 0) (get_or i.children n x))) c.self.view_is (subst (λ (z : Edge). IsEnd (is_first c.args.end) (take i.count es) z) q h.1))
