use Rattle.std.proofs.Common.{◌≡◌, ◌<◌, ◌≤◌, ◌∙◌, suc, List, None, length, take, get_or, ap, sym, subst, arith, add-one}
use Rattle.std.proofs.lemmas.List.{length-take-le, get_or-take}
use Rattle.art_kinds.specs.Edges.{child_at, paired, AddsChild}
use Rattle.art_kinds.specs.declared.records.ids.Edge.{Edge}
use Rattle.art_kinds.proofs.Pairs.{edge, at-paired, length-paired}
use Rattle.art_kinds.proofs.Pouring.{empty_index, absent_before, poured}
use Rattle.art_kinds.proofs.records.indexed.Indexed.of_sixteen.Goals as goal

pub invariant_of-edges : goal.invariant_of-edges
invariant_of-edges c = empty_index c.none.result

pub insert-requires-clause-absent : goal.insert-requires-clause-absent
insert-requires-clause-absent c =
    let s = c.sixteen.inside in
    let v = c.sixteen.invariant in
    let i = c.loop-i.i in
    let r = c.index-sixteen-i.result in
    let es = take s.count (paired s.bytes s.children) in
    let same : length s.children ≡ length s.bytes = v.long ∙ sym v.wide in
    let lp = length-paired s.bytes s.children same in
    let w : s.count ≤ 16 = v.sorted.within in
    let lt : i < s.count = c.loop-i-test.true in
    let le : length es ≡ s.count = length-take-le s.count (paired s.bytes s.children) (omega (arith, lp, v.wide)) in
    let q : get_or es i (edge 0 r) ≡ edge (get_or s.bytes i 0) (get_or s.children i r) = get_or-take s.count (paired s.bytes s.children) i (edge 0 r) lt ∙ at-paired s.bytes s.children i 0 r (edge 0 r) (omega (arith, v.wide)) same in
    let h : child_at (take i es) (get_or s.bytes i 0) ≡ None = subst (λ (z : Edge). child_at (take i es) z.byte ≡ None) q (absent_before es i (edge 0 r) v.sorted.ascends (omega arith)) in
    ap (λ (z : List Edge). child_at z (get_or s.bytes i 0)) (c.loop-i.invariant ∙ ap (λ (z : List Edge). take i z) (sym c.sixteen.view_is)) ∙ h

pub loop-i-preserved : goal.loop-i-preserved
loop-i-preserved c =
    let s = c.sixteen.inside in
    let v = c.sixteen.invariant in
    let i = c.loop-i.i in
    let r = c.index-sixteen-i.result in
    let es = take s.count (paired s.bytes s.children) in
    let same : length s.children ≡ length s.bytes = v.long ∙ sym v.wide in
    let lp = length-paired s.bytes s.children same in
    let w : s.count ≤ 16 = v.sorted.within in
    let lt : i < s.count = c.loop-i-test.true in
    let le : length es ≡ s.count = length-take-le s.count (paired s.bytes s.children) (omega (arith, lp, v.wide)) in
    let q : get_or es i (edge 0 r) ≡ edge (get_or s.bytes i 0) (get_or s.children i r) = get_or-take s.count (paired s.bytes s.children) i (edge 0 r) lt ∙ at-paired s.bytes s.children i 0 r (edge 0 r) (omega (arith, v.wide)) same in
    let new = c.insert.new.self in
    let e : c.loop-i.edges ≡ take i es = c.loop-i.invariant ∙ ap (λ (z : List Edge). take i z) (sym c.sixteen.view_is) in
    let a : AddsChild (take i es) new (get_or s.bytes i 0) (get_or s.children i r) = subst (λ (z : List Edge). AddsChild z new (get_or s.bytes i 0) (get_or s.children i r)) e (rw c.child.ensures at c.insert.ensures) in
    let b : AddsChild (take i es) new (get_or es i (edge 0 r)).byte (get_or es i (edge 0 r)).to = subst (λ (z : Edge). AddsChild (take i es) new z.byte z.to) (sym q) a in
    let p : new ≡ take (suc i) es = poured es i (edge 0 r) new v.sorted.ascends (omega arith) b in
    let f : take (suc i) es ≡ take (suc i) c.args.sixteen.now = ap (λ (z : List Edge). take (suc i) z) c.sixteen.view_is in
    rw add-one (p ∙ f)
