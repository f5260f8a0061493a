use Rattle.std.proofs.Common.{◌≡◌, ◌+◌, ◌<◌, ◌≤◌, ℕ, get_or, refl, ap, sym, ◌∙◌, arith, lit<, Some, None}
use Rattle.art_kinds.specs.Edges.{child_at}
use Rattle.art_tree.proofs.Ways.Stops.{node_covers, shared_after, ends_at_node, leaves_above, goes_past, on_way, leaves_here}
use Rattle.art_tree.proofs.tree.stop.step_at.Goals as goal

pub returns-then-shared-query-clause-step : goal.returns-then-shared-query-clause-step
returns-then-shared-query-clause-step g c =
    let w = c.requires in
    let h = c.shared_at-shared.ensures.shared w in
    (ends_at_node w (sym h.is ∙ c.if-shared-query.true), refl)

pub read-node-requires : goal.read-node-requires
read-node-requires g c = (lit< tt, (lit< tt, (node_covers c.requires).live))

pub returns-then-shared-depth-clause-step : goal.returns-then-shared-depth-clause-step
returns-then-shared-depth-clause-step g c =
    let w = c.requires in
    let h = c.shared_at-shared.ensures.shared w in
    let low : c.args.start ≤ c.shared_at-shared.result.len = let a = shared_after w in let e = h.is in omega arith in
    let past : c.shared_at-shared.result.len < c.read-node.result.depth = omega (arith, c.if-shared-depth.true, c.depth-depth.ensures) in
    (leaves_above w c.read-node.ensures.value h c.depth-depth.ensures c.if-shared-depth.true c.if-shared-query.false, (refl, low, (c.read-node.result, c.read-node.ensures.value, past)))

pub bounds-query-depth : goal.bounds-query-depth
bounds-query-depth g c =
    let w = c.requires in
    let h = c.shared_at-shared.ensures.shared w in
    let p = goes_past w c.read-node.ensures.value h c.depth-depth.ensures c.if-shared-depth.false c.if-shared-query.false in
    omega (arith, p.1, c.depth-depth.ensures)

pub overflow_add-result : goal.overflow_add-result
overflow_add-result g c =
    let w = c.requires in
    let h = c.shared_at-shared.ensures.shared w in
    let p = goes_past w c.read-node.ensures.value h c.depth-depth.ensures c.if-shared-depth.false c.if-shared-query.false in
    omega (arith, p.1, c.depth-depth.ensures)

pub returns-in-Some-clause-step : goal.returns-in-Some-clause-step
returns-in-Some-clause-step g c =
    let q = c.args.query.now in
    let w = c.requires in
    let x = c.read-node.result in
    let h = c.shared_at-shared.ensures.shared w in
    let p = goes_past w c.read-node.ensures.value h c.depth-depth.ensures c.if-shared-depth.false c.if-shared-query.false in
    let own : child_at x.edges (get_or q c.depth-depth.result 0) ≡ Some c.in-Some.child = sym c.find.ensures ∙ c.in-Some.is in
    let there : child_at x.edges (get_or q x.depth 0) ≡ Some c.in-Some.child = rw (← c.depth-depth.ensures) own in
    let next : c.depth-depth.result + 1 ≡ x.depth + 1 = ap (λ (z : ℕ). z + 1) c.depth-depth.ensures in
    (on_way w c.read-node.ensures.value p.0 p.1 c.in-Some.child there _ next, (x, c.read-node.ensures.value, own, next))

pub returns-in-None-clause-step : goal.returns-in-None-clause-step
returns-in-None-clause-step g c =
    let q = c.args.query.now in
    let w = c.requires in
    let x = c.read-node.result in
    let h = c.shared_at-shared.ensures.shared w in
    let p = goes_past w c.read-node.ensures.value h c.depth-depth.ensures c.if-shared-depth.false c.if-shared-query.false in
    let none : child_at x.edges (get_or q x.depth 0) ≡ None = rw (← c.depth-depth.ensures) (sym c.find.ensures ∙ c.in-None.is) in
    (rw c.depth-depth.ensures (leaves_here w c.read-node.ensures.value p.0 p.1 none), refl)
