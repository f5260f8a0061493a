use Rattle.std.proofs.Common.{lit<, subst, refl, arith, Some}
use Rattle.art_tree.specs.Leaves.{keys_in}
use Rattle.art_tree.specs.Calls.Stops.{IsStop}
use Rattle.art_tree.specs.declared.tree.stop.Stop.{Stop}
use Rattle.art_kinds.specs.Nodes.{at}
use Rattle.art_tree.proofs.NumberedPairs.Keys.{has_key}
use Rattle.art_tree.proofs.NumberedPairs.Bounds.{at_or_before_shorter, at_or_before_longer}
use Rattle.art_tree.proofs.Invariant.Soundness.{within_longest}
use Rattle.art_tree.proofs.Ways.Beside.{beside_at_node, beside_at_edge}
use Rattle.art_tree.proofs.tree.seek.at_or_before_below.Goals as goal

pub end_under-first-requires : goal.end_under-first-requires
end_under-first-requires g c =
    let keys = keys_in g.K.AsBytes.bytes c.args.leaves.now.pairs in
    let m = subst (λ (z : Stop). IsStop g.row.P keys (at c.args.nodes.now) z c.args.query.now) c.in-Longer.is c.stop_of-stop.ensures.stop in
    (lit< tt, record { keys = keys; root = m.root; shape = m.shape; front = c.args.query.now; covers = m.covers })

pub prev_of-requires : goal.prev_of-requires
prev_of-requires g c =
    let keys = keys_in g.K.AsBytes.bytes c.args.leaves.now.pairs in
    let m = subst (λ (z : Stop). IsStop g.row.P keys (at c.args.nodes.now) z c.args.query.now) c.in-Longer.is c.stop_of-stop.ensures.stop in
    let u = c.end_under-first.ensures.ends keys m.root m.shape c.args.query.now m.covers in
    has_key g.K.AsBytes.bytes c.args.leaves.now.pairs c.end_under-first.result u.key u.is

pub returns-in-Shorter-clause-stands : goal.returns-in-Shorter-clause-stands
returns-in-Shorter-clause-stands g c =
    let keys = keys_in g.K.AsBytes.bytes c.args.leaves.now.pairs in
    let m = subst (λ (z : Stop). IsStop g.row.P keys (at c.args.nodes.now) z c.args.query.now) c.in-Shorter.is c.stop_of-stop.ensures.stop in
    at_or_before_shorter g.K.AsBytes.bytes c.args.leaves.now.pairs c.requires.content c.law.ensures.distinct (at c.args.nodes.now) c.args.query.now (Some c.args.root.now) c.requires.shape c.in-Shorter.id m

pub returns-in-Longer-clause-stands : goal.returns-in-Longer-clause-stands
returns-in-Longer-clause-stands g c =
    let keys = keys_in g.K.AsBytes.bytes c.args.leaves.now.pairs in
    let m = subst (λ (z : Stop). IsStop g.row.P keys (at c.args.nodes.now) z c.args.query.now) c.in-Longer.is c.stop_of-stop.ensures.stop in
    let u = c.end_under-first.ensures.ends keys m.root m.shape c.args.query.now m.covers in
    at_or_before_longer g.K.AsBytes.bytes c.args.leaves.now.pairs c.requires.content c.law.ensures.distinct (at c.args.nodes.now) c.args.query.now c.in-Longer.child m c.end_under-first.result u c.prev_of.result c.prev_of.ensures

pub returns-in-Longer-clause-counted : goal.returns-in-Longer-clause-counted
returns-in-Longer-clause-counted g c =
    let keys = keys_in g.K.AsBytes.bytes c.args.leaves.now.pairs in
    let m = subst (λ (z : Stop). IsStop g.row.P keys (at c.args.nodes.now) z c.args.query.now) c.in-Longer.is c.stop_of-stop.ensures.stop in
    let u = c.end_under-first.ensures.ends keys m.root m.shape c.args.query.now m.covers in
    let low = within_longest g.K.AsBytes.bytes c.args.leaves.now.pairs c.end_under-first.result u.key u.is in
    let first = c.end_under-first.ensures.counted keys m.root m.shape c.args.query.now u.key m.covers u.is in
    omega (arith, c.stop_of-stop.ensures.counted)

pub last_leaf_before-requires : goal.last_leaf_before-requires
last_leaf_before-requires g c =
    let keys = keys_in g.K.AsBytes.bytes c.args.leaves.now.pairs in
    let l = subst (λ (z : Stop). IsStop g.row.P keys (at c.args.nodes.now) z c.args.query.now) c.in-AtNode.is c.stop_of-stop.ensures.stop in
    let e = c.edge_beside-edge.ensures.edge in
    (lit< tt, (c.requires.content, (_, beside_at_node keys (at c.args.nodes.now) _ _ c.args.query.now l.0 e.node e.is c.edge_beside-edge.result.1 c.edge_beside-edge.result.0 e.next)))

pub last_leaf_before-requires-in-AtEdge : goal.last_leaf_before-requires-in-AtEdge
last_leaf_before-requires-in-AtEdge g c =
    let keys = keys_in g.K.AsBytes.bytes c.args.leaves.now.pairs in
    let l = subst (λ (z : Stop). IsStop g.row.P keys (at c.args.nodes.now) z c.args.query.now) c.in-AtEdge.is c.stop_of-stop.ensures.stop in
    (lit< tt, (c.requires.content, (_, beside_at_edge keys (at c.args.nodes.now) _ _ _ c.args.query.now l.0 _ refl)))

pub returns-in-AtNode-clause-stands : goal.returns-in-AtNode-clause-stands
returns-in-AtNode-clause-stands g c =
    let keys = keys_in g.K.AsBytes.bytes c.args.leaves.now.pairs in
    let l = subst (λ (z : Stop). IsStop g.row.P keys (at c.args.nodes.now) z c.args.query.now) c.in-AtNode.is c.stop_of-stop.ensures.stop in
    let e = c.edge_beside-edge.ensures.edge in
    c.last_leaf_before.ensures.before _ (beside_at_node keys (at c.args.nodes.now) _ _ c.args.query.now l.0 e.node e.is c.edge_beside-edge.result.1 c.edge_beside-edge.result.0 e.next)

pub returns-in-AtEdge-clause-stands : goal.returns-in-AtEdge-clause-stands
returns-in-AtEdge-clause-stands g c =
    let keys = keys_in g.K.AsBytes.bytes c.args.leaves.now.pairs in
    let l = subst (λ (z : Stop). IsStop g.row.P keys (at c.args.nodes.now) z c.args.query.now) c.in-AtEdge.is c.stop_of-stop.ensures.stop in
    c.last_leaf_before-in-AtEdge.ensures.before _ (beside_at_edge keys (at c.args.nodes.now) _ _ _ c.args.query.now l.0 _ refl)
