use Rattle.std.proofs.Common.{length, lit<, refl, subst, Some}
use Rattle.art_tree.specs.Calls.Stops.{IsStop, IsStopBelow}
use Rattle.art_tree.specs.declared.tree.stop.Stop.{Stop}
use Rattle.art_tree.specs.Leaves.{keys_in}
use Rattle.art_kinds.specs.Nodes.{at}
use Rattle.art_tree.proofs.Ways.Points.{exact, shorter_related, longer_related}
use Rattle.art_tree.proofs.Ways.Stops.{gap_at_node, gap_at_edge}
use Rattle.art_tree.proofs.Ways.Shown.{shown_at_node, shown_at_edge}
use Rattle.art_tree.proofs.tree.point.point_below.Goals as goal

pub end_under-requires : goal.end_under-requires
end_under-requires g c = let m = (subst (λ (z : Stop). IsStop g.row.P (keys_in g.K.AsBytes.bytes c.args.leaves.now.pairs) (at c.args.nodes.now) z c.args.query.now) c.in-Longer.is c.stop_of-stop.ensures.stop) in (lit< tt, record { keys = keys_in g.K.AsBytes.bytes c.args.leaves.now.pairs; root = m.root; shape = m.shape; front = c.args.query.now; covers = m.covers })

pub end_under-requires-in-Longer : goal.end_under-requires-in-Longer
end_under-requires-in-Longer g c = let m = (subst (λ (z : Stop). IsStop g.row.P (keys_in g.K.AsBytes.bytes c.args.leaves.now.pairs) (at c.args.nodes.now) z c.args.query.now) c.in-Longer.is c.stop_of-stop.ensures.stop) in (lit< tt, record { keys = keys_in g.K.AsBytes.bytes c.args.leaves.now.pairs; root = m.root; shape = m.shape; front = c.args.query.now; covers = m.covers })

pub returns-in-Same-clause-good : goal.returns-in-Same-clause-good
returns-in-Same-clause-good g c = exact g.K.AsBytes.bytes c.args.leaves.now.pairs c.requires.content c.law.ensures.distinct (at c.args.nodes.now) c.args.query.now c.in-Same.id (subst (λ (z : Stop). IsStop g.row.P (keys_in g.K.AsBytes.bytes c.args.leaves.now.pairs) (at c.args.nodes.now) z c.args.query.now) c.in-Same.is c.stop_of-stop.ensures.stop)

pub returns-in-Shorter-clause-good : goal.returns-in-Shorter-clause-good
returns-in-Shorter-clause-good g c = shorter_related g.K.AsBytes.bytes c.args.leaves.now.pairs c.requires.content c.law.ensures.distinct (at c.args.nodes.now) c.args.query.now (Some c.args.root.now) c.requires.shape c.in-Shorter.id (subst (λ (z : Stop). IsStop g.row.P (keys_in g.K.AsBytes.bytes c.args.leaves.now.pairs) (at c.args.nodes.now) z c.args.query.now) c.in-Shorter.is c.stop_of-stop.ensures.stop)

pub returns-in-Longer-clause-good : goal.returns-in-Longer-clause-good
returns-in-Longer-clause-good g c =
    let m = (subst (λ (z : Stop). IsStop g.row.P (keys_in g.K.AsBytes.bytes c.args.leaves.now.pairs) (at c.args.nodes.now) z c.args.query.now) c.in-Longer.is c.stop_of-stop.ensures.stop) in
    longer_related g.K.AsBytes.bytes c.args.leaves.now.pairs c.requires.content c.law.ensures.distinct (at c.args.nodes.now) c.args.query.now c.in-Longer.child m c.end_under.result c.end_under-in-Longer.result
    (c.end_under.ensures.ends _ m.root m.shape c.args.query.now m.covers) (c.end_under-in-Longer.ensures.ends _ m.root m.shape c.args.query.now m.covers)

pub gap_under-requires : goal.gap_under-requires
gap_under-requires g c =
    let l = (subst (λ (z : Stop). IsStop g.row.P (keys_in g.K.AsBytes.bytes c.args.leaves.now.pairs) (at c.args.nodes.now) z c.args.query.now) c.in-AtNode.is c.stop_of-stop.ensures.stop) in
    let e = c.edge_beside-edge.ensures.edge in
    let h = gap_at_node e.is l.0 l.1 l.2 c.edge_beside-edge.result.1 c.edge_beside-edge.result.0 e.next in
    (lit< tt, (_, _, h))

pub returns-in-AtNode-clause-good : goal.returns-in-AtNode-clause-good
returns-in-AtNode-clause-good g c =
    let l = (subst (λ (z : Stop). IsStop g.row.P (keys_in g.K.AsBytes.bytes c.args.leaves.now.pairs) (at c.args.nodes.now) z c.args.query.now) c.in-AtNode.is c.stop_of-stop.ensures.stop) in
    let e = c.edge_beside-edge.ensures.edge in
    let h = gap_at_node e.is l.0 l.1 l.2 c.edge_beside-edge.result.1 c.edge_beside-edge.result.0 e.next in
    record { leaves = c.gap_under.ensures.leaves _ _ h; beside = c.gap_under.ensures.beside _ _ h; same = c.gap_under.ensures.same }

pub gap_under-requires-in-AtEdge : goal.gap_under-requires-in-AtEdge
gap_under-requires-in-AtEdge g c =
    let l = (subst (λ (z : Stop). IsStop g.row.P (keys_in g.K.AsBytes.bytes c.args.leaves.now.pairs) (at c.args.nodes.now) z c.args.query.now) c.in-AtEdge.is c.stop_of-stop.ensures.stop) in
    let h = gap_at_edge l.0 l.1 l.2 _ refl in
    (lit< tt, (_, _, h))

pub returns-in-AtEdge-clause-good : goal.returns-in-AtEdge-clause-good
returns-in-AtEdge-clause-good g c =
    let l = (subst (λ (z : Stop). IsStop g.row.P (keys_in g.K.AsBytes.bytes c.args.leaves.now.pairs) (at c.args.nodes.now) z c.args.query.now) c.in-AtEdge.is c.stop_of-stop.ensures.stop) in
    let h = gap_at_edge l.0 l.1 l.2 _ refl in
    record { leaves = c.gap_under-in-AtEdge.ensures.leaves _ _ h; beside = c.gap_under-in-AtEdge.ensures.beside _ _ h; same = c.gap_under-in-AtEdge.ensures.same }

pub returns-in-AtNode-clause-fork : goal.returns-in-AtNode-clause-fork
returns-in-AtNode-clause-fork g c s key is long =
    let keys = keys_in g.K.AsBytes.bytes c.args.leaves.now.pairs in
    let nodes = at c.args.nodes.now in
    let root = Some c.args.root.now in
    let p = c.gap_under in
    let e = c.edge_beside-edge.ensures.edge in
    let l = subst (λ (z : Stop). IsStop g.row.P keys nodes z c.args.query.now) c.in-AtNode.is c.stop_of-stop.ensures.stop in
    let leads = subst (λ (z : Stop). IsStopBelow nodes root (length c.args.query.now) c.stop_of-stop.result.1 z) c.in-AtNode.is c.stop_of-stop.ensures.above in
    shown_at_node keys nodes root s p.result key is c.stop_of-stop.result.1 _ p.ensures.depth _ p.ensures.fork leads _ e.is _ c.args.query.now l.0 l.1 _ _ e.next (p.ensures.end keys root s)

pub returns-in-AtEdge-clause-fork : goal.returns-in-AtEdge-clause-fork
returns-in-AtEdge-clause-fork g c s key is long =
    let keys = keys_in g.K.AsBytes.bytes c.args.leaves.now.pairs in
    let nodes = at c.args.nodes.now in
    let root = Some c.args.root.now in
    let p = c.gap_under-in-AtEdge in
    let b = subst (λ (z : Stop). IsStopBelow nodes root (length c.args.query.now) c.stop_of-stop.result.1 z) c.in-AtEdge.is c.stop_of-stop.ensures.above in
    shown_at_edge keys nodes root s p.result key is c.stop_of-stop.result.1 _ p.ensures.depth long _ p.ensures.fork b.0 b.1 b.2 _ (p.ensures.end keys root s)
