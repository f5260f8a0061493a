use Rattle.std.proofs.Common.{subst}
use Rattle.art_kinds.specs.Edges.{IsPrevious, IsNext}
use Rattle.art_kinds.specs.Nodes.{at}
use Rattle.art_tree.proofs.Ways.Beside.{no_edge_beside}
use Rattle.art_tree.proofs.tree.stop.edge_beside.Goals as goal

pub unreachable-requires : goal.unreachable-requires
unreachable-requires g c =
    let r = c.requires in
    let x = c.read-node.result in
    no_edge_beside r.0 (at c.args.nodes.now) c.args.id.now c.args.byte r.1 r.2 x c.read-node.ensures.value
    (subst (IsPrevious x.edges c.args.byte) c.in_default.is c.edge_before.ensures)
    (subst (IsNext x.edges c.args.byte) c.in-None.is c.edge_after.ensures)
