use Rattle.art_kinds.specs.Nodes.{at}
use Rattle.art_tree.proofs.Calls.Unlinking.{no_lone_edge}
use Rattle.art_tree.proofs.tree.remove.other_edge.Goals as goal

pub unreachable-requires : goal.unreachable-requires
unreachable-requires g c =
    let r = c.requires in
    no_lone_edge r.0 (at c.args.nodes.now) r.1 r.4.shape c.args.node.now c.args.byte c.read-node.result c.read-node.ensures.value
    (λ b l. c.in-None.ensures b l)
    (λ b l. c.in-None-edge_before.ensures b l)
