use Rattle.std.proofs.Common.{◌≡◌, ◌+◌, ◌≤◌, take, drop}
use Rattle.art_kinds.specs.Nodes.{at, room}
use Rattle.art_tree.specs.Calls.Building.{edges_of, MakesNode}
use Rattle.art_tree.proofs.tree.build.make_node.Given as goal

abbrev pub invariant-loop-next : goal.invariant-loop-next
invariant-loop-next g l = record {
  made : MakesNode (at l.fn.nodes) (at l.nodes) l.id l.depth (take g.row.P l.prefix) (edges_of (take (l.next-index + 2) l.loose));
  rest : l.rest ≡ drop 2 l.loose;
  room : room l.fn.nodes ≤ room l.nodes + (l.next-index + 1);
}
