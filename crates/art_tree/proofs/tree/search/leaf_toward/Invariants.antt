use Rattle.std.proofs.Common.{ℕ, Option, Some}
use Rattle.art_tree.specs.Begins.{Bytes}
use Rattle.art_kinds.specs.Nodes.{at}
use Rattle.art_tree.specs.Invariant.EdgesAbove.{LeadsTo, edge_front}
use Rattle.art_tree.specs.Invariant.Shape.{Shape}
use Rattle.art_tree.specs.Calls.Forks.{LeadsToNodeOf}
use Rattle.art_tree.proofs.Ways.Depths.{rank}
use Rattle.art_tree.proofs.Ways.ToQuery.{HoldsFronts}
use Rattle.art_tree.proofs.tree.search.leaf_toward.Given as goal

abbrev pub invariant-down : goal.invariant-down
invariant-down g l = record {
  holds : (keys : ℕ → Option Bytes) (s : Shape g.row.P keys (at l.nodes) (Some l.fn.root)) → HoldsFronts keys l.query (edge_front s.front_of l.edge);
  leads : LeadsTo (at l.nodes) (Some l.fn.root) l.edge l.at;
  above : LeadsToNodeOf (at l.nodes) (Some l.fn.root) l.above l.edge;
}

abbrev pub decreases-down : goal.decreases-down
decreases-down g l = rank l.nodes l.at
