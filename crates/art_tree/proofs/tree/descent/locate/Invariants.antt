use Rattle.std.proofs.Common.{◌≡◌, ℕ, take, Option, Some}
use Rattle.art_tree.specs.Begins.{Bytes, Begins}
use Rattle.art_kinds.specs.Nodes.{at}
use Rattle.art_tree.specs.Invariant.EdgesAbove.{LeadsTo, edge_front}
use Rattle.art_tree.specs.Invariant.Shape.{Shape}
use Rattle.art_tree.proofs.Ways.Depths.{rank}
use Rattle.art_tree.proofs.tree.descent.locate.Given as goal

abbrev pub invariant-down : goal.invariant-down
invariant-down g l = record {
  along : (keys : ℕ → Option Bytes) (s : Shape g.row.P keys (at l.nodes) (Some l.fn.root)) (i : ℕ) → keys i ≡ Some l.nearest → Begins (edge_front s.front_of l.above) (take l.depth l.nearest);
  leads : LeadsTo (at l.nodes) (Some l.fn.root) l.above l.at;
}

abbrev pub decreases-down : goal.decreases-down
decreases-down g l = rank l.nodes l.at
