use Rattle.std.proofs.Common.{ℕ, ◌≤◌, Option}
use Rattle.art_tree.specs.Begins.{Bytes}
use Rattle.art_kinds.specs.Edges.{is_first}
use Rattle.art_kinds.specs.Nodes.{at}
use Rattle.art_tree.specs.Invariant.Shape.{Shape, Covers}
use Rattle.art_kinds.specs.declared.records.ids.Child.{Child}
use Rattle.art_tree.proofs.Ways.Depths.{rank}
use Rattle.art_tree.specs.Calls.Descents.{IsEndUnder}
use Rattle.art_tree.proofs.Ways.WaysDown.{WayDown}
use Rattle.art_tree.proofs.tree.descent.end_under.Given as goal

abbrev pub invariant-down : goal.invariant-down
invariant-down g l = record {
  way : (keys : ℕ → Option Bytes) (root : Option Child) (s : Shape g.row.P keys (at l.nodes) root) (g : Bytes) → Covers keys (at l.nodes) s.front_of g l.fn.child → WayDown keys (at l.nodes) s.front_of (λ front. (i : ℕ) → IsEndUnder keys (is_first l.end) front i → IsEndUnder keys (is_first l.end) g i) g l.at l.initial.visits.count l.visits.count;
  rising : l.initial.visits.count ≤ l.visits.count;
}

abbrev pub decreases-down : goal.decreases-down
decreases-down g l = rank l.nodes l.at
