use Rattle.std.proofs.Common.{◌≡◌, ◌+◌, ◌≤◌, ℕ, length, Option, vec_capacity}
use Rattle.art_tree.specs.Begins.{Bytes}
use Rattle.art_kinds.specs.Nodes.{at, room}
use Rattle.art_kinds.specs.declared.records.ids.Child.TheVariants.{Leaf}
use Rattle.art_tree.specs.Calls.Building.{last_depth, start_after, IsPart, IsTurn}
use Rattle.art_tree.proofs.tree.build.close.Given as goal

abbrev pub invariant-up : goal.invariant-up
invariant-up g l = record {
  part : (keys : ℕ → Option Bytes) → IsTurn keys l.fn.leaf l.key l.least → IsPart g.row.P keys (at l.initial.nodes) l.key l.initial.loose.items (length l.key) (Leaf l.fn.leaf) → IsPart g.row.P keys (at l.nodes) l.key l.loose.items (start_after l.least (last_depth l.loose.items)) l.child;
  room : room l.initial.nodes + length l.loose.items ≤ room l.nodes + length l.initial.loose.items;
  fewer : length l.loose.items ≤ length l.initial.loose.items;
  capacity : vec_capacity l.loose ≡ vec_capacity l.initial.loose;
}

abbrev pub decreases-up : goal.decreases-up
decreases-up g l = length l.loose.items
