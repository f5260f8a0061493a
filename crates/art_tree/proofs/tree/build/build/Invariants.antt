use Rattle.std.proofs.Common.{◌≡◌, ◌+◌, ◌≤◌, ◌<◌, length, Some, vec_capacity}
use Rattle.art_tree.specs.Begins.{Bytes}
use Rattle.art_tree.specs.Leaves.{keys_in}
use Rattle.art_kinds.specs.Nodes.{at, room}
use Rattle.art_kinds.specs.declared.records.ids.Child.TheVariants.{Leaf}
use Rattle.art_tree.specs.Calls.Building.{IsPart, count_after}
use Rattle.art_tree.proofs.tree.build.build.Given as goal

abbrev pub invariant-over : goal.invariant-over
invariant-over g l = record {
  part : (k : Bytes) × (keys_in g.K.AsBytes.bytes l.leaves.pairs l.last ≡ Some k) × IsPart g.row.P (keys_in g.K.AsBytes.bytes l.leaves.pairs) (at l.nodes) k l.loose.items (length k) (Leaf l.last);
  room : length l.loose.items + count_after l.leaves.pairs l.last ≤ room l.nodes;
  places : length l.loose.items + count_after l.leaves.pairs l.last < vec_capacity l.loose;
}

abbrev pub decreases-over : goal.decreases-over
decreases-over g l = count_after l.leaves.pairs l.last
