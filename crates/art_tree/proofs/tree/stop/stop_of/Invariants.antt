use Rattle.std.specs.Prelude.{◌+◌, ◌*◌, ◌≤◌, Some}
use Rattle.art_tree.specs.Calls.Removing.{StartsBelow}
use Rattle.art_tree.specs.Calls.Stops.{OnWay}
use Rattle.art_tree.specs.Invariant.EdgesAbove.{LeadsTo}
use Rattle.art_tree.specs.Leaves.{keys_in, bytes}
use Rattle.art_tree.specs.Longest.{longest}
use Rattle.art_kinds.specs.Nodes.{at}
use Rattle.art_tree.proofs.Ways.Depths.{rank}
use Rattle.art_tree.proofs.tree.stop.stop_of.Given as goal

abbrev pub invariant-down : goal.invariant-down
invariant-down g l = record {
  way : OnWay g.row.P (keys_in g.K.AsBytes.bytes l.leaves.pairs) (at l.nodes) l.child l.start l.query;
  leads : LeadsTo (at l.nodes) (Some l.fn.root) l.above l.child;
  starts : StartsBelow (at l.nodes) l.above l.start;
  counted : l.visits.count ≤ l.initial.visits.count + l.start * (longest (bytes g.K.AsBytes.bytes) l.leaves.pairs + 1);
  rising : l.initial.visits.count ≤ l.visits.count;
}

abbrev pub decreases-down : goal.decreases-down
decreases-down g l = rank l.nodes l.child
