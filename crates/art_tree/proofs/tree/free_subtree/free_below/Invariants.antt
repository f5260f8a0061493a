use Rattle.std.proofs.Common.{ℕ, Bool}
use Rattle.art_kinds.specs.Nodes.{at}
use Rattle.art_tree.specs.Calls.Pruning.{Loose}
use Rattle.art_tree.proofs.Calls.Freeing.{left}
use Rattle.art_tree.proofs.tree.free_subtree.free_below.Given as goal

abbrev pub invariant-each : goal.invariant-each
invariant-each g l = record {
  loose : (goes : ℕ → Bool) → Loose goes (at l.initial.nodes) (at l.initial.nodes) l.fn.top → Loose goes (at l.initial.nodes) (at l.nodes) l.head;
}

abbrev pub decreases-each : goal.decreases-each
decreases-each g l = left l.nodes l.head
