use Rattle.std.proofs.Common.{◌≡◌, ℕ, ◌-◌, ◌<◌, Some}
use Rattle.art_kinds.specs.Edges.{child_at}
use Rattle.art_kinds.specs.declared.records.ids.Child.TheVariants.{Inner}
use Rattle.art_tree.proofs.tree.free_subtree.first_node.Given as goal

abbrev pub invariant-along : goal.invariant-along
invariant-along g l = record {
  there : child_at l.node.edges l.byte ≡ Some l.to;
  first : (b x : ℕ) → b < l.byte → child_at l.node.edges b ≡ Some (Inner x) → ⊥;
}

abbrev pub decreases-along : goal.decreases-along
decreases-along g l = 256 - l.byte
