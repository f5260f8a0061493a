-- Forks, at which a key parts from the others, and the paths of leaves.
use Rattle.std.specs.Prelude.{◌≡◌, ℕ, ◌<◌, length, take, Option, Some, None}
use Rattle.art_tree.specs.Invariant.EdgesAbove.{LeadsTo, edge_front}
use Rattle.art_tree.specs.Begins.{Bytes, Begins}
use Rattle.art_kinds.specs.Nodes.{Node}
use Rattle.art_kinds.specs.declared.records.ids.Child.{Child}
use Rattle.art_kinds.specs.declared.records.ids.Child.TheVariants.{Leaf, Inner}
use Rattle.art_tree.specs.declared.tree.skeleton.LeafPath.{LeafPath}
use Rattle.art_tree.specs.declared.tree.descent.Fork.{Fork}
use Rattle.art_tree.specs.declared.tree.descent.Fork.TheVariants as fork

-- the child is a leaf, or a node with a front longer than n
abbrev pub PastLength : (ℕ → Bytes) → ℕ → Child → Type 0
PastLength front_of n (Leaf j) = Unit {0}
PastLength front_of n (Inner m) = n < length (front_of m)

-- the edge leads to the child, and its front is a prefix of the nearest key's first `depth` bytes
pub record EdgeFits (nodes : ℕ → Option Node) (root : Option Child) (front_of : ℕ → Bytes) (nearest : Bytes) (depth : ℕ) (above : Option (ℕ × ℕ)) (child : Child) : Type 0 where
  pub leads : LeadsTo nodes root above child
  pub along : Begins (edge_front front_of above) (take depth nearest)

-- a key may part from the nearest key at this fork: a node of this depth, or an edge past it
abbrev pub ForkFits : (ℕ → Option Node) → Option Child → (ℕ → Bytes) → Bytes → ℕ → Fork → Type 0
ForkFits nodes root front_of nearest depth (fork.Node above n) = EdgeFits nodes root front_of nearest depth above (Inner n) × (front_of n ≡ take depth nearest)
ForkFits nodes root front_of nearest depth (fork.Edge above c) = EdgeFits nodes root front_of nearest depth above c × PastLength front_of depth c

-- the edge above a fork
abbrev pub above_of : Fork → Option (ℕ × ℕ)
above_of (fork.Node above n) = above
above_of (fork.Edge above c) = above

-- the edge above leads to the node of an edge, if there is one
abbrev pub LeadsToNodeOf : (ℕ → Option Node) → Option Child → Option (ℕ × ℕ) → Option (ℕ × ℕ) → Type 0
LeadsToNodeOf nodes root above None = Unit {0}
LeadsToNodeOf nodes root above (Some e) = LeadsTo nodes root above (Inner e.0)

-- the edge leads to the leaf, and the edge above leads to the node of that edge
pub record IsLeafPath (nodes : ℕ → Option Node) (root : Option Child) (s : LeafPath) : Type 0 where
  pub leads : LeadsTo nodes root s.edge (Leaf s.id)
  pub above : LeadsToNodeOf nodes root s.above s.edge
