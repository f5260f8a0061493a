-- What the removal of a leaf finds, and how it changes the nodes.
use Rattle.std.specs.Prelude.{◌≡◌, ◌≢◌, ℕ, ◌+◌, ◌<◌, List, take, drop, length, Option, Some, None}
use Rattle.art_tree.specs.Invariant.EdgesAbove.{LeadsTo, TurnsTo}
use Rattle.art_tree.specs.Begins.{Bytes}
use Rattle.art_kinds.specs.Edges.{child_at}
use Rattle.art_kinds.specs.Nodes.{Node, Reprefixes, Frees}
use Rattle.art_tree.specs.Invariant.Shape.{Shape}
use Rattle.art_kinds.specs.declared.records.ids.Child.{Child}
use Rattle.art_kinds.specs.declared.records.ids.Child.TheVariants.{Leaf, Inner}
use Rattle.art_kinds.specs.declared.records.ids.Edge.{Edge}

-- the leaf i, which had the key k, is removed
pub record Loses (old new : ℕ → Option Bytes) (i : ℕ) (k : Bytes) : Type 0 where
  pub was : old i ≡ Some k
  pub gone : new i ≡ None
  pub others : (j : ℕ) → j ≢ i → new j ≡ old j

-- the edge of the node n by the byte b leads to the leaf i, and the edge above leads to the node
pub record IsLeafOf (P : ℕ) (keys : ℕ → Option Bytes) (nodes : ℕ → Option Node) (root : Option Child) (above : Option (ℕ × ℕ)) (n b i : ℕ) : Type 0 where
  pub shape : Shape P keys nodes root
  pub key : Bytes
  pub key_is : keys i ≡ Some key
  pub node : Node
  pub is : nodes n ≡ Some node
  pub low : child_at node.edges b ≡ Some (Leaf i)
  pub leads : LeadsTo nodes root above (Inner n)

-- an edge of the node by another byte
pub record OtherEdge (nodes : ℕ → Option Node) (n b : ℕ) (e : Edge) : Type 0 where
  pub node : Node
  pub is : nodes n ≡ Some node
  pub there : child_at node.edges e.byte ≡ Some e.to
  pub other : b ≢ e.byte

-- in some tree of these keys, the edge above leads to the node n, which has this edge
pub record IsChildBelow (P : ℕ) (keys : ℕ → Option Bytes) (nodes : ℕ → Option Node) (above : Option (ℕ × ℕ)) (n : ℕ) (e : Edge) : Type 0 where
  pub root : Option Child
  pub shape : Shape P keys nodes root
  pub leads : LeadsTo nodes root above (Inner n)
  pub node : Node
  pub is : nodes n ≡ Some node
  pub there : child_at node.edges e.byte ≡ Some e.to

-- the bytes below the edge begin at this depth
abbrev pub StartsBelow : (ℕ → Option Node) → Option (ℕ × ℕ) → ℕ → Type 0
StartsBelow nodes None start = start ≡ 0
StartsBelow nodes (Some e) start = (x : Node) × (nodes e.0 ≡ Some x) × (start ≡ x.depth + 1)

-- the depth of the edge's node is less than `end`
abbrev pub EndsBelow : (ℕ → Option Node) → Option (ℕ × ℕ) → ℕ → Type 0
EndsBelow nodes None end = Unit {0}
EndsBelow nodes (Some e) end = (x : Node) × (nodes e.0 ≡ Some x) × (x.depth < end)

-- the child is a leaf or has another prefix, and the rest is unchanged
abbrev pub Cuts : (ℕ → Option Node) → (ℕ → Option Node) → Child → (ℕ → List ℕ) → Type 0
Cuts old new (Leaf i) prefix = (j : ℕ) → new j ≡ old j
Cuts old new (Inner n) prefix = (x : Node) × (old n ≡ Some x) × Reprefixes old new n (prefix x.depth)

-- the child is a leaf or keeps P bytes that its front has after g, and the rest is unchanged
abbrev pub CutsAfter : ℕ → (ℕ → Option Node) → (ℕ → Option Node) → (ℕ → Bytes) → Bytes → Child → Type 0
CutsAfter P old new front_of g (Leaf i) = (j : ℕ) → new j ≡ old j
CutsAfter P old new front_of g (Inner n) = Reprefixes old new n (take P (drop (length g) (front_of n)))

-- the edge is redirected to the child, and then the node is removed
abbrev pub Merged : (ℕ → Option Node) → (ℕ → Option Node) → Option Child → Option Child → Option (ℕ × ℕ) → ℕ → Child → Type 0
Merged old new root root' above n to = (mid : ℕ → Option Node) × TurnsTo old mid root root' above to × Frees mid new n
