-- The removal of a subtree: the edge to it, and the nodes and the keys below that edge.
use Rattle.std.specs.Prelude.{◌≡◌, ◌⊎◌, ℕ, Bool, true, false, ◌<◌, ◌^◌, List, length, Option, Some, None, IsSome}
use Rattle.art_tree.specs.Begins.{Bytes, Begins}
use Rattle.art_tree.specs.Invariant.EdgesAbove.{LeadsTo, edge_front}
use Rattle.art_tree.specs.Invariant.Shape.{Covers}
use Rattle.art_kinds.specs.Edges.{child_at}
use Rattle.art_kinds.specs.Nodes.{Node, Nodes, at, live}
use Rattle.art_kinds.specs.declared.records.ids.Child.{Child}
use Rattle.art_kinds.specs.declared.records.ids.Child.TheVariants.{Inner}
use Rattle.art_kinds.specs.declared.records.ids.Edge.{Edge}
use Rattle.art_tree.specs.declared.tree.descent.Subtree.{Subtree}

-- the edge leads to the child, its front is a prefix of q, and the keys with prefix q are below
pub record IsSubtreeWith (keys : ℕ → Option Bytes) (nodes : ℕ → Option Node) (root : Option Child) (front_of : ℕ → Bytes) (q : Bytes) (b : Subtree) : Type 0 where
  pub leads : LeadsTo nodes root b.above b.child
  pub along : Begins (edge_front front_of b.above) q
  pub covers : Covers keys nodes front_of q b.child

-- of the keys that begin with g, only the key of the leaf i is left, and the others are unchanged
pub record Prunes (old new : ℕ → Option Bytes) (g : Bytes) (i : ℕ) (k : Bytes) : Type 0 where
  pub was : old i ≡ Some k
  pub front : Begins g k
  pub now : new i ≡ Some k
  pub kept : (j : ℕ) (l : Bytes) → old j ≡ Some l → (Begins g l → ⊥) → new j ≡ Some l
  pub stood : (j : ℕ) (l : Bytes) → new j ≡ Some l → old j ≡ Some l
  pub only : (j : ℕ) (l : Bytes) → new j ≡ Some l → Begins g l → j ≡ i

-- the nodes whose fronts begin with g are removed, and the others are unchanged
pub record FreesSubtree (old new : ℕ → Option Node) (front_of : ℕ → Bytes) (g : Bytes) : Type 0 where
  pub gone : (m : ℕ) → Begins g (front_of m) → new m ≡ None
  pub kept : (m : ℕ) → (Begins g (front_of m) → ⊥) → new m ≡ old m

-- an edge of the node m leads to the node x
abbrev pub LeadsIn : (ℕ → Option Node) → ℕ → ℕ → ℕ → Type 0
LeadsIn nodes m b x = (y : Node) × (nodes m ≡ Some y) × (child_at y.edges b ≡ Some (Inner x))

-- there is an edge after the one with this byte
abbrev pub IsNotLast : List Edge → ℕ → Type 0
IsNotLast edges b = (d : ℕ) × (b < d) × IsSome (child_at edges d)

-- the nodes with `goes` are below `head`, each at one edge, and the others are unchanged.
-- Below a fresh node, and at an edge that is not the last, each node is fresh and deeper
pub record Loose (goes : ℕ → Bool) (before nodes : ℕ → Option Node) (head : ℕ) : Type 0 where
  pub fresh : ℕ → Bool
  pub rank : ℕ → ℕ
  pub kept : (j : ℕ) → goes j ≡ false → nodes j ≡ before j
  pub live : IsSome (nodes head)
  pub own : goes head ≡ true
  pub some : (m : ℕ) (y : Node) → nodes m ≡ Some y → goes m ≡ true → 0 < length y.edges
  pub down : (m b x : ℕ) → goes m ≡ true → LeadsIn nodes m b x → IsSome (nodes x) × (goes x ≡ true) × (rank m < rank x)
  pub once : (m b n d x : ℕ) → goes m ≡ true → goes n ≡ true → LeadsIn nodes m b x → LeadsIn nodes n d x → (m ≡ n) × (b ≡ d)
  pub headless : (m b : ℕ) → goes m ≡ true → LeadsIn nodes m b head → ⊥
  pub covered : (n : ℕ) → IsSome (nodes n) → goes n ≡ true → (n ≡ head) ⊎ ((m : ℕ) × (b : ℕ) × (goes m ≡ true) × LeadsIn nodes m b n)
  pub deeper : (m b x : ℕ) (y z : Node) → goes m ≡ true → nodes m ≡ Some y → child_at y.edges b ≡ Some (Inner x) → nodes x ≡ Some z → (fresh m ≡ true) ⊎ IsNotLast y.edges b → (fresh x ≡ true) × (y.depth < z.depth)

-- the byte and the node of the first edge that leads to a node, or none if no edge does
abbrev pub IsFirstNode : List Edge → Option (ℕ × ℕ) → Type 0
IsFirstNode edges None = (b x : ℕ) → child_at edges b ≡ Some (Inner x) → ⊥
IsFirstNode edges (Some f) = (child_at edges f.0 ≡ Some (Inner f.1)) × ((b x : ℕ) → b < f.0 → child_at edges b ≡ Some (Inner x) → ⊥)

-- the same, for the edges of a node under a number
pub record HasFirstNode (nodes : ℕ → Option Node) (n : ℕ) (f : Option (ℕ × ℕ)) : Type 0 where
  pub node : Node
  pub is : nodes n ≡ Some node
  pub first : IsFirstNode node.edges f

-- the node m is deeper than the node n was
pub record IsDeeper (old new : ℕ → Option Node) (n m : ℕ) : Type 0 where
  pub was : Node
  pub was_is : old n ≡ Some was
  pub is : Node
  pub is_is : new m ≡ Some is
  pub deeper : was.depth < is.depth

-- there are fewer nodes, or as many and the node m is deeper than the node n was
abbrev pub Advances : Nodes → Nodes → ℕ → ℕ → Type 0
Advances old new n m = (live new < live old) ⊎ ((live new ≡ live old) × (d : IsDeeper (at old) (at new) n m) × (d.was.depth < 2 ^ 64))
