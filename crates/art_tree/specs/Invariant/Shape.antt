-- The inner nodes of some keys: one at each prefix at which two keys part, the front of the node.
use Rattle.std.specs.Prelude.{◌≡◌, ◌≢◌, ℕ, ◌<◌, [], ◌∷◌, ◌++◌, length, take, drop, Option, Some, None, IsSome}
use Rattle.blart_keys.specs.Bytes.{common}
use Rattle.art_tree.specs.Invariant.EdgesAbove.{LeadsTo, edge_front}
use Rattle.art_tree.specs.Begins.{Bytes, Begins, next_byte}
use Rattle.art_kinds.specs.Edges.{child_at, Ascends}
use Rattle.art_kinds.specs.Nodes.{Node}
use Rattle.art_kinds.specs.declared.records.ids.Child.{Child}
use Rattle.art_kinds.specs.declared.records.ids.Child.TheVariants.{Leaf, Inner}

-- the key of the leaf begins with g, and no other key does
pub record CoversLeaf (keys : ℕ → Option Bytes) (g : Bytes) (i : ℕ) : Type 0 where
  pub key : Bytes
  pub is : keys i ≡ Some key
  pub front : Begins g key
  pub only : (j : ℕ) (k : Bytes) → keys j ≡ Some k → Begins g k → j ≡ i

-- the node's front begins with g, and each key that begins with g begins with the front
pub record CoversNode (keys : ℕ → Option Bytes) (nodes : ℕ → Option Node) (front_of : ℕ → Bytes) (g : Bytes) (n : ℕ) : Type 0 where
  pub live : IsSome (nodes n)
  pub front : Begins g (front_of n)
  pub only : (j : ℕ) (k : Bytes) → keys j ≡ Some k → Begins g k → Begins (front_of n) k

-- the keys below the child are those that begin with g
abbrev pub Covers : (ℕ → Option Bytes) → (ℕ → Option Node) → (ℕ → Bytes) → Bytes → Child → Type 0
Covers keys nodes front_of g (Leaf i) = CoversLeaf keys g i
Covers keys nodes front_of g (Inner n) = CoversNode keys nodes front_of g n

-- two keys begin with g and differ in the next byte
pub record Parts (keys : ℕ → Option Bytes) (g : Bytes) : Type 0 where
  pub i : ℕ
  pub j : ℕ
  pub k : Bytes
  pub l : Bytes
  pub k_is : keys i ≡ Some k
  pub l_is : keys j ≡ Some l
  pub k_front : Begins g k
  pub l_front : Begins g l
  pub differ : next_byte g k ≢ next_byte g l

-- the depth and the edges of a node are right for the front g
pub record NodeFits (keys : ℕ → Option Bytes) (nodes : ℕ → Option Node) (front_of : ℕ → Bytes) (g : Bytes) (x : Node) : Type 0 where
  pub depth : x.depth ≡ length g
  pub below : (b : ℕ) (c : Child) → child_at x.edges b ≡ Some c → Covers keys nodes front_of (g ++ b ∷ []) c
  pub longer : (j : ℕ) (k : Bytes) → keys j ≡ Some k → Begins g k → length g < length k
  pub edge : (j : ℕ) (k : Bytes) → keys j ≡ Some k → Begins g k → IsSome (child_at x.edges (next_byte g k))
  pub parts : Parts keys g
  pub ascends : Ascends x.edges

-- all keys are below the root
abbrev pub RootFits : (ℕ → Option Bytes) → (ℕ → Option Node) → (ℕ → Bytes) → Option Child → Type 0
RootFits keys nodes front_of None = (j : ℕ) → keys j ≡ None
RootFits keys nodes front_of (Some c) = Covers keys nodes front_of [] c

-- the first P bytes that the front of a node has after that of the edge to it
abbrev pub kept_prefix : ℕ → (ℕ → Bytes) → Option (ℕ × ℕ) → ℕ → Bytes
kept_prefix P front_of above n = take P (drop (length (edge_front front_of above)) (front_of n))

-- each node keeps the first P bytes that its front has after that of an edge to it
abbrev pub Keeps : ℕ → (ℕ → Option Node) → Option Child → (ℕ → Bytes) → Type 0
Keeps P nodes root front_of = (above : Option (ℕ × ℕ)) (n : ℕ) (x : Node) → LeadsTo nodes root above (Inner n) → nodes n ≡ Some x → x.prefix ≡ kept_prefix P front_of above n

-- each prefix at which two keys part has one node, which keeps P bytes of its compressed prefix
pub record Shape (P : ℕ) (keys : ℕ → Option Bytes) (nodes : ℕ → Option Node) (root : Option Child) : Type 0 where
  pub front_of : ℕ → Bytes
  pub top : RootFits keys nodes front_of root
  pub node : (n : ℕ) (x : Node) → nodes n ≡ Some x → NodeFits keys nodes front_of (front_of n) x
  pub joined : (i j : ℕ) (k l : Bytes) → keys i ≡ Some k → keys j ≡ Some l → i ≢ j → (n : ℕ) × IsSome (nodes n) × (front_of n ≡ common k l)
  pub apart : (n m : ℕ) → IsSome (nodes n) → IsSome (nodes m) → front_of n ≡ front_of m → n ≡ m
  pub keeps : Keeps P nodes root front_of
