-- How a leaf is added to the tree.
use Rattle.std.specs.Prelude.{◌≡◌, ◌≢◌, ◌<◌, ◌≤◌, ◌⊎◌, ℕ, List, take, slice_range, length, Option, Some, None, IfSome}
use Rattle.blart_keys.specs.Content.{IsPut}
use Rattle.art_tree.specs.Begins.{Bytes}
use Rattle.art_tree.specs.Content.{Content}
use Rattle.art_tree.specs.Gaps.{LeavesNearest}
use Rattle.art_tree.specs.Leaves.{Leaves, Numbered, leaf_in, OthersStand, bytes, room as leaves_room}
use Rattle.art_kinds.specs.Edges.{child_at}
use Rattle.art_kinds.specs.Nodes.{Node, Nodes, Makes, room}
use Rattle.art_tree.specs.Invariant.Shape.{Shape}
use Rattle.art_tree.specs.Calls.Forks.{ForkFits}
use Rattle.art_kinds.specs.declared.records.ids.Child.{Child}
use Rattle.art_kinds.specs.declared.records.ids.Child.TheVariants.{Leaf, Inner}
use Rattle.art_kinds.specs.declared.records.ids.Edge.{Edge}
use Rattle.art_tree.specs.declared.tree.descent.Fork.{Fork}
use Rattle.art_tree.specs.declared.tree.point.Gap.{Gap}
use Rattle.art_tree.specs.declared.tree.point.Point.{Point}
use Rattle.art_tree.specs.declared.tree.point.Point.TheVariants.{Empty, Exact, Related, Free}

-- the leaf i is added, with the key k
pub record Gains (old new : ℕ → Option Bytes) (i : ℕ) (k : Bytes) : Type 0 where
  pub fresh : old i ≡ None
  pub has : new i ≡ Some k
  pub others : (j : ℕ) → j ≢ i → new j ≡ old j

-- in some tree with this root, the key parts from the nearest stored key at the fork
pub record IsForkFor (P : ℕ) (nodes : ℕ → Option Node) (root : Option Child) (fork : Fork) (key nearest : Bytes) (depth : ℕ) : Type 0 where
  pub keys : ℕ → Option Bytes
  pub shape : Shape P keys nodes root
  pub leaf : ℕ
  pub is : keys leaf ≡ Some nearest
  pub leaves : LeavesNearest keys leaf depth key
  pub fits : ForkFits nodes root shape.front_of nearest depth fork

-- in each tree of these keys, a key that parts from the nearest one at this depth does so here
abbrev pub IsShownIn : ℕ → (ℕ → Option Bytes) → (ℕ → Option Node) → Option Child → ℕ → ℕ → Fork → Type 0
IsShownIn P keys nodes root nearest depth fork =
    (s : Shape P keys nodes root) (key : Bytes) → keys nearest ≡ Some key → depth ≤ length key
    → ForkFits nodes root s.front_of key depth fork

-- the same holds in each tree with this root
abbrev pub IsShown : ℕ → (ℕ → Option Node) → Option Child → Gap → Fork → Type 0
IsShown P nodes root gap fork = (keys : ℕ → Option Bytes) → IsShownIn P keys nodes root gap.nearest gap.depth fork

-- if the point is free, this is true of its gap
abbrev pub IfFree : Point → (Gap → Type 0) → Type 0
IfFree Empty T = Unit {0}
IfFree (Exact id) T = Unit {0}
IfFree (Related first last) T = Unit {0}
IfFree (Free gap) T = T gap

-- in some tree, this is the key of the gap's nearest leaf, and the fork is right if it is known
pub record HasNearest (P : ℕ) (nodes : ℕ → Option Node) (root : Option Child) (gap : Gap) (shown : Option Fork) (nearest : Bytes) : Type 0 where
  pub keys : ℕ → Option Bytes
  pub shape : Shape P keys nodes root
  pub is : keys gap.nearest ≡ Some nearest
  pub within : gap.depth ≤ length nearest
  pub known : IfSome shown (IsShownIn P keys nodes root gap.nearest gap.depth)

-- the node has this depth, and its edge by this byte leads to the leaf
pub record IsOverLeaf (nodes : ℕ → Option Node) (n depth byte leaf : ℕ) : Type 0 where
  pub node : Node
  pub is : nodes n ≡ Some node
  pub deep : node.depth ≡ depth
  pub there : child_at node.edges byte ≡ Some (Leaf leaf)

-- each tree in which the key parts from the nearest one at the fork now has the leaf i with it too
abbrev pub TreeGains : ℕ → (ℕ → Option Node) → (ℕ → Option Node) → Option Child → Option Child → Fork → Bytes → Bytes → ℕ → ℕ → Type 0
TreeGains P old new root root' fork key nearest depth i =
    (keys keys' : ℕ → Option Bytes) (s : Shape P keys old root) (leaf : ℕ) → keys leaf ≡ Some nearest → LeavesNearest keys leaf depth key → ForkFits old root s.front_of nearest depth fork
    → Gains keys keys' i key → Shape P keys' new root'

-- a node is made with these two edges, in the order of their bytes
pub record MakesNodeOfTwo (old new : ℕ → Option Node) (n depth : ℕ) (prefix : List ℕ) (one other : Edge) : Type 0 where
  pub low : Edge
  pub high : Edge
  pub made : Makes old new n depth prefix low high
  pub sorted : low.byte < high.byte
  pub both : ((low ≡ one) × (high ≡ other)) ⊎ ((low ≡ other) × (high ≡ one))

-- the child is a leaf, or a node with a depth of at least `least` and at most `most`
abbrev pub DepthWithin : (ℕ → Option Node) → Child → ℕ → ℕ → Type 0
DepthWithin nodes (Leaf i) least most = Unit {0}
DepthWithin nodes (Inner n) least most = (x : Node) × (nodes n ≡ Some x) × (least ≤ x.depth) × (x.depth ≤ most)

-- the child is a leaf, or a node that keeps P bytes of the key from `from` to the node's depth
abbrev pub KeepsFrom : ℕ → (ℕ → Option Node) → Child → Bytes → ℕ → Type 0
KeepsFrom P nodes (Leaf i) key from = Unit {0}
KeepsFrom P nodes (Inner n) key from = (x : Node) → nodes n ≡ Some x → x.prefix ≡ take P (slice_range key from x.depth)

-- the content of a tree with these leaves and nodes
abbrev pub content_of : {K V : Type 0} → Leaves K V → Nodes → Content K V
content_of leaves nodes = record { pairs = leaves.pairs; spares = record { leaves = leaves_room leaves; nodes = room nodes } }

-- the tree has all keys but that of the leaf i, which parts from the nearest key at this depth
pub record IsToJoin (P : ℕ) (keys : ℕ → Option Bytes) (nodes : ℕ → Option Node) (root : Option Child) (nearest depth : ℕ) (shown : Option Fork) (i : ℕ) : Type 0 where
  pub rest : ℕ → Option Bytes
  pub shape : Shape P rest nodes root
  pub key : Bytes
  pub leaves : LeavesNearest rest nearest depth key
  pub gains : Gains rest keys i key
  pub known : IfSome shown (IsShownIn P rest nodes root nearest depth)

-- the pair is put under a fresh id, and each other id has the pair that it had
pub record PutsPair {K V : Type 0} (key_bytes : K → List ℕ) (old new : List (Numbered K V)) (id : ℕ) (x : K × V) : Type 0 where
  pub put : IsPut (bytes key_bytes) old (id, x) new
  pub fresh : leaf_in old id ≡ None
  pub now : leaf_in new id ≡ Some x
  pub others : OthersStand old new id
