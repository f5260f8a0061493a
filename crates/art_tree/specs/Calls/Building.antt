-- How the inner nodes of leaves in ascending order are made.
use Rattle.std.specs.Prelude.{◌≡◌, ◌≢◌, ◌<◌, ◌≤◌, ◌⊎◌, ℕ, ◌+◌, true, [], ◌∷◌, ◌++◌, List, map, take, drop, length, Option, Some, None, IsSome, Contains, slice_index_or, max, eqb, if◌then◌else◌}
use Rattle.blart_keys.specs.Bytes.{less}
use Rattle.art_tree.specs.Begins.{Bytes, Begins}
use Rattle.art_kinds.specs.Edges.{child_at}
use Rattle.art_kinds.specs.Nodes.{Node}
use Rattle.art_tree.specs.Invariant.Shape.{Covers, NodeFits}
use Rattle.art_kinds.specs.declared.records.ids.Child.{Child}
use Rattle.art_kinds.specs.declared.records.ids.Child.TheVariants.{Leaf, Inner}
use Rattle.art_kinds.specs.declared.records.ids.Edge.{Edge}
use Rattle.art_tree.specs.declared.tree.build.LooseEdge.{LooseEdge}

-- the front of a loose edge beside the key k: the first `e.depth` bytes of k, and then its byte
abbrev pub loose_front : Bytes → LooseEdge → Bytes
loose_front k e = take e.depth k ++ e.edge.byte ∷ []

-- the depths of loose edges ascend, and at the same depth their bytes do
abbrev pub RiseAbove : ℕ → ℕ → List LooseEdge → Type 0
RiseAbove depth byte [] = Unit {0}
RiseAbove depth byte (e ∷ es) = ((depth < e.depth) ⊎ ((depth ≡ e.depth) × (byte < e.edge.byte))) × RiseAbove e.depth e.edge.byte es

abbrev pub Rise : List LooseEdge → Type 0
Rise [] = Unit {0}
Rise (e ∷ es) = RiseAbove e.depth e.edge.byte es

-- the depth of the last loose edge, if there is one
abbrev pub last_depth : List LooseEdge → Option ℕ
last_depth [] = None
last_depth (e ∷ []) = Some e.depth
last_depth (e ∷ f ∷ es) = last_depth (f ∷ es)

-- the depth at which a node's prefix begins: past its parent's depth, and at least `least`
abbrev pub start_after : ℕ → Option ℕ → ℕ
start_after least None = least
start_after least (Some depth) = max least (depth + 1)

-- the edges of these loose edges
abbrev pub edges_of : List LooseEdge → List Edge
edges_of es = map (λ e. e.edge) es

-- a node is made, with this depth, prefix and edges
pub record MakesNode (old new : ℕ → Option Node) (n depth : ℕ) (prefix : List ℕ) (edges : List Edge) : Type 0 where
  pub fresh : old n ≡ None
  pub is : new n ≡ Some (record { depth = depth; prefix = prefix; edges = edges })
  pub others : (j : ℕ) → j ≢ n → new j ≡ old j

-- the node n, now under the number m, has one more edge after the others
pub record AddsLast (old new : ℕ → Option Node) (n m : ℕ) (e : Edge) : Type 0 where
  pub node : Node
  pub was : old n ≡ Some node
  pub is : new m ≡ Some (record node { edges = node.edges ++ e ∷ [] })
  pub fresh : m ≢ n → old m ≡ None
  pub gone : m ≢ n → new n ≡ None
  pub others : (j : ℕ) → j ≢ n → j ≢ m → new j ≡ old j

-- the child is a leaf, or a node that keeps the first P bytes that its front has after g
abbrev pub KeepsAfter : ℕ → (ℕ → Option Node) → (ℕ → Bytes) → Bytes → Child → Type 0
KeepsAfter P nodes front_of g (Leaf i) = Unit {0}
KeepsAfter P nodes front_of g (Inner n) = (x : Node) → nodes n ≡ Some x → x.prefix ≡ take P (drop (length g) (front_of n))

module _ (P : ℕ) (keys : ℕ → Option Bytes) (nodes : ℕ → Option Node) (front_of : ℕ → Bytes) where
  -- the keys below the child are those that begin with g, and a node keeps its bytes after g
  pub record StandsFor (g : Bytes) (c : Child) : Type 0 where
    pub covers : Covers keys nodes front_of g c
    pub keeps : KeepsAfter P nodes front_of g c

  -- the nodes fit the keys, whatever edges lead to them
  pub record AreMade : Type 0 where
    pub node : (n : ℕ) (x : Node) → nodes n ≡ Some x → NodeFits keys nodes front_of (front_of n) x
    pub keeps : (n b : ℕ) (x : Node) (c : Child) → nodes n ≡ Some x → child_at x.edges b ≡ Some c → KeepsAfter P nodes front_of (front_of n ++ b ∷ []) c
    pub apart : (n m : ℕ) → IsSome (nodes n) → IsSome (nodes m) → front_of n ≡ front_of m → n ≡ m

  -- an edge is loose beside the key k: it leaves k at its depth, by a byte less than k's byte there
  pub record IsLoose (k : Bytes) (e : LooseEdge) : Type 0 where
    pub within : e.depth < length k
    pub before : e.edge.byte < slice_index_or k e.depth 0
    pub stands : StandsFor (loose_front k e) e.edge.to

-- the nodes of the keys up to k, below loose edges and below the child of the first s bytes of k
pub record IsPart (P : ℕ) (keys : ℕ → Option Bytes) (nodes : ℕ → Option Node) (k : Bytes) (es : List LooseEdge) (s : ℕ) (c : Child) : Type 0 where
  pub front_of : ℕ → Bytes
  pub made : AreMade P keys nodes front_of
  pub loose : (e : LooseEdge) → Contains es e → IsLoose P keys nodes front_of k e
  pub deeper : (e : LooseEdge) → Contains es e → e.depth < s
  pub rise : Rise es
  pub within : s ≤ length k
  pub child : StandsFor P keys nodes front_of (take s k) c
  -- each node is below the child or a loose edge
  pub under : (n : ℕ) → IsSome (nodes n) → Begins (take s k) (front_of n) ⊎ ((e : LooseEdge) × Contains es e × Begins (loose_front k e) (front_of n))
  -- so is each key that is not greater than k
  pub below : (j : ℕ) (l : Bytes) → keys j ≡ Some l → Begins (take s k) l ⊎ (((e : LooseEdge) × Contains es e × Begins (loose_front k e) l) ⊎ (less k l ≡ true))

-- the number of pairs after the pair with this number
abbrev pub count_after : {X : Type 0} → List (ℕ × X) → ℕ → ℕ
count_after [] i = 0
count_after (p ∷ ps) i = if eqb p.0 i then length ps else count_after ps i

-- k is the key of the leaf, and no greater key begins with its first `least` bytes
pub record IsTurn (keys : ℕ → Option Bytes) (leaf : ℕ) (k : Bytes) (least : ℕ) : Type 0 where
  pub is : keys leaf ≡ Some k
  pub only : (j : ℕ) (l : Bytes) → keys j ≡ Some l → Begins k l → j ≡ leaf
  pub turns : (j : ℕ) (l : Bytes) → keys j ≡ Some l → less k l ≡ true → Begins (take least k) l → ⊥
  pub within : least ≤ length k
