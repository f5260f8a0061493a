-- What descents in a tree find.
use Rattle.std.specs.Prelude.{◌≡◌, ◌≢◌, ℕ, Bool, true, false, ◌+◌, ◌<◌, ◌≤◌, ◌⊎◌, length, List, Option, Some, None, IsSome}
use Rattle.blart_keys.specs.Bytes.{PartsBelow}
use Rattle.art_tree.specs.Begins.{Bytes, Begins}
use Rattle.art_tree.specs.Leaves.{Numbered, leaf_in, keys_in}
use Rattle.art_kinds.specs.Nodes.{Node}
use Rattle.art_tree.specs.Invariant.Shape.{Shape, Covers}
use Rattle.art_kinds.specs.declared.records.ids.Child.{Child}

-- in some tree, the keys below the child are those that begin with some prefix
pub record IsSubtree (P : ℕ) (nodes : ℕ → Option Node) (child : Child) : Type 0 where
  pub keys : ℕ → Option Bytes
  pub root : Option Child
  pub shape : Shape P keys nodes root
  pub front : Bytes
  pub covers : Covers keys nodes shape.front_of front child

-- the child is the root of some tree
pub record IsRoot (P : ℕ) (nodes : ℕ → Option Node) (child : Child) : Type 0 where
  pub keys : ℕ → Option Bytes
  pub shape : Shape P keys nodes (Some child)

-- in some tree with this root, `nearest` is a stored key of at least `depth` bytes
pub record IsWayOf (P : ℕ) (nodes : ℕ → Option Node) (root : Child) (nearest : Bytes) (depth : ℕ) : Type 0 where
  pub keys : ℕ → Option Bytes
  pub shape : Shape P keys nodes (Some root)
  pub leaf : ℕ
  pub is : keys leaf ≡ Some nearest
  pub within : depth ≤ length nearest

-- there is a node under the number, and it has edges
pub record HasEdges (nodes : ℕ → Option Node) (n : ℕ) : Type 0 where
  pub node : Node
  pub is : nodes n ≡ Some node
  pub some : 0 < length node.edges

-- two keys part, the first before the second in ascending order, or in descending order
abbrev pub PartsBefore : Bool → Bytes → Bytes → Type 0
PartsBefore true k l = PartsBelow k l
PartsBefore false k l = PartsBelow l k

module _ (keys : ℕ → Option Bytes) where
  -- of the keys that begin with g, the leaf has the least, or the greatest
  pub record IsEndUnder (is_first : Bool) (g : Bytes) (i : ℕ) : Type 0 where
    pub key : Bytes
    pub is : keys i ≡ Some key
    pub front : Begins g key
    pub end : (j : ℕ) (k : Bytes) → keys j ≡ Some k → Begins g k → (j ≡ i) ⊎ PartsBefore is_first key k

module _ (keys : ℕ → Option Bytes) (nodes : ℕ → Option Node) (front_of : ℕ → Bytes) (f : Bytes) (old new : ℕ) where
  -- no node has the front f
  pub record FindsNone : Type 0 where
    pub none : (m : ℕ) → IsSome (nodes m) → front_of m ≢ f
    pub leaf : ℕ
    pub key : Bytes
    pub is : keys leaf ≡ Some key
    pub few : new ≤ old + length key + 1

  -- the front of a node is as long as f, and if a node has the front f, it is this one
  pub record FindsNode (count leaf : ℕ) : Type 0 where
    pub number : ℕ
    pub node : Node
    pub is : nodes number ≡ Some node
    pub as_long : length (front_of number) ≡ length f
    pub counted : count ≡ length node.edges
    pub first : IsEndUnder keys true (front_of number) leaf
    pub only : (m : ℕ) → IsSome (nodes m) → front_of m ≡ f → front_of number ≡ f
    pub few : new ≤ old + length first.key

  -- the result of a descent by the bytes of f: the count of a node's edges, and its first leaf
  abbrev pub Finds : Option (ℕ × ℕ) → Type 0
  Finds None = FindsNone
  Finds (Some found) = FindsNode found.0 found.1

module _ (keys : ℕ → Option Bytes) (q : Bytes) where
  -- no key is a prefix of q
  abbrev pub NoFront : Type 0
  NoFront = (j : ℕ) (k : Bytes) → keys j ≡ Some k → Begins k q → ⊥

  -- the leaf's key is the only one that may be a prefix of q
  pub record IsOnlyFront (i : ℕ) : Type 0 where
    pub key : Bytes
    pub is : keys i ≡ Some key
    pub only : (j : ℕ) (k : Bytes) → keys j ≡ Some k → Begins k q → j ≡ i

  -- no key is a prefix of q, or only the leaf's key may be
  abbrev pub IsAloneAt : Option ℕ → Type 0
  IsAloneAt None = NoFront
  IsAloneAt (Some i) = IsOnlyFront i

  -- the result of a descent by the bytes of q: the only leaf whose key may be a prefix, or none
  abbrev pub GoesTo : ℕ → ℕ → Option ℕ → Type 0
  GoesTo old new None = NoFront × (new ≤ old + length q + 1)
  GoesTo old new (Some i) = IsOnlyFront i × (new ≤ old + length q)

-- no key is a prefix of q, or only the key of this pair may be
abbrev pub IsFrontAlone : {K V : Type 0} → (K → List ℕ) → List (Numbered K V) → Bytes → Option (ℕ × (K × V)) → Type 0
IsFrontAlone key_bytes pairs q None = NoFront (keys_in key_bytes pairs) q
IsFrontAlone key_bytes pairs q (Some f) = IsOnlyFront (keys_in key_bytes pairs) q f.0 × (leaf_in pairs f.0 ≡ Some f.1)
