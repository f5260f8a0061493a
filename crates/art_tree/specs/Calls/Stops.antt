-- Where a descent by the bytes of a query ends.
use Rattle.std.specs.Prelude.{◌≡◌, ◌≢◌, ℕ, Bool, true, false, not, List, [], ◌∷◌, ◌++◌, ◌<◌, ◌≤◌, ◌+◌, length, slice_index_or, Option, Some, None, IsSome}
use Rattle.blart_keys.specs.Bytes.{common, related}
use Rattle.art_tree.specs.Begins.{Bytes, Begins}
use Rattle.art_tree.specs.Invariant.EdgesAbove.{LeadsTo, edge_front}
use Rattle.art_tree.specs.Invariant.Shape.{Shape, Covers}
use Rattle.art_tree.specs.Gaps.{LeavesNearest, IsBeside}
use Rattle.art_tree.specs.Calls.Descents.{IsEndUnder}
use Rattle.art_tree.specs.Calls.Removing.{EndsBelow}
use Rattle.art_kinds.specs.Edges.{child_at, IsNext, IsPrevious}
use Rattle.art_kinds.specs.Nodes.{Node}
use Rattle.art_kinds.specs.declared.records.ids.Child.{Child}
use Rattle.art_kinds.specs.declared.records.ids.Child.TheVariants.{Leaf, Inner}
use Rattle.art_kinds.specs.declared.records.ids.Edge.{Edge}
use Rattle.art_tree.specs.declared.tree.point.Neighbour.{Neighbour}
use Rattle.art_tree.specs.declared.tree.point.Neighbour.TheVariants.{AfterLeaf, BeforeLeaf}
use Rattle.art_tree.specs.declared.tree.stop.Stop.{Stop}
use Rattle.art_tree.specs.declared.tree.stop.Stop.TheVariants.{Same, Shorter, Longer, AtNode, AtEdge}
use Rattle.art_tree.specs.declared.tree.stop.Step.{Step}
use Rattle.art_tree.specs.declared.tree.stop.Step.TheVariants.{Down, Stops}

-- a front and q have their first `len` bytes in common, and the next byte of the front is `byte`
pub record IsShared (front q : Bytes) (len byte : ℕ) : Type 0 where
  pub is : len ≡ length (common front q)
  pub next : len < length front → len < length q → byte ≡ slice_index_or front len 0

-- the child is a leaf, or a node deeper than this
abbrev pub PastDepth : (ℕ → Option Node) → ℕ → Child → Type 0
PastDepth nodes depth (Leaf i) = Unit {0}
PastDepth nodes depth (Inner n) = (x : Node) × (nodes n ≡ Some x) × (depth < x.depth)

-- a descent that reached the child after `start` bytes ends at that child
abbrev pub StopsAt : (ℕ → Option Node) → Child → ℕ → Stop → Type 0
StopsAt nodes child start (Same i) = child ≡ Leaf i
StopsAt nodes child start (Shorter i) = Unit {0}
StopsAt nodes child start (Longer c) = child ≡ c
StopsAt nodes child start (AtNode n depth) = child ≡ Inner n
StopsAt nodes child start (AtEdge c depth byte) = (child ≡ c) × (start ≤ depth) × PastDepth nodes depth c

-- the edge leads to the child at which a descent by n bytes ends, and begins within them
abbrev pub IsStopBelow : (ℕ → Option Node) → Option Child → ℕ → Option (ℕ × ℕ) → Stop → Type 0
IsStopBelow nodes root n above (Same i) = LeadsTo nodes root above (Leaf i) × EndsBelow nodes above n
IsStopBelow nodes root n above (Shorter i) = Unit {0}
IsStopBelow nodes root n above (Longer c) = LeadsTo nodes root above c × EndsBelow nodes above n
IsStopBelow nodes root n above (AtNode m depth) = LeadsTo nodes root above (Inner m)
IsStopBelow nodes root n above (AtEdge c depth byte) = LeadsTo nodes root above c × EndsBelow nodes above depth × PastDepth nodes depth c

-- the child at the top of the keys that begin with the query, if there are any
abbrev pub top_of : Stop → Option Child
top_of (Same i) = Some (Leaf i)
top_of (Shorter i) = None
top_of (Longer c) = Some c
top_of (AtNode n depth) = None
top_of (AtEdge c depth byte) = None

-- the key of the leaf is a proper prefix of q
pub record KeyEnds (keys : ℕ → Option Bytes) (i : ℕ) (q : Bytes) : Type 0 where
  pub key : Bytes
  pub is : keys i ≡ Some key
  pub begins : Begins key q
  pub shorter : length key < length q

-- a gap after a leaf, or before it
abbrev pub beside_leaf : Bool → ℕ → Neighbour
beside_leaf true i = AfterLeaf i
beside_leaf false i = BeforeLeaf i

-- the edge next to a byte, before it or after it
abbrev pub IsNextTo : Bool → List Edge → ℕ → Edge → Type 0
IsNextTo true es b e = IsPrevious es b (Some e)
IsNextTo false es b e = IsNext es b (Some e)

-- an edge of the node is next to the byte
pub record IsEdgeBeside (nodes : ℕ → Option Node) (n b : ℕ) (e : Edge) (is_after : Bool) : Type 0 where
  pub node : Node
  pub is : nodes n ≡ Some node
  pub next : IsNextTo is_after node.edges b e

module _ (P : ℕ) (keys : ℕ → Option Bytes) (nodes : ℕ → Option Node) where
  -- there is a tree of the keys, and no key is related to q
  pub record NoneRelated (q : Bytes) : Type 0 where
    pub root : Option Child
    pub shape : Shape P keys nodes root
    pub alone : (j : ℕ) (k : Bytes) → keys j ≡ Some k → related k q ≡ false

  -- q parts from the keys at a node, and its next byte is this one
  pub record LeavesAtNode (n byte : ℕ) (q : Bytes) : Type 0 where
    pub apart : NoneRelated q
    pub live : IsSome (nodes n)
    pub goes_on : Begins (apart.shape.front_of n ++ byte ∷ []) q
    pub none : (j : ℕ) (k : Bytes) → keys j ≡ Some k → Begins (apart.shape.front_of n ++ byte ∷ []) k → ⊥

  -- q parts from the keys below the child after t: their next byte is `nearest_byte`, not q's
  pub record LeavesAtEdge (child : Child) (nearest_byte byte : ℕ) (q : Bytes) : Type 0 where
    pub apart : NoneRelated q
    pub t : Bytes
    pub front : Bytes
    pub covers : Covers keys nodes apart.shape.front_of front child
    pub within : Begins front t
    pub all : (j : ℕ) (k : Bytes) → keys j ≡ Some k → Begins front k → Begins (t ++ nearest_byte ∷ []) k
    pub goes_on : Begins (t ++ byte ∷ []) q
    pub other : nearest_byte ≢ byte

  -- a child beside the gap of q: the last or the first leaf below it is beside q
  pub record IsChildBeside (q : Bytes) (child : Child) (is_after : Bool) : Type 0 where
    pub root : Option Child
    pub shape : Shape P keys nodes root
    pub front : Bytes
    pub covers : Covers keys nodes shape.front_of front child
    pub alone : (j : ℕ) (k : Bytes) → keys j ≡ Some k → related k q ≡ false
    pub beside : (i : ℕ) → IsEndUnder keys (not is_after) front i → IsBeside keys q (beside_leaf is_after i)

  -- q is a proper prefix of a stored key, and the keys below the child are those that begin with q
  pub record QueryEnds (child : Child) (q : Bytes) : Type 0 where
    pub root : Option Child
    pub shape : Shape P keys nodes root
    pub covers : Covers keys nodes shape.front_of q child
    pub leaf : ℕ
    pub key : Bytes
    pub is : keys leaf ≡ Some key
    pub begun : Begins q key
    pub longer : length q < length key

  -- in some tree, an edge leads to the child, and its front has `start` bytes and is a prefix of q
  pub record OnWay (child : Child) (start : ℕ) (q : Bytes) : Type 0 where
    pub root : Option Child
    pub shape : Shape P keys nodes root
    pub above : Option (ℕ × ℕ)
    pub leads : LeadsTo nodes root above child
    pub along : Begins (edge_front shape.front_of above) q
    pub start_is : start ≡ length (edge_front shape.front_of above)

  -- where a descent by the bytes of q ends
  abbrev pub IsStop : Stop → Bytes → Type 0
  IsStop (Same i) q = keys i ≡ Some q
  IsStop (Shorter i) q = KeyEnds keys i q
  IsStop (Longer child) q = QueryEnds child q
  IsStop (AtNode n depth) q = (l : LeavesAtNode n (slice_index_or q depth 0) q) × (depth ≡ length (l.apart.shape.front_of n)) × (depth < length q)
  IsStop (AtEdge child depth byte) q = (l : LeavesAtEdge child byte (slice_index_or q depth 0) q) × (depth ≡ length l.t) × (depth < length q)

  -- the descent ends at a node, or continues along one of its edges
  abbrev pub IsStep : ℕ → ℕ → Step → Bytes → Type 0
  IsStep n start (Down child next byte) q = OnWay child next q × ((x : Node) × (nodes n ≡ Some x) × (child_at x.edges byte ≡ Some child) × (next ≡ x.depth + 1))
  IsStep n start (Stops stop) q = IsStop stop q × StopsAt nodes (Inner n) start stop

  -- the child is beside the gap of q, and q leaves each key below it after `depth` bytes
  pub record IsGapUnder (q : Bytes) (depth : ℕ) (child : Child) (is_after : Bool) : Type 0 where
    pub beside : IsChildBeside q child is_after
    pub leaves : (i : ℕ) (key : Bytes) → keys i ≡ Some key → Begins beside.front key → LeavesNearest keys i depth q
