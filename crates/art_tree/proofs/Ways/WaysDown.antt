-- A descent from a child: the child that it has reached, and what holds along the way.
use Rattle.std.proofs.Common.{◌≡◌, ℕ, ◌+◌, ◌<◌, ◌≤◌, List, [], ◌∷◌, ◌++◌, length, ap, subst, Option, Some, IsSome, true, false, arith, length-append}
use Rattle.art_tree.specs.Begins.{Bytes, next_byte}
use Rattle.art_kinds.specs.Edges.{child_at}
use Rattle.art_kinds.specs.Nodes.{Node}
use Rattle.art_tree.specs.Invariant.Shape.{Shape, Covers}
use Rattle.art_kinds.specs.declared.records.ids.Child.{Child}
use Rattle.art_kinds.specs.declared.records.ids.Child.TheVariants.{Leaf, Inner}
use Rattle.art_kinds.specs.declared.records.ids.Edge.{Edge}
use Rattle.art_tree.proofs.BeginsLemmas.{Begins-length}

-- edges with a child at some byte are not empty
pub edges_some : (es : List Edge) (b : ℕ) → IsSome (child_at es b) → 0 < length es
edges_some [] b h = absurd (let f : false ≡ true = h in cc)
edges_some (e ∷ es) b h = omega arith

module _ (keys : ℕ → Option Bytes) (nodes : ℕ → Option Node) (front_of : ℕ → Bytes) where
  -- A descent from a child that covers g has reached another child, which covers a longer front
  -- that satisfies `Holds`. Each visit passed at least one byte.
  pub record WayDown (Holds : Bytes → Type 0) (g : Bytes) (c : Child) (old now : ℕ) : Type 0 where
    pub front : Bytes
    pub covers : Covers keys nodes front_of front c
    pub holds : Holds front
    pub few : now + length g ≤ old + length front

module _ {keys : ℕ → Option Bytes} {nodes : ℕ → Option Node} {front_of : ℕ → Bytes} where
  -- the same for an equal child
  pub way_at : {Holds : Bytes → Type 0} {g : Bytes} {old now : ℕ} {a c : Child} → a ≡ c → WayDown keys nodes front_of Holds g a old now →
      WayDown keys nodes front_of Holds g c old now
  way_at {Holds} {g} {old} {now} e w = subst (λ (z : Child). WayDown keys nodes front_of Holds g z old now) e w

  -- a descent to a leaf makes no more visits than the leaf's key has bytes after g
  pub way_few : {Holds : Bytes → Type 0} {g : Bytes} {old now i : ℕ} → WayDown keys nodes front_of Holds g (Leaf i) old now → (key : Bytes) → keys i ≡ Some key → now + length g ≤ old + length key
  way_few {g = g} {old = old} {now = now} {i = i} w key is =
      let e : keys i ≡ Some w.covers.key = w.covers.is in
      let same : w.covers.key ≡ key = cc in
      let l : length w.front ≤ length w.covers.key = Begins-length w.front w.covers.key w.covers.front in
      let l2 : length w.covers.key ≡ length key = ap length same in
      let few : now + length g ≤ old + length w.front = w.few in
      omega arith

module _ {P : ℕ} {keys : ℕ → Option Bytes} {nodes : ℕ → Option Node} {root : Option Child} (s : Shape P keys nodes root) where
  -- each node has an edge
  pub has_edges : (n : ℕ) {x : Node} → nodes n ≡ Some x → 0 < length x.edges
  has_edges n {x} is = let p = (s.node n x is).parts in edges_some x.edges (next_byte (s.front_of n) p.k) ((s.node n x is).edge p.i p.k p.k_is p.k_front)

  pub way_start : {Holds : Bytes → Type 0} {g : Bytes} {c : Child} {old : ℕ} → Covers keys nodes s.front_of g c → Holds g → WayDown keys nodes s.front_of Holds g c old old
  way_start {g = g} h holds = record { front = g; covers = h; holds = holds; few = omega arith }

  module _ {Holds : Bytes → Type 0} {g : Bytes} {old now n : ℕ} {x : Node} (is : nodes n ≡ Some x) (w : WayDown keys nodes s.front_of Holds g (Inner n) old now) where
    -- a node that was reached has a front at least as long as the prefix that was passed
    pub way_here : now + length g ≤ old + length (s.front_of n)
    way_here =
        let l : length w.front ≤ length (s.front_of n) = Begins-length w.front (s.front_of n) w.covers.front in
        let few : now + length g ≤ old + length w.front = w.few in
        omega arith

    -- the descent continues along an edge
    pub way_on : {Next : Bytes → Type 0} → (b : ℕ) {c : Child} → child_at x.edges b ≡ Some c → Next (s.front_of n ++ b ∷ []) → {next : ℕ} → next ≡ now + 1 → WayDown keys nodes s.front_of Next g c old next
    way_on b {c} there holds e =
        let few : now + length g ≤ old + length (s.front_of n) = way_here in
        let d : length (s.front_of n ++ b ∷ []) ≡ length (s.front_of n) + 1 = length-append (s.front_of n) (b ∷ []) in
        record { front = s.front_of n ++ b ∷ []; covers = (s.node n x is).below b c there; holds = holds; few = omega arith }
