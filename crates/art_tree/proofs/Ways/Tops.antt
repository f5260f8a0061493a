-- The keys that begin with a query, and the edge above them.
use Rattle.std.proofs.Common.{◌≡◌, ℕ, ◌<◌, ◌≤◌, inr, true, false, length, ap, sym, subst, ◌∙◌, Option, Some, None, arith}
use Rattle.std.proofs.lemmas.Bool.{false≢true}
use Rattle.blart_keys.proofs.Options.{some_of}
use Rattle.art_tree.specs.Begins.{Bytes, Begins}
use Rattle.art_tree.specs.Invariant.EdgesAbove.{LeadsTo, edge_front}
use Rattle.art_tree.specs.Invariant.Shape.{Shape, Covers}
use Rattle.art_tree.specs.Calls.Descents.{IsEndUnder}
use Rattle.art_tree.specs.Calls.Pruning.{IsSubtreeWith}
use Rattle.art_tree.specs.Calls.Removing.{EndsBelow}
use Rattle.art_tree.specs.Calls.Stops.{IsStop, IsStopBelow, top_of}
use Rattle.art_kinds.specs.Nodes.{Node}
use Rattle.art_kinds.specs.declared.records.ids.Child.{Child}
use Rattle.art_kinds.specs.declared.records.ids.Child.TheVariants.{Leaf, Inner}
use Rattle.art_tree.specs.declared.tree.descent.Subtree.{Subtree}
use Rattle.art_tree.specs.declared.tree.stop.Stop.{Stop}
use Rattle.art_tree.specs.declared.tree.stop.Stop.TheVariants.{Same, Shorter, Longer, AtNode, AtEdge}
use Rattle.art_tree.proofs.BeginsLemmas.{Begins-itself, Begins-trans, Begins-linear, Begins-length, related-from_begun}
use Rattle.art_tree.proofs.Invariant.Growing.{covers_above}
use Rattle.art_tree.proofs.Ways.Related.{one_key}
use Rattle.art_tree.proofs.Ways.Shown.{front_within}

-- in some tree of the keys, those that begin with q are below the child
pub record IsTop (P : ℕ) (keys : ℕ → Option Bytes) (nodes : ℕ → Option Node) (q : Bytes) (c : Child) : Type 0 where
  pub root : Option Child
  pub shape : Shape P keys nodes root
  pub covers : Covers keys nodes shape.front_of q c

-- the edge leads to the child, and begins within n bytes
pub top_below : (nodes : ℕ → Option Node) (root : Option Child) (n : ℕ) (above : Option (ℕ × ℕ)) (stop : Stop) {c : Child} → top_of stop ≡ Some c → IsStopBelow nodes root n above stop → LeadsTo nodes root above c × EndsBelow nodes above n
top_below nodes root n above (Same i) e below = let same : Leaf i ≡ _ = cc in (subst (λ (z : Child). LeadsTo nodes root above z) same below.0, below.1)
top_below nodes root n above (Shorter i) e below = absurd cc
top_below nodes root n above (Longer d) e below = let same : d ≡ _ = cc in (subst (λ (z : Child). LeadsTo nodes root above z) same below.0, below.1)
top_below nodes root n above (AtNode m depth) e below = absurd cc
top_below nodes root n above (AtEdge d depth byte) e below = absurd cc

module _ {P : ℕ} {keys : ℕ → Option Bytes} {nodes : ℕ → Option Node} {root : Option Child} (s : Shape P keys nodes root) (q : Bytes) where
  -- the keys that begin with q are below the top
  pub top_covers : (stop : Stop) {c : Child} → top_of stop ≡ Some c → IsStop P keys nodes stop q → IsTop P keys nodes q c
  top_covers (Same i) e is =
      let same : Leaf i ≡ _ = cc in
      subst (λ (z : Child). IsTop P keys nodes q z) same (record {
        root = root;
        shape = s;
        covers = record { key = q; is = is; front = Begins-itself q; only = λ j k k_is b. one_key keys nodes root s i q is j k k_is (inr b) };
      })
  top_covers (Shorter i) e is = absurd cc
  top_covers (Longer d) e m = let same : d ≡ _ = cc in subst (λ (z : Child). IsTop P keys nodes q z) same (record { root = m.root; shape = m.shape; covers = m.covers })
  top_covers (AtNode n depth) e is = absurd cc
  top_covers (AtEdge d depth byte) e is = absurd cc

  -- if there is no top, no key begins with q
  pub no_top : (stop : Stop) → top_of stop ≡ None → IsStop P keys nodes stop q → (j : ℕ) (k : Bytes) → keys j ≡ Some k → Begins q k → ⊥
  no_top (Same i) e is j k k_is b = absurd cc
  no_top (Shorter i) e m j k k_is b =
      let same : j ≡ i = one_key keys nodes root s i m.key m.is j k k_is (inr (Begins-trans m.key q k m.begins b)) in
      let own : keys i ≡ Some m.key = m.is in
      let other : keys i ≡ Some k = subst (λ (z : ℕ). keys z ≡ Some k) same k_is in
      let equal : k ≡ m.key = cc in
      let short : length m.key < length q = m.shorter in
      let long : length q ≤ length k = Begins-length q k b in
      let as_long : length k ≡ length m.key = ap (λ (z : Bytes). length z) equal in
      omega arith
  no_top (Longer d) e m j k k_is b = absurd cc
  no_top (AtNode n depth) e l j k k_is b = false≢true (sym (l.0.apart.alone j k k_is) ∙ related-from_begun k q b)
  no_top (AtEdge d depth byte) e l j k k_is b = false≢true (sym (l.0.apart.alone j k k_is) ∙ related-from_begun k q b)

  -- the child below such an edge, with the first leaf below it, is the subtree of q
  module _ (b : Subtree) (top : IsTop P keys nodes q b.child) (leads : LeadsTo nodes root b.above b.child) (ends : EndsBelow nodes b.above (length q)) (first : IsEndUnder keys true (edge_front s.front_of b.above) b.first) (own : IsEndUnder keys true q b.first) where
    abbrev front : Bytes
    front = edge_front s.front_of b.above

    front_first : Begins front own.key
    front_first =
        let e : keys b.first ≡ Some first.key = first.is in
        let f : keys b.first ≡ Some own.key = own.is in
        let same : first.key ≡ own.key = cc in
        subst (λ (z : Bytes). Begins front z) same first.front

    front_along : Begins front q
    front_along = Begins-linear front q own.key front_first own.front (front_within s b.child b.above leads ends)

    top_here : (c : Child) → Covers keys nodes s.front_of front c → Covers keys nodes top.shape.front_of q c → Covers keys nodes s.front_of q c
    top_here (Leaf i) over covers = covers
    top_here (Inner n) over covers =
        let x = some_of (nodes n) covers.live in
        let d : x.0.depth ≡ length (s.front_of n) = (s.node n x.0 x.1).depth in
        let d2 : x.0.depth ≡ length (top.shape.front_of n) = (top.shape.node n x.0 x.1).depth in
        let l : length q ≤ length (top.shape.front_of n) = Begins-length q (top.shape.front_of n) covers.front in
        record {
          live = covers.live;
          front = Begins-linear q (s.front_of n) own.key own.front (over.only b.first own.key own.is front_first) (omega arith);
          only = λ j k is h. over.only j k is (Begins-trans front q k front_along h);
        }

    pub is_subtree : IsSubtreeWith keys nodes root s.front_of q b
    is_subtree = record { leads = leads; along = front_along; covers = top_here b.child (covers_above keys nodes root s b.above b.child leads) top.covers }
