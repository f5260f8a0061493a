-- The descent by the bytes of a query, and where it ends.
use Rattle.std.proofs.Common.{◌≡◌, ◌≢◌, ℕ, zero, suc, ◌+◌, ◌<◌, ◌≤◌, Bool, true, false, refl, [], ◌∷◌, ◌++◌, inl, inr, length, take, drop, get_or, ap, sym, subst, ◌∙◌, Option, Some, None, arith, eqb, eq-eqb, length-drop, length-append, get_or-take, get_or-drop}
use Rattle.std.proofs.lemmas.Bool.{cases_lt, false_from_ne_true}
use Rattle.std.proofs.lemmas.Bool.Decides.{eqb_tells}
use Rattle.std.proofs.lemmas.List.{length-take}
use Rattle.blart_keys.specs.Bytes.{common, related}
use Rattle.blart_keys.proofs.Options.{not_some, some_of}
use Rattle.art_tree.specs.Begins.{Bytes, Begins, next_byte}
use Rattle.art_tree.specs.Gaps.{LeavesNearest}
use Rattle.art_tree.specs.Invariant.EdgesAbove.{edge_front}
use Rattle.art_tree.specs.Invariant.Shape.{Shape, Covers, CoversLeaf, CoversNode, NodeFits}
use Rattle.art_tree.specs.Calls.Descents.{IsEndUnder}
use Rattle.art_tree.specs.Calls.Stops.{IsShared, OnWay, IsGapUnder, KeyEnds, QueryEnds, LeavesAtNode, LeavesAtEdge, IsNextTo}
use Rattle.art_kinds.specs.Edges.{child_at}
use Rattle.art_kinds.specs.Nodes.{Node}
use Rattle.art_kinds.specs.declared.records.ids.Child.{Child}
use Rattle.art_kinds.specs.declared.records.ids.Child.TheVariants.{Leaf, Inner}
use Rattle.art_kinds.specs.declared.records.ids.Edge.{Edge}
use Rattle.std.specs.Prelude.{ltb}
use Rattle.art_tree.proofs.BeginsLemmas.{Begins-itself, Begins-trans, Begins-linear, Begins-equal, Begins-more, Begins-next, Begins-take, Begins-length, Begins-edge_front, common-greatest, common-in_left, common-in_right, common-left, common-right, common_length, related_cases, take_front}
use Rattle.art_tree.proofs.Invariant.Growing.{covers_above, some_key}
use Rattle.art_tree.proofs.Invariant.SmallShapes.{unrelated}
use Rattle.art_tree.proofs.Ways.Beside.{beside_at_node, beside_at_edge}
use Rattle.art_tree.proofs.Ways.Related.{nearest_same, nearest_begins, nearest_begun}

-- ---- the common prefix of two lists after a prefix of both

common_after : (g a b : Bytes) → common (g ++ a) (g ++ b) ≡ g ++ common a b
common_after [] a b = refl
common_after (x ∷ g) a b = let e : eqb x x ≡ true = eq-eqb x x refl in rw (e, common_after g a b) refl

front_after : (g k : Bytes) → Begins g k → g ++ drop (length g) k ≡ k
front_after [] k b = refl
front_after (x ∷ g) [] b = absurd b
front_after (x ∷ g) (y ∷ k) b = let e : x ≡ y = b.0 in let h : g ++ drop (length g) k ≡ k = front_after g k b.1 in cc

-- the common bytes are the prefix, and the common bytes after it
pub common_from : (g a b : Bytes) → Begins g a → Begins g b → length (common a b) ≡ length g + length (common (drop (length g) a) (drop (length g) b))
common_from g a b ha hb =
    let ea : g ++ drop (length g) a ≡ a = front_after g a ha in
    let eb : g ++ drop (length g) b ≡ b = front_after g b hb in
    let e : common (g ++ drop (length g) a) (g ++ drop (length g) b) ≡ g ++ common (drop (length g) a) (drop (length g) b) = common_after g (drop (length g) a) (drop (length g) b) in
    let e2 : common a b ≡ g ++ common (drop (length g) a) (drop (length g) b) = cc in
    ap (λ (z : Bytes). length z) e2 ∙ length-append g (common (drop (length g) a) (drop (length g) b))

-- if the first bytes of a list part from another list, the list parts from it there too
pub common_first : (n : ℕ) (a b : Bytes) → length (common (take n a) b) < length (take n a) → length (common a b) ≡ length (common (take n a) b)
common_first zero [] b l = refl
common_first (suc n) [] b l = refl
common_first zero (x ∷ a) b l = absurd (omega arith)
common_first (suc n) (x ∷ a) [] l = refl
common_first (suc n) (x ∷ a) (y ∷ b) l =
    elim (eqb_tells x y) [
      | inl e ↦
          let t : eqb x y ≡ true = eq-eqb x y e.1 in
          let l' : suc (length (common (take n a) b)) < suc (length (take n a)) = rw t at l in
          rw t (ap suc (common_first n a b (omega arith)))
      | inr e ↦ rw e.0 refl
    ]

-- ---- a query that leaves a key

module _ (keys : ℕ → Option Bytes) (q : Bytes) where
  -- q leaves each key that continues from t with another byte
  leaves_nearest : (t key : Bytes) (b c depth : ℕ) → depth ≡ length t → depth < length q → b ≡ get_or q depth 0 → Begins (t ++ b ∷ []) q → Begins (t ++ c ∷ []) key → (i : ℕ) → keys i ≡ Some key
      → ((j : ℕ) (k : Bytes) → keys j ≡ Some k → Begins (t ++ b ∷ []) k → ⊥) → LeavesNearest keys i depth q
  leaves_nearest t key b c depth d lq b_is hq hk i is none =
      let tq : Begins t q = Begins-edge_front t q b hq in
      let tk : Begins t key = Begins-edge_front t key c hk in
      let q_is : take depth q ≡ t = ap (λ (z : ℕ). take z q) d ∙ take_front t q tq in
      let k_is : take depth key ≡ t = ap (λ (z : ℕ). take z key) d ∙ take_front t key tk in
      let long : length (t ++ c ∷ []) ≤ length key = Begins-length (t ++ c ∷ []) key hk in
      let one : length (t ++ c ∷ []) ≡ length t + 1 = length-append t (c ∷ []) in
      record {
        nearest_key = key;
        nearest_is = is;
        along = k_is ∙ sym q_is;
        longer = lq;
        nearest_longer = omega arith;
        alone = λ j l l_is h. none j l l_is (subst (λ (z : ℕ). Begins (t ++ z ∷ []) l) (sym b_is) (subst (λ (z : Bytes). Begins (z ++ get_or q depth 0 ∷ []) l) q_is h));
      }

-- ---- a front f that all keys with the front of an edge begin with, and a query that parts from it

module _ {P : ℕ} (keys : ℕ → Option Bytes) (nodes : ℕ → Option Node) (q : Bytes) where
  module _ (root : Option Child) (s : Shape P keys nodes root) (g : Bytes) (c : Child) (covers : Covers keys nodes s.front_of g c) (along : Begins g q) (f : Bytes) (gf : Begins g f)
      (under : (j : ℕ) (k : Bytes) → keys j ≡ Some k → Begins g k → Begins f k) where
    -- a key that is a prefix of q begins with g
    not_short : (j : ℕ) (k : Bytes) → keys j ≡ Some k → Begins k q → Begins g k
    not_short j k is kq =
        elim (cases_lt (length k) (length g)) [
          | inr le ↦ Begins-linear g k q along kq le
          | inl lt ↦
              let m = some_key keys nodes root s g c covers in
              let kg : Begins k g = Begins-linear k g q kq along (omega arith) in
              let long : length g ≤ length m.1 = Begins-length g m.1 m.3 in
              elim (eqb_tells j m.0) [
                | inl e ↦
                    let a : keys m.0 ≡ Some k = subst (λ (z : ℕ). keys z ≡ Some k) e.1 is in
                    let b : keys m.0 ≡ Some m.1 = m.2 in
                    let w : k ≡ m.1 = cc in
                    let z : length k ≡ length m.1 = ap (λ (k : Bytes). length k) w in
                    absurd (omega arith)
                | inr e ↦ absurd (unrelated keys nodes root s j m.0 k m.1 is m.2 e.1 (Begins-trans k g m.1 kg m.3))
              ]
        ]

    module _ (lf : length (common f q) < length f) (lq : length (common f q) < length q) where
      -- neither of f and q is a prefix of the other
      f_not : Begins f q → ⊥
      f_not h = let a : length f ≤ length (common f q) = common_length f f q (Begins-itself f) h in omega arith

      q_not : Begins q f → ⊥
      q_not h = let a : length q ≤ length (common f q) = common_length q f q h (Begins-itself q) in omega arith

      apart_alone : (j : ℕ) (k : Bytes) → keys j ≡ Some k → related k q ≡ false
      apart_alone j k is = false_from_ne_true (related k q) (λ rel.
          elim (related_cases k q rel) [
            | inl kq ↦ f_not (Begins-trans f k q (under j k is (not_short j k is kq)) kq)
            | inr qk ↦
                let fk : Begins f k = under j k is (Begins-trans g q k along qk) in
                elim (cases_lt (length f) (length q)) [
                  | inl lt ↦ f_not (Begins-linear f q k fk qk (omega arith))
                  | inr le ↦ q_not (Begins-linear q f k qk fk le)
                ]
          ])

      -- q parts from the keys before f ends
      pub leaves_edge : (byte : ℕ) → byte ≡ get_or f (length (common f q)) 0 → (l : LeavesAtEdge P keys nodes c byte (get_or q (length (common f q)) 0) q) × (length (common f q) ≡ length l.t)
      leaves_edge byte e = (
        record {
          apart = record { root = root; shape = s; alone = apart_alone };
          t = common f q;
          front = g;
          covers = covers;
          within = common-greatest g f q gf along;
          all = λ j k is h. subst (λ (b : ℕ). Begins (common f q ++ b ∷ []) k) (sym e) (Begins-trans (common f q ++ next_byte (common f q) f ∷ []) f k (Begins-more (common f q) f (common-left f q) lf) (under j k is h));
          goes_on = Begins-more (common f q) q (common-right f q) lq;
          other = λ z.
              let mine : Begins (common f q ++ next_byte (common f q) f ∷ []) f = Begins-more (common f q) f (common-left f q) lf in
              let its : Begins (common f q ++ next_byte (common f q) q ∷ []) q = Begins-more (common f q) q (common-right f q) lq in
              let w : next_byte (common f q) f ≡ next_byte (common f q) q = sym e ∙ z in
              let both : length (common f q ++ next_byte (common f q) q ∷ []) ≤ length (common f q) = common_length (common f q ++ next_byte (common f q) q ∷ []) f q (subst (λ (b : ℕ). Begins (common f q ++ b ∷ []) f) w mine) its in
              let d : length (common f q ++ next_byte (common f q) q ∷ []) ≡ length (common f q) + 1 = length-append (common f q) (next_byte (common f q) q ∷ []) in
              omega arith;
        },
        refl,
      )

-- ---- the bytes that a descent has passed

module _ {P : ℕ} {keys : ℕ → Option Bytes} {nodes : ℕ → Option Node} {c : Child} {start : ℕ} {q : Bytes} (w : OnWay P keys nodes c start q) where
  -- they are bytes of each list below the edge, and of the query
  pub way_in : (z : Bytes) → Begins (edge_front w.shape.front_of w.above) z → start ≤ length z
  way_in z b = subst (λ (n : ℕ). n ≤ length z) (sym w.start_is) (Begins-length (edge_front w.shape.front_of w.above) z b)

  pub way_within : start ≤ length q
  way_within = way_in q w.along

  -- the common prefix of such a list and the query has these bytes, and the common bytes after them
  pub way_common : (z : Bytes) → Begins (edge_front w.shape.front_of w.above) z → length (common z q) ≡ start + length (common (drop start z) (drop start q))
  way_common z b = subst (λ (n : ℕ). length (common z q) ≡ n + length (common (drop n z) (drop n q))) (sym w.start_is) (common_from (edge_front w.shape.front_of w.above) z q b w.along)

-- ---- at a node

module _ {P : ℕ} {keys : ℕ → Option Bytes} {nodes : ℕ → Option Node} {q : Bytes} where
  module _ {n start : ℕ} (w : OnWay P keys nodes (Inner n) start q) where
    abbrev front : Bytes
    front = w.shape.front_of n

    abbrev above : Bytes
    above = edge_front w.shape.front_of w.above

    pub node_covers : CoversNode keys nodes w.shape.front_of (edge_front w.shape.front_of w.above) n
    node_covers = covers_above keys nodes w.root w.shape w.above (Inner n) w.leads

    -- some key continues from there
    node_key : (j : ℕ) × (l : Bytes) × (keys j ≡ Some l) × Begins front l
    node_key =
        let m = some_key keys nodes w.root w.shape above (Inner n) node_covers in
        (m.0, m.1, m.2, node_covers.only m.0 m.1 m.2 m.3)

    -- q ends at the node, or above it
    pub ends_at_node : length (common front q) ≡ length q → QueryEnds P keys nodes (Inner n) q
    ends_at_node e =
        let m = node_key in
        let x = some_of (nodes n) node_covers.live in
        let qf : Begins q front = subst (λ (z : Bytes). Begins z front) (Begins-equal (common front q) q (common-right front q) (omega arith)) (common-left front q) in
        let long : length front < length m.1 = (w.shape.node n x.0 x.1).longer m.0 m.1 m.2 m.3 in
        let le : length q ≤ length front = Begins-length q front qf in
        record {
          root = w.root;
          shape = w.shape;
          covers = record { live = node_covers.live; front = qf; only = λ j k k_is b. node_covers.only j k k_is (Begins-trans above q k w.along b) };
          leaf = m.0;
          key = m.1;
          is = m.2;
          begun = Begins-trans q front m.1 qf m.3;
          longer = omega arith;
        }

    -- q parts from the keys above the node
    pub leaves_above : {x : Node} → nodes n ≡ Some x → {len byte : ℕ} → IsShared front q len byte → {depth : ℕ} → depth ≡ x.depth → len < depth → len ≢ length q → (l : LeavesAtEdge P keys nodes (Inner n) byte (get_or q len 0) q) × (len ≡ length l.t) × (len < length q)
    leaves_above {x} x_is {len} {byte} h depth_is lx nq =
        let d : x.depth ≡ length front = (w.shape.node n x x_is).depth in
        let e : len ≡ length (common front q) = h.is in
        let low : length (common front q) ≤ length q = common-in_right front q in
        let lf : len < length front = omega arith in
        let lq : len < length q = omega arith in
        let r = leaves_edge keys nodes q w.root w.shape above (Inner n) node_covers w.along front node_covers.front node_covers.only (omega arith) (omega arith) byte (h.next lf lq ∙ ap (λ (z : ℕ). get_or front z 0) e) in
        let back : length (common front q) ≡ len = sym e in
        subst (λ (z : ℕ). (l : LeavesAtEdge P keys nodes (Inner n) byte (get_or q z 0) q) × (z ≡ length l.t) × (z < length q)) back (r.0, r.1, omega arith)

    -- q has the whole front, and continues
    pub goes_past : {x : Node} → nodes n ≡ Some x → {len byte : ℕ} → IsShared front q len byte → {depth : ℕ} → depth ≡ x.depth → depth ≤ len → len ≢ length q → (length (common front q) ≡ x.depth) × (x.depth < length q)
    goes_past {x} x_is {len} h depth_is lx nq =
        let d : x.depth ≡ length front = (w.shape.node n x x_is).depth in
        let e : len ≡ length (common front q) = h.is in
        let low : length (common front q) ≤ length q = common-in_right front q in
        let low2 : length (common front q) ≤ length front = common-in_left front q in
        (omega arith, omega arith)

    module _ {x : Node} (is : nodes n ≡ Some x) (whole : length (common front q) ≡ x.depth) (lq : x.depth < length q) where
      fits : NodeFits keys nodes w.shape.front_of front x
      fits = w.shape.node n x is

      -- q continues from the node's front
      here : Begins front q
      here =
          let d : x.depth ≡ length front = fits.depth in
          subst (λ (z : Bytes). Begins z q) (Begins-equal (common front q) front (common-left front q) (omega arith)) (common-right front q)

      past : length front < length q
      past = let d : x.depth ≡ length front = fits.depth in omega arith

      byte_is : get_or q x.depth 0 ≡ next_byte front q
      byte_is = ap (λ (z : ℕ). get_or q z 0) fits.depth

      -- along an edge
      pub on_way : (child : Child) → child_at x.edges (get_or q x.depth 0) ≡ Some child → (next : ℕ) → next ≡ x.depth + 1 → OnWay P keys nodes child next q
      on_way child there next e =
          let d : x.depth ≡ length front = fits.depth in
          let long : length (front ++ get_or q x.depth 0 ∷ []) ≡ length front + 1 = length-append front (get_or q x.depth 0 ∷ []) in
          record {
            root = w.root;
            shape = w.shape;
            above = Some (n, get_or q x.depth 0);
            leads = (x, is, there);
            along = subst (λ (b : ℕ). Begins (front ++ b ∷ []) q) (sym byte_is) (Begins-more front q here past);
            start_is = omega arith;
          }

      module _ (none : child_at x.edges (get_or q x.depth 0) ≡ None) where
        -- no key continues with q's next byte
        none_on : (j : ℕ) (k : Bytes) → keys j ≡ Some k → Begins front k → next_byte front k ≡ next_byte front q → ⊥
        none_on j k k_is h e =
            not_some (child_at x.edges (next_byte front k)) (ap (λ (b : ℕ). child_at x.edges b) (e ∙ sym byte_is) ∙ none) (fits.edge j k k_is h)

        node_alone : (j : ℕ) (k : Bytes) → keys j ≡ Some k → related k q ≡ false
        node_alone j k k_is = false_from_ne_true (related k q) (λ rel.
            let lq : length front < length q = past in
            elim (related_cases k q rel) [
              | inl kq ↦
                  let fk : Begins front k = node_covers.only j k k_is (not_short keys nodes q w.root w.shape above (Inner n) node_covers w.along front node_covers.front node_covers.only j k k_is kq) in
                  let long : length front < length k = fits.longer j k k_is fk in
                  let e : Begins (front ++ next_byte front k ∷ []) q = Begins-trans (front ++ next_byte front k ∷ []) k q (Begins-more front k fk long) kq in
                  none_on j k k_is fk (sym (Begins-next front q (next_byte front k) e))
              | inr qk ↦
                  let fk : Begins front k = Begins-trans front q k here qk in
                  let e : Begins (front ++ next_byte front q ∷ []) k = Begins-trans (front ++ next_byte front q ∷ []) q k (Begins-more front q here past) qk in
                  none_on j k k_is fk (Begins-next front k (next_byte front q) e)
            ])

        -- or the node has no edge at q's next byte, and q parts from the keys there
        pub leaves_here : (l : LeavesAtNode P keys nodes n (get_or q x.depth 0) q) × (x.depth ≡ length (l.apart.shape.front_of n)) × (x.depth < length q)
        leaves_here = (
          record {
            apart = record { root = w.root; shape = w.shape; alone = node_alone };
            live = node_covers.live;
            goes_on = subst (λ (b : ℕ). Begins (front ++ b ∷ []) q) (sym byte_is) (Begins-more front q here past);
            none = λ j k k_is h. none_on j k k_is (Begins-edge_front front k (get_or q x.depth 0) h) (Begins-next front k (get_or q x.depth 0) h ∙ byte_is);
          },
          fits.depth,
          lq,
        )

  -- ---- at a leaf

  pub leaf_at : {i start : ℕ} (w : OnWay P keys nodes (Leaf i) start q) → CoversLeaf keys (edge_front w.shape.front_of w.above) i
  leaf_at {i} w = covers_above keys nodes w.root w.shape w.above (Leaf i) w.leads

  module _ {i start : ℕ} (w : OnWay P keys nodes (Leaf i) start q) {key : Bytes} (is : keys i ≡ Some key) where
    abbrev leaf_covers : CoversLeaf keys (edge_front w.shape.front_of w.above) i
    leaf_covers = leaf_at w

    own : leaf_covers.key ≡ key
    own = let e : keys i ≡ Some leaf_covers.key = leaf_covers.is in cc

    pub leaf_front : Begins (edge_front w.shape.front_of w.above) key
    leaf_front = subst (λ (k : Bytes). Begins (edge_front w.shape.front_of w.above) k) own leaf_covers.front

    only_key : (j : ℕ) (k : Bytes) → keys j ≡ Some k → Begins (edge_front w.shape.front_of w.above) k → Begins key k
    only_key j k k_is h =
        let e : j ≡ i = leaf_covers.only j k k_is h in
        let a : keys i ≡ Some k = subst (λ (z : ℕ). keys z ≡ Some k) e k_is in
        let same : key ≡ k = cc in
        subst (λ (z : Bytes). Begins key z) same (Begins-itself key)

    pub start_in_key : start ≤ length key
    start_in_key = way_in w key leaf_front

    pub leaf_common : length (common key q) ≡ start + length (common (drop start key) (drop start q))
    leaf_common = way_common w key leaf_front

    module _ {n : ℕ} (n_is : n ≡ length (common (drop start key) (drop start q))) where
      -- with the bytes before the start, the count is the length of the common prefix
      pub len_at_leaf : start + n ≡ length (common key q)
      len_at_leaf = let e = leaf_common in omega arith

      pub same_at_leaf : start + n ≡ length q → start + n ≡ length key → keys i ≡ Some q
      same_at_leaf a b = is ∙ ap (λ (k : Bytes). Some k) (nearest_same key q (start + n) len_at_leaf a b)

      pub shorter_at_leaf : start + n ≢ length q → start + n ≡ length key → KeyEnds keys i q
      shorter_at_leaf ne a = let e = len_at_leaf in record { key = key; is = is; begins = nearest_begins key q (start + n) len_at_leaf a; shorter = (let l : length (common key q) ≤ length q = common-in_right key q in omega arith) }

      pub longer_at_leaf : start + n ≡ length q → start + n ≢ length key → QueryEnds P keys nodes (Leaf i) q
      longer_at_leaf a ne =
          let e = len_at_leaf in
          let qk : Begins q key = nearest_begun key q (start + n) len_at_leaf a in
          record {
            root = w.root;
            shape = w.shape;
            covers = record { key = key; is = is; front = qk; only = λ j k k_is b. leaf_covers.only j k k_is (Begins-trans (edge_front w.shape.front_of w.above) q k w.along b) };
            leaf = i;
            key = key;
            is = is;
            begun = qk;
            longer = let l : length (common key q) ≤ length key = common-in_left key q in omega arith;
          }

      pub leaves_at_leaf : start + n ≢ length q → start + n ≢ length key → (l : LeavesAtEdge P keys nodes (Leaf i) (get_or key (start + n) 0) (get_or q (start + n) 0) q) × (start + n ≡ length l.t) × (start + n < length q)
      leaves_at_leaf nq nk =
          let e = len_at_leaf in
          let lk : length (common key q) ≤ length key = common-in_left key q in
          let lq : length (common key q) ≤ length q = common-in_right key q in
          let r = leaves_edge keys nodes q w.root w.shape (edge_front w.shape.front_of w.above) (Leaf i) leaf_covers w.along key leaf_front only_key (omega arith) (omega arith) (get_or key (length (common key q)) 0) refl in
          let back : length (common key q) ≡ start + n = sym len_at_leaf in
          subst (λ (z : ℕ). (l : LeavesAtEdge P keys nodes (Leaf i) (get_or key z 0) (get_or q z 0) q) × (z ≡ length l.t) × (z < length q)) back (r.0, r.1, omega arith)

  -- ---- the common prefix with the front of a node

  module _ {n start : ℕ} (w : OnWay P keys nodes (Inner n) start q) where
    abbrev own_front : Bytes
    own_front = w.shape.front_of n

    pub shared_after : length (common own_front q) ≡ start + length (common (drop start own_front) (drop start q))
    shared_after = way_common w own_front (node_covers w).front

    pub start_within : start ≤ length own_front
    start_within = way_in w own_front (node_covers w).front

    -- the common prefix, from the front's own bytes
    pub shared_from : {len byte : ℕ} → len ≡ start + length (common (drop start own_front) (drop start q)) → (len < length own_front → byte ≡ get_or own_front len 0) → IsShared own_front q len byte
    shared_from e next = record { is = e ∙ sym shared_after; next = λ a b. next a }

    -- the keys below an edge of the node
    pub edge_covers : {x : Node} → nodes n ≡ Some x → (b : ℕ) {c : Child} → child_at x.edges b ≡ Some c → Covers keys nodes w.shape.front_of (own_front ++ b ∷ []) c
    edge_covers {x} is b {c} there = (w.shape.node n x is).below b c there

    -- a key below an edge of the node, cut at the node's depth, is the front
    pub cut_front : {x : Node} → nodes n ≡ Some x → {first : Bool} (b : ℕ) {j : ℕ} → IsEndUnder keys first (own_front ++ b ∷ []) j → {k : Bytes} → keys j ≡ Some k → {depth : ℕ} → depth ≡ x.depth → (take depth k ≡ own_front) × (depth < length k)
    cut_front {x} x_is b {j = j} u {k} k_is {depth} e =
        let d : x.depth ≡ length own_front = (w.shape.node n x x_is).depth in
        let same : u.key ≡ k = (let own : keys j ≡ Some u.key = u.is in cc) in
        let on : Begins (own_front ++ b ∷ []) k = subst (λ (z : Bytes). Begins (own_front ++ b ∷ []) z) same u.front in
        let l : length (own_front ++ b ∷ []) ≤ length k = Begins-length (own_front ++ b ∷ []) k on in
        (ap (λ (z : ℕ). take z k) (e ∙ d) ∙ take_front own_front k (Begins-edge_front own_front k b on), omega (arith, length-append own_front (b ∷ [])))

    module _ {x : Node} (is : nodes n ≡ Some x) where
      pub kept_is : x.prefix ≡ take P (drop start own_front)
      kept_is =
          let e : start ≡ length (edge_front w.shape.front_of w.above) = w.start_is in
          w.shape.keeps w.above n x w.leads is ∙ ap (λ (z : ℕ). take P (drop z own_front)) (sym e)

      -- the stored prefix ends within the front
      pub kept_within : start + length x.prefix ≤ x.depth
      kept_within =
          let d : x.depth ≡ length own_front = (w.shape.node n x is).depth in
          let k : length x.prefix ≡ length (take P (drop start own_front)) = ap (λ (z : Bytes). length z) kept_is in
          let l : length (take P (drop start own_front)) ≤ length (drop start own_front) = Begins-length (take P (drop start own_front)) (drop start own_front) (Begins-take P (drop start own_front)) in
          let m : start ≤ length own_front = start_within in
          omega (arith, length-drop start own_front)

      -- the stored prefix differs
      pub shared_differs : {count len : ℕ} → count ≡ length (common x.prefix (drop start q)) → count < length x.prefix → len ≡ start + count → IsShared own_front q len (get_or x.prefix count 0)
      shared_differs {count} e l at =
          let k : x.prefix ≡ take P (drop start own_front) = kept_is in
          let e' : count ≡ length (common (take P (drop start own_front)) (drop start q)) = subst (λ (z : Bytes). count ≡ length (common z (drop start q))) k e in
          let l' : count < length (take P (drop start own_front)) = subst (λ (z : Bytes). count < length z) k l in
          let c : length (common (drop start own_front) (drop start q)) ≡ length (common (take P (drop start own_front)) (drop start q)) = common_first P (drop start own_front) (drop start q) (omega arith) in
          let s : length (common own_front q) ≡ start + length (common (drop start own_front) (drop start q)) = shared_after in
          record {
            is = omega arith;
            next = λ a b. ap (λ (z : Bytes). get_or z count 0) k ∙ get_or-take P (drop start own_front) count 0 (omega (arith, length-take P (drop start own_front))) ∙ get_or-drop start own_front count 0 ∙ ap (λ (z : ℕ). get_or own_front z 0) (sym at);
          }

      -- the stored prefix is the rest of the front, and all of it is shared
      pub shared_whole : {count len : ℕ} → count ≡ length (common x.prefix (drop start q)) → length x.prefix ≤ count → len ≡ start + count → len ≡ x.depth → IsShared own_front q len 0
      shared_whole {count} e over at whole =
          let d : x.depth ≡ length own_front = (w.shape.node n x is).depth in
          let k : x.prefix ≡ take P (drop start own_front) = kept_is in
          let e' : count ≡ length (common (take P (drop start own_front)) (drop start q)) = subst (λ (z : Bytes). count ≡ length (common z (drop start q))) k e in
          let low : length (common (take P (drop start own_front)) (drop start q)) ≤ length (take P (drop start own_front)) = common-in_left (take P (drop start own_front)) (drop start q) in
          let long : length (drop start own_front) ≤ length (take P (drop start own_front)) = omega (arith, length-drop start own_front, start_within) in
          let t : take P (drop start own_front) ≡ drop start own_front = Begins-equal (take P (drop start own_front)) (drop start own_front) (Begins-take P (drop start own_front)) long in
          let c : length (common (take P (drop start own_front)) (drop start q)) ≡ length (common (drop start own_front) (drop start q)) = ap (λ (z : Bytes). length (common z (drop start q))) t in
          let s : length (common own_front q) ≡ start + length (common (drop start own_front) (drop start q)) = shared_after in
          record { is = omega arith; next = λ a b. absurd (omega arith) }

  -- ---- the gap beside a child

  pub gap_at_node : {n depth : ℕ} {x : Node} → nodes n ≡ Some x → (l : LeavesAtNode P keys nodes n (get_or q depth 0) q) → depth ≡ length (l.apart.shape.front_of n) → depth < length q → (is_after : Bool) (e : Edge) → IsNextTo is_after x.edges (get_or q depth 0) e
      → IsGapUnder P keys nodes q depth e.to is_after
  gap_at_node {n} {depth} {x} is l d lq is_after e next = record {
    beside = beside_at_node keys nodes n (get_or q depth 0) q l x is is_after e next;
    leaves = λ i key key_is h. leaves_nearest keys q (l.apart.shape.front_of n) key (get_or q depth 0) e.byte depth d lq refl l.goes_on h i key_is l.none;
  }

  module _ {c : Child} {depth a : ℕ} (l : LeavesAtEdge P keys nodes c a (get_or q depth 0) q) (d : depth ≡ length l.t) (lq : depth < length q) where
    -- no key continues as q does
    edge_alone : (j : ℕ) (k : Bytes) → keys j ≡ Some k → Begins (l.t ++ get_or q depth 0 ∷ []) k → ⊥
    edge_alone j k k_is h =
        let tk : Begins l.t k = Begins-edge_front l.t k (get_or q depth 0) h in
        let e : next_byte l.t k ≡ a = Begins-next l.t k a (l.all j k k_is (Begins-trans l.front l.t k l.within tk)) in
        let f : next_byte l.t k ≡ get_or q depth 0 = Begins-next l.t k (get_or q depth 0) h in
        l.other (sym e ∙ f)

    edge_leaves : (i : ℕ) (key : Bytes) → keys i ≡ Some key → Begins l.front key → LeavesNearest keys i depth q
    edge_leaves i key key_is h = leaves_nearest keys q l.t key (get_or q depth 0) a depth d lq refl l.goes_on (l.all i key key_is h) i key_is edge_alone

    pub gap_at_edge : (is_after : Bool) → is_after ≡ ltb a (get_or q depth 0) → IsGapUnder P keys nodes q depth c is_after
    gap_at_edge is_after e = record { beside = beside_at_edge keys nodes c a (get_or q depth 0) q l is_after e; leaves = edge_leaves }
