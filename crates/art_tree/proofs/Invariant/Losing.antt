-- One key less: a leaf is removed from its node.
use Rattle.std.proofs.Common.{◌≡◌, ◌≢◌, ℕ, ◌+◌, ◌<◌, ◌≤◌, List, [], ◌∷◌, ◌++◌, length, take, drop, refl, ap, arith, sym, subst, Option, Some, None, IsSome, ◌∙◌, ◌⊎◌, inl, inr, eq-eqb, length-append}
use Rattle.std.proofs.lemmas.Bool.{cases_lt, ne_eqb}
use Rattle.std.proofs.lemmas.Bool.Decides.{eqb_tells}
use Rattle.art_tree.specs.Begins.{Bytes, Begins, next_byte}
use Rattle.blart_keys.specs.Bytes.{common}
use Rattle.art_tree.specs.Invariant.EdgesAbove.{LeadsTo, TurnsTo, edge_front}
use Rattle.art_kinds.specs.Nodes.{Node, DropsEdge, Frees}
use Rattle.art_kinds.specs.Edges.{child_at, Ascends}
use Rattle.art_tree.specs.Calls.Removing.{Loses, CutsAfter}
use Rattle.art_tree.specs.Invariant.Shape.{Shape, Keeps, kept_prefix, Covers, CoversLeaf, CoversNode, NodeFits, RootFits, Parts}
use Rattle.art_kinds.specs.declared.records.ids.Edge.{Edge}
use Rattle.art_kinds.specs.declared.records.ids.Child.{Child}
use Rattle.art_kinds.specs.declared.records.ids.Child.TheVariants.{Leaf, Inner}
use Rattle.art_tree.proofs.BeginsLemmas.{Begins-length, Begins-more, Begins-trans, Begins-next, Begins-linear, Begins-equal, Begins-edge_front, Bytes-cases, common-left, common-greatest, common_comm}
use Rattle.art_tree.proofs.Invariant.Growing.{Parts-two, Parts-instead, covers_above, top_from}
use Rattle.art_tree.proofs.Invariant.EdgesAbove.{Turns, turned_node, turned_free, turns_after, leads_live, Hangs, above_cases, came_from, turned_fits}
use Rattle.art_tree.proofs.Invariant.OneEdge.{same_edge, one_above}
use Rattle.art_tree.proofs.Invariant.Prefixes.{keeps_changed, live_after, live_before, cut_node, cut_was, cut_leads, turned_prefix, Recut, recut_by}
use Rattle.art_tree.proofs.Invariant.Subtrees.{above_leaf}
use Rattle.blart_keys.proofs.Options.{is_some, some_of, not_some, same_some}

module _ {P : ℕ} (keys keys' : ℕ → Option Bytes) (nodes : ℕ → Option Node) (root : Option Child) (p i b : ℕ) (k : Bytes) (s : Shape P keys nodes root)
    (loses : Loses keys keys' i k) (was : Node) (was_is : nodes p ≡ Some was) (low : child_at was.edges b ≡ Some (Leaf i)) where
  abbrev t : Bytes
  t = s.front_of p

  kept : (j : ℕ) (l : Bytes) → keys j ≡ Some l → j ≢ i → keys' j ≡ Some l
  kept j l e h = loses.others j h ∙ e

  not_gone : (j : ℕ) (l : Bytes) → keys' j ≡ Some l → j ≢ i
  not_gone j l e h = let f : keys' i ≡ Some l = rw (← h) e in let g : keys' i ≡ None = loses.gone in cc

  was_key : (j : ℕ) (l : Bytes) → keys' j ≡ Some l → keys j ≡ Some l
  was_key j l e = sym (loses.others j (not_gone j l e)) ∙ e

  live_p : IsSome (nodes p)
  live_p = is_some (nodes p) was was_is

  fits_p : NodeFits keys nodes s.front_of t was
  fits_p = s.node p was was_is

  leaf_i : CoversLeaf keys (t ++ b ∷ []) i
  leaf_i = fits_p.below b (Leaf i) low

  k_front : Begins (t ++ b ∷ []) k
  k_front =
      let e : keys i ≡ Some k = loses.was in
      let f : keys i ≡ Some leaf_i.key = leaf_i.is in
      let h : leaf_i.key ≡ k = cc in
      rw (← h) leaf_i.front

  -- only the node p has an edge to the leaf i
  one_leaf : (m : ℕ) → IsSome (nodes m) → (c : ℕ) → CoversLeaf keys (s.front_of m ++ c ∷ []) i → m ≡ p
  one_leaf m live c cov =
      let f : Bytes = s.front_of m in
      let e : keys i ≡ Some k = loses.was in
      let e2 : keys i ≡ Some cov.key = cov.is in
      let h : cov.key ≡ k = cc in
      let gk : Begins (f ++ c ∷ []) k = rw (← h) cov.front in
      let fk : Begins f k = Begins-edge_front f k c gk in
      let tk : Begins t k = Begins-edge_front t k b k_front in
      let l1 : length (f ++ c ∷ []) ≡ length f + 1 = length-append f (c ∷ []) in
      let l2 : length (t ++ b ∷ []) ≡ length t + 1 = length-append t (b ∷ []) in
      elim (cases_lt (length f) (length t)) [
        | inl lt ↦ absurd (above_leaf keys nodes root s p live_p (f ++ c ∷ []) i cov (Begins-linear (f ++ c ∷ []) t k gk tk (omega arith)))
        | inr ge ↦
            elim (cases_lt (length t) (length f)) [
              | inl gt ↦ absurd (above_leaf keys nodes root s m live (t ++ b ∷ []) i leaf_i (Begins-linear (t ++ b ∷ []) f k k_front fk (omega arith)))
              | inr le ↦ s.apart m p live live_p (Begins-equal f t (Begins-linear f t k fk tk le) ge)
            ]
      ]

  -- a key other than that of i below a child
  other_key : (g : Bytes) (c : Child) → c ≢ Leaf i → Covers keys nodes s.front_of g c → (j : ℕ) × (l : Bytes) × (keys' j ≡ Some l) × Begins g l
  other_key g (Leaf j) h cov =
      let off : j ≢ i = λ e. h (ap (λ (j : ℕ). Leaf j) e) in
      (j, cov.key, kept j cov.key cov.is off, cov.front)
  other_key g (Inner m) h cov =
      let x = some_of (nodes m) cov.live in
      let q = (s.node m x.0 x.1).parts in
      elim (eqb_tells q.i i) [
        | inl e ↦
            let off : q.j ≢ i = λ f. Parts-two keys (s.front_of m) q i e.1 f in
            (q.j, q.l, kept q.j q.l q.l_is off, Begins-trans g (s.front_of m) q.l cov.front q.l_front)
        | inr e ↦ (q.i, q.k, kept q.i q.k q.k_is e.1, Begins-trans g (s.front_of m) q.k cov.front q.k_front)
      ]

  leaf_kept : (g : Bytes) (j : ℕ) → j ≢ i → CoversLeaf keys g j → CoversLeaf keys' g j
  leaf_kept g j off c = record { key = c.key; is = kept j c.key c.is off; front = c.front; only = λ j' l e h. c.only j' l (was_key j' l e) h }

  -- a remaining key with the same next byte
  instead : (m : ℕ) (x : Node) → nodes m ≡ Some x → m ≢ p → (j : ℕ) (l : Bytes) → keys j ≡ Some l → Begins (s.front_of m) l
      → (j' : ℕ) × (l' : Bytes) × (keys' j' ≡ Some l') × Begins (s.front_of m) l' × (next_byte (s.front_of m) l' ≡ next_byte (s.front_of m) l)
  instead m x is off j l e h =
      let g : Bytes = s.front_of m in
      let live : IsSome (nodes m) = is_some (nodes m) x is in
      let f : NodeFits keys nodes s.front_of g x = s.node m x is in
      let c = some_of (child_at x.edges (next_byte g l)) (f.edge j l e h) in
      let cov : Covers keys nodes s.front_of (g ++ next_byte g l ∷ []) c.0 = f.below (next_byte g l) c.0 c.1 in
      let o = other_key (g ++ next_byte g l ∷ []) c.0 (λ z. off (one_leaf m live (next_byte g l) (subst (λ (c : Child). Covers keys nodes s.front_of (g ++ next_byte g l ∷ []) c) z cov))) cov in
      (o.0, o.1, o.2, Begins-edge_front g o.1 (next_byte g l) o.3, Begins-next g o.1 (next_byte g l) o.3)

  parts_left : (m : ℕ) (x : Node) → nodes m ≡ Some x → m ≢ p → Parts keys' (s.front_of m)
  parts_left m x is off = Parts-instead keys keys' (s.front_of m) (instead m x is off) (s.node m x is).parts

  -- the root covers the keys that are left, if its node does
  top_left : (nodes' : ℕ → Option Node) → ((n : ℕ) → root ≡ Some (Inner n) → CoversNode keys nodes s.front_of [] n → CoversNode keys' nodes' s.front_of [] n) → RootFits keys' nodes' s.front_of root
  top_left nodes' covered = top_from keys keys' nodes nodes' root s s.front_of i k loses.was below
    where
      below : (c : Child) → root ≡ Some c → Covers keys nodes s.front_of [] c → Covers keys' nodes' s.front_of [] c
      below (Leaf j) e h = absurd (above_leaf keys nodes root s p live_p [] j h tt)
      below (Inner n) e h = covered n e h

  -- ---- a node with three edges or more

  module _ (nodes' : ℕ → Option Node) (drops : DropsEdge nodes nodes' p b) (more : 2 < length was.edges) where
    dropped_was : drops.was ≡ was
    dropped_was = let f : nodes p ≡ Some drops.was = drops.was_is in let g : nodes p ≡ Some was = was_is in cc

    kept_child : (c : ℕ) → c ≢ b → child_at drops.is.edges c ≡ child_at was.edges c
    kept_child c off = drops.edges.rest c off ∙ ap (λ (x : Node). child_at x.edges c) dropped_was

    still_live : (m : ℕ) → IsSome (nodes m) → IsSome (nodes' m)
    still_live = live_after nodes nodes' p drops.was drops.is drops.was_is drops.is_is drops.others

    then_live : (m : ℕ) → IsSome (nodes' m) → IsSome (nodes m)
    then_live = live_before nodes nodes' p drops.was drops.is drops.was_is drops.is_is drops.others

    node_stays : (g : Bytes) (m : ℕ) → CoversNode keys nodes s.front_of g m → CoversNode keys' nodes' s.front_of g m
    node_stays g m c = record { live = still_live m c.live; front = c.front; only = λ j l e h. c.only j l (was_key j l e) h }

    -- only the edge at b leads to the leaf
    one_byte : (c : ℕ) → CoversLeaf keys (t ++ c ∷ []) i → c ≡ b
    one_byte c cov =
        let e : keys i ≡ Some k = loses.was in
        let f : keys i ≡ Some cov.key = cov.is in
        let h : cov.key ≡ k = cc in
        let g : Begins (t ++ c ∷ []) k = rw (← h) cov.front in
        sym (Begins-next t k c g) ∙ Begins-next t k b k_front

    edge_stays : (m : ℕ) → IsSome (nodes m) → (c : ℕ) (d : Child) → (m ≡ p → c ≢ b) → Covers keys nodes s.front_of (s.front_of m ++ c ∷ []) d → Covers keys' nodes' s.front_of (s.front_of m ++ c ∷ []) d
    edge_stays m live c (Leaf j) off cov =
        elim (eqb_tells j i) [
          | inl e ↦
              let cov' : CoversLeaf keys (s.front_of m ++ c ∷ []) i = subst (λ (j : ℕ). CoversLeaf keys (s.front_of m ++ c ∷ []) j) e.1 cov in
              let same : m ≡ p = one_leaf m live c cov' in
              absurd (off same (one_byte c (subst (λ (m : ℕ). CoversLeaf keys (s.front_of m ++ c ∷ []) i) same cov')))
          | inr e ↦ leaf_kept (s.front_of m ++ c ∷ []) j e.1 cov
        ]
    edge_stays m live c (Inner m') off cov = node_stays (s.front_of m ++ c ∷ []) m' cov

    other_fits : (m : ℕ) (x : Node) → nodes m ≡ Some x → m ≢ p → NodeFits keys' nodes' s.front_of (s.front_of m) x
    other_fits m x is off =
        let f : NodeFits keys nodes s.front_of (s.front_of m) x = s.node m x is in
        record {
          depth = f.depth;
          below = λ c d e. edge_stays m (is_some (nodes m) x is) c d (λ same. absurd (off same)) (f.below c d e);
          longer = λ j l e h. f.longer j l (was_key j l e) h;
          edge = λ j l e h. f.edge j l (was_key j l e) h;
          parts = parts_left m x is off;
          ascends = f.ascends;
        }

    not_dropped : (c : ℕ) (d : Child) → child_at drops.is.edges c ≡ Some d → c ≢ b
    not_dropped c d e same = let f : child_at drops.is.edges b ≡ Some d = rw (← same) e in let g : child_at drops.is.edges b ≡ None = drops.edges.gone in cc

    kept_cover : (c : ℕ) (d : Child) → child_at drops.is.edges c ≡ Some d → Covers keys nodes s.front_of (t ++ c ∷ []) d
    kept_cover c d e = fits_p.below c d (sym (kept_child c (not_dropped c d e)) ∙ e)

    -- a remaining key at a remaining edge
    key_left : (c : ℕ) (d : Child) → child_at drops.is.edges c ≡ Some d → (j : ℕ) × (l : Bytes) × (keys' j ≡ Some l) × Begins (t ++ c ∷ []) l
    key_left c d e =
        let off : d ≢ Leaf i = λ z. not_dropped c d e (one_byte c (subst (λ (d : Child). Covers keys nodes s.front_of (t ++ c ∷ []) d) z (kept_cover c d e))) in
        other_key (t ++ c ∷ []) d off (kept_cover c d e)

    parts_stay : Parts keys' t
    parts_stay = go drops.is.edges drops.edges.ascends (let e : length was.edges ≡ length drops.was.edges = ap (λ (x : Node). length x.edges) (sym dropped_was) in let f : length drops.is.edges + 1 ≡ length drops.was.edges = drops.edges.shorter in omega arith) (λ c d e. key_left c d e)
      where
        go : (es : List Edge) → Ascends es → 2 ≤ length es → ((c : ℕ) (d : Child) → child_at es c ≡ Some d → (j : ℕ) × (l : Bytes) × (keys' j ≡ Some l) × Begins (t ++ c ∷ []) l) → Parts keys' t
        go [] a l h = absurd (omega arith)
        go (x ∷ []) a l h = absurd (omega arith)
        go (x ∷ y ∷ es) a l h =
            let lt : x.byte < y.byte = a.0 in
            let first : child_at (x ∷ y ∷ es) x.byte ≡ Some x.to = rw (eq-eqb x.byte x.byte refl) refl in
            let second : child_at (x ∷ y ∷ es) y.byte ≡ Some y.to = rw (ne_eqb x.byte y.byte (λ e. omega arith), eq-eqb y.byte y.byte refl) refl in
            let u = h x.byte x.to first in
            let v = h y.byte y.to second in
            let ux : next_byte t u.1 ≡ x.byte = Begins-next t u.1 x.byte u.3 in
            let vy : next_byte t v.1 ≡ y.byte = Begins-next t v.1 y.byte v.3 in
            record {
              i = u.0;
              j = v.0;
              k = u.1;
              l = v.1;
              k_is = u.2;
              l_is = v.2;
              k_front = Begins-edge_front t u.1 x.byte u.3;
              l_front = Begins-edge_front t v.1 y.byte v.3;
              differ = λ e. (let z : x.byte ≡ y.byte = sym ux ∙ e ∙ vy in omega arith);
            }

    dropped_fits : NodeFits keys' nodes' s.front_of t drops.is
    dropped_fits = record {
      depth = drops.depth ∙ ap (λ (x : Node). x.depth) dropped_was ∙ fits_p.depth;
      below = λ c d e. edge_stays p live_p c d (λ same. not_dropped c d e) (kept_cover c d e);
      longer = λ j l e h. fits_p.longer j l (was_key j l e) h;
      edge = λ j l e h.
          let off : next_byte t l ≢ b = λ z. not_gone j l e (leaf_i.only j l (was_key j l e) (subst (λ (c : ℕ). Begins (t ++ c ∷ []) l) z (Begins-more t l h (fits_p.longer j l (was_key j l e) h)))) in
          same_some (child_at was.edges (next_byte t l)) (child_at drops.is.edges (next_byte t l)) (sym (kept_child (next_byte t l) off)) (fits_p.edge j l (was_key j l e) h);
      parts = parts_stay;
      ascends = drops.edges.ascends;
    }

    all_fit : (m : ℕ) (x : Node) → nodes' m ≡ Some x → NodeFits keys' nodes' s.front_of (s.front_of m) x
    all_fit m x is =
        elim (eqb_tells m p) [
          | inl e ↦
              let f : nodes' p ≡ Some x = rw (← e.1) is in
              let g : nodes' p ≡ Some drops.is = drops.is_is in
              let h : drops.is ≡ x = cc in
              subst (λ (m : ℕ). NodeFits keys' nodes' s.front_of (s.front_of m) x) (sym e.1) (subst (λ (x : Node). NodeFits keys' nodes' s.front_of t x) h dropped_fits)
          | inr e ↦ other_fits m x (sym (drops.others m e.1) ∙ is) e.1
        ]

    -- the tree if a node with three edges or more lost one, which led to a leaf
    pub shape_dropped : Shape P keys' nodes' root
    shape_dropped = record {
      front_of = s.front_of;
      top = top_left nodes' (λ n e c. node_stays [] n c);
      node = all_fit;
      joined = λ a c x y ax cy off. (let r = s.joined a c x y (was_key a x ax) (was_key c y cy) off in (r.0, still_live r.0 r.1, r.2));
      apart = λ a c la lc e. s.apart a c (then_live a la) (then_live c lc) e;
      keeps = keeps_changed nodes nodes' root p drops.was drops.is drops.was_is drops.is_is drops.others drops.prefix (λ c j e. sym (drops.edges.rest c (not_dropped c (Inner j) e)) ∙ e) P s.front_of s.keeps;
    }

  -- ---- a node with two edges

  module _ (cut mid new : ℕ → Option Node) (root' : Option Child) (b1 : ℕ) (c1 : Child) (high : child_at was.edges b1 ≡ Some c1) (two : b ≢ b1) (just : length was.edges ≡ 2) (frees : Frees mid new p) where
    -- it has no other edges
    pub only_two : (es : List Edge) → length es ≡ 2 → IsSome (child_at es b) → IsSome (child_at es b1) → (c : ℕ) → IsSome (child_at es c) → (c ≡ b) ⊎ (c ≡ b1)
    only_two [] l hb hb1 c hc = absurd (omega arith)
    only_two (x ∷ []) l hb hb1 c hc = absurd (omega arith)
    only_two (x ∷ y ∷ z ∷ es) l hb hb1 c hc = absurd (omega arith)
    only_two (x ∷ y ∷ []) l hb hb1 c hc =
        elim (one_of c hc) [
          | inl p ↦
              elim (one_of b hb) [
                | inl q ↦ inl (sym p ∙ q)
                | inr q ↦ elim (one_of b1 hb1) [ inl r ↦ inr (sym p ∙ r) | inr r ↦ absurd (two (sym q ∙ r)) ]
              ]
          | inr p ↦
              elim (one_of b hb) [
                | inl q ↦ elim (one_of b1 hb1) [ inl r ↦ absurd (two (sym q ∙ r)) | inr r ↦ inr (sym p ∙ r) ]
                | inr q ↦ inl (sym p ∙ q)
              ]
        ]
      where
        one_of : (d : ℕ) → IsSome (child_at (x ∷ y ∷ []) d) → (x.byte ≡ d) ⊎ (y.byte ≡ d)
        one_of d h =
            elim (eqb_tells x.byte d) [
              | inl e ↦ inl e.1
              | inr e ↦ elim (eqb_tells y.byte d) [ inl f ↦ inr f.1 | inr f ↦ absurd (not_some (child_at (x ∷ y ∷ []) d) (rw (e.0, f.0) refl) h) ]
            ]

    module _ (above : Option (ℕ × ℕ)) (leads : LeadsTo nodes root above (Inner p)) (cuts : CutsAfter P nodes cut s.front_of (edge_front s.front_of above) c1) (turns : TurnsTo cut mid root root' above c1) where
      abbrev g0 : Bytes
      g0 = edge_front s.front_of above

      covers0 : CoversNode keys nodes s.front_of g0 p
      covers0 = covers_above keys nodes root s above (Inner p) leads

      -- the change of a node
      turned : (m : ℕ) (x : Node) → m ≢ p → nodes m ≡ Some x → (x' : Node) × (new m ≡ Some x') × Turns x x' (s.front_of m) g0 (Inner p) c1
      turned m x off is =
          let y = cut_node P nodes cut s.front_of g0 c1 cuts m x is in
          let z = turned_node s.front_of cut mid root root' (Inner p) c1 (λ m. IsSome (nodes m)) s.apart above (cut_leads P nodes cut s.front_of g0 c1 cuts root above (Inner p) leads) (leads_live nodes root above (Inner p) leads) turns m y.0 (is_some (nodes m) x is) y.1 in
          (z.0, frees.others m off ∙ z.1, turns_after x y.0 z.0 (s.front_of m) g0 (Inner p) c1 y.2.depth y.2.edges z.2)

      not_p : (m : ℕ) (x : Node) → new m ≡ Some x → m ≢ p
      not_p m x is e = let f : new p ≡ Some x = ap new (sym e) ∙ is in let g : new p ≡ None = frees.gone in cc

      back : (m : ℕ) (x' : Node) → new m ≡ Some x' → (x : Node) × (nodes m ≡ Some x) × Turns x x' (s.front_of m) g0 (Inner p) c1
      back m x' is = came_from (λ x x'. Turns x x' (s.front_of m) g0 (Inner p) c1) (nodes m) (new m) (λ x e. turned m x (not_p m x' is) e) (λ e. frees.others m (not_p m x' is) ∙ turned_free cut mid root root' above c1 turns m (cut_was P nodes cut s.front_of g0 c1 cuts m e)) x' is

      recut : Recut P nodes new s.front_of g0 c1
      recut = recut_by P nodes cut new s.front_of g0 c1 cuts (λ m x x' was is. turned_prefix cut mid root root' above c1 turns m x x' was (sym (frees.others m (not_p m x' is)) ∙ is))

      live_kept : (m : ℕ) → m ≢ p → IsSome (nodes m) → IsSome (new m)
      live_kept m off live = let x = some_of (nodes m) live in let y = turned m x.0 off x.1 in is_some (new m) y.0 y.1

      node_kept : (g : Bytes) (m : ℕ) → m ≢ p → CoversNode keys nodes s.front_of g m → CoversNode keys' new s.front_of g m
      node_kept g m off c = record { live = live_kept m off c.live; front = c.front; only = λ j l e h. c.only j l (was_key j l e) h }

      edge_kept : (m : ℕ) (x : Node) → nodes m ≡ Some x → m ≢ p → (b' : ℕ) (c : Child) → s.front_of m ++ b' ∷ [] ≢ g0 → child_at x.edges b' ≡ Some c → Covers keys nodes s.front_of (s.front_of m ++ b' ∷ []) c → Covers keys' new s.front_of (s.front_of m ++ b' ∷ []) c
      edge_kept m x is off b' (Leaf j) far there c =
          elim (eqb_tells j i) [
            | inl e ↦ absurd (off (one_leaf m (is_some (nodes m) x is) b' (subst (λ (j : ℕ). CoversLeaf keys (s.front_of m ++ b' ∷ []) j) e.1 c)))
            | inr e ↦ leaf_kept _ j e.1 c
          ]
      edge_kept m x is off b' (Inner m') far there c =
          elim (eqb_tells m' p) [
            | inl e ↦ absurd (far (ap (edge_front s.front_of) (one_above keys nodes root s p (Some (m, b')) above (x, is, there ∙ ap (λ (n : ℕ). Some (Inner n)) e.1) leads)))
            | inr e ↦ node_kept _ m' e.1 c
          ]

      -- a remaining key that begins with t continues with b1
      left_p : (j : ℕ) (l : Bytes) → keys' j ≡ Some l → Begins t l → Begins (t ++ b1 ∷ []) l
      left_p j l e h =
          let old : keys j ≡ Some l = was_key j l e in
          let m : Begins (t ++ next_byte t l ∷ []) l = Begins-more t l h (fits_p.longer j l old h) in
          elim (only_two was.edges just (is_some (child_at was.edges b) (Leaf i) low) (is_some (child_at was.edges b1) c1 high) (next_byte t l) (fits_p.edge j l old h)) [
            | inl q ↦ absurd (not_gone j l e (leaf_i.only j l old (subst (λ (c : ℕ). Begins (t ++ c ∷ []) l) q m)))
            | inr q ↦ subst (λ (c : ℕ). Begins (t ++ c ∷ []) l) q m
          ]

      raised : (c : Child) → Covers keys nodes s.front_of (t ++ b1 ∷ []) c → Covers keys' new s.front_of g0 c
      raised (Leaf j) c =
          let off : j ≢ i = λ e. (
          let f : keys i ≡ Some c.key = rw (← e) c.is in
          let f2 : keys i ≡ Some k = loses.was in
          let h : c.key ≡ k = cc in
          let u : next_byte t k ≡ b1 = Begins-next t k b1 (rw (← h) c.front) in
          let v : next_byte t k ≡ b = Begins-next t k b k_front in
          two (sym v ∙ u)) in
          record {
            key = c.key;
            is = kept j c.key c.is off;
            front = Begins-trans g0 t c.key covers0.front (Begins-edge_front t c.key b1 c.front);
            only = λ j' l e h. c.only j' l (was_key j' l e) (left_p j' l e (covers0.only j' l (was_key j' l e) h));
          }
      raised (Inner m) c =
          let off : m ≢ p = λ e. (
          let a : length (t ++ b1 ∷ []) ≤ length (s.front_of m) = Begins-length _ _ c.front in
          let z : length (s.front_of m) ≡ length t = ap (λ m. length (s.front_of m)) e in
          let l : length (t ++ b1 ∷ []) ≡ length t + 1 = length-append t (b1 ∷ []) in
          omega arith) in
          record {
            live = live_kept m off c.live;
            front = Begins-trans g0 t (s.front_of m) covers0.front (Begins-edge_front t (s.front_of m) b1 c.front);
            only = λ j l e h. c.only j l (was_key j l e) (left_p j l e (covers0.only j l (was_key j l e) h));
          }

      node_fits : (m : ℕ) (x' : Node) → new m ≡ Some x' → NodeFits keys' new s.front_of (s.front_of m) x'
      node_fits m x' is =
          let off : m ≢ p = not_p m x' is in
          let w = back m x' is in
          let f : NodeFits keys nodes s.front_of (s.front_of m) w.0 = s.node m w.0 w.1 in
          turned_fits keys keys' nodes new s.front_of s.front_of w.0 x' (s.front_of m) g0 (Inner p) c1 w.2 f (raised c1 (fits_p.below b1 c1 high))
          (λ b' c far a. edge_kept m w.0 w.1 off b' c far a (f.below b' c a))
          (λ j l e h. (f.longer j l (was_key j l e) h, f.edge j l (was_key j l e) h))
          (parts_left m w.0 w.1 off)

      joined_left : (a c : ℕ) (x y : Bytes) → keys' a ≡ Some x → keys' c ≡ Some y → a ≢ c → (m : ℕ) × IsSome (new m) × (s.front_of m ≡ common x y)
      joined_left a c x y ax cy apart =
          let r = s.joined a c x y (was_key a x ax) (was_key c y cy) apart in
          let off : r.0 ≢ p = λ e. (
          let z : t ≡ common x y = ap s.front_of (sym e) ∙ r.2 in
          let tx : Begins t x = rw z (common-left x y) in
          let ty : Begins t y = rw (z, common_comm x y) (common-left y x) in
          let h : Begins (t ++ b1 ∷ []) (common x y) = common-greatest (t ++ b1 ∷ []) x y (left_p a x ax tx) (left_p c y cy ty) in
          let l1 : length (t ++ b1 ∷ []) ≤ length (common x y) = Begins-length _ _ h in
          let l2 : length (t ++ b1 ∷ []) ≡ length t + 1 = length-append t (b1 ∷ []) in
          let l3 : length t ≡ length (common x y) = ap length z in
          omega arith) in
          (r.0, live_kept r.0 off r.1, r.2)

      -- the edge above is that of the root, or of a node
      hangs : Hangs nodes root root' (Inner p) c1 above
      hangs = above_cases nodes cut mid root root' above (Inner p) c1 leads turns

      top_fits : RootFits keys' new s.front_of root'
      top_fits =
          elim hangs [
            | inl a ↦ rw a.2 (subst (λ (g : Bytes). Covers keys' new s.front_of g c1) (ap (edge_front s.front_of) a.0) (raised c1 (fits_p.below b1 c1 high)))
            | inr a ↦ rw a.3 (top_left new (λ n e c. node_kept [] n (λ z. let f : None ≡ above = one_above keys nodes root s p None above (e ∙ ap (λ (n : ℕ). Some (Inner n)) z) leads in let g : above ≡ Some a.0 = a.1 in cc) c))
          ]

      -- the child that moved up keeps the bytes that its front has after the edge above
      kept_up : (g : Bytes) (j : ℕ) (x' : Node) → c1 ≡ Inner j → g ≡ g0 → new j ≡ Some x' → x'.prefix ≡ take P (drop (length g) (s.front_of j))
      kept_up g j x' e same is =
          let w = back j x' is in
          recut.own j w.0 x' w.1 is e ∙ ap (λ (z : Bytes). take P (drop (length z) (s.front_of j))) (sym same)

      -- and each other node keeps its prefix
      kept_stays : (a : Option (ℕ × ℕ)) (j : ℕ) (x' : Node) → LeadsTo nodes root a (Inner j) → (a ≡ Some (p, b1) → ⊥) → new j ≡ Some x' → x'.prefix ≡ kept_prefix P s.front_of a j
      kept_stays a j x' l far is =
          let w = back j x' is in
          recut.others j w.0 x' w.1 is (λ z. far (one_above keys nodes root s j a (Some (p, b1)) l (was, was_is, high ∙ ap (λ (c : Child). Some c) z))) ∙ s.keeps a j w.0 l w.1

      kept_merged : Keeps P new root' s.front_of
      kept_merged None j x' l is =
          elim hangs [
            | inl a ↦ kept_up [] j x' (let e : Some c1 ≡ Some (Inner j) = sym a.2 ∙ l in cc) (sym (ap (edge_front s.front_of) a.0)) is
            | inr a ↦ kept_stays None j x' (sym a.3 ∙ l) (λ e. absurd cc) is
          ]
      kept_merged (Some (q, c)) j x' l is =
          let off : q ≢ p = not_p q l.0 l.1 in
          let w = back q l.0 l.1 in
          let there : child_at l.0.edges c ≡ Some (Inner j) = l.2 in
          elim (Bytes-cases (s.front_of q ++ c ∷ []) g0) [
            | inl at ↦ kept_up (s.front_of q ++ c ∷ []) j x' (let e : child_at l.0.edges c ≡ Some c1 = w.2.now c at in cc) at is
            | inr far ↦ kept_stays (Some (q, c)) j x' (w.0, w.1, sym (w.2.rest c far) ∙ there) (λ e. off (same_edge (q, c) (p, b1) e).0) is
          ]

      -- the tree if the edge above a node with two edges leads to its other child, not to the node
      pub edge_merged : Shape P keys' new root'
      edge_merged = record {
        front_of = s.front_of;
        top = top_fits;
        node = node_fits;
        joined = joined_left;
        apart = λ a c la lc e.
            let x = some_of (new a) la in
            let w = back a x.0 x.1 in
            let y = some_of (new c) lc in
            let v = back c y.0 y.1 in
            s.apart a c (is_some (nodes a) w.0 w.1) (is_some (nodes c) v.0 v.1) e;
        keeps = kept_merged;
      }
