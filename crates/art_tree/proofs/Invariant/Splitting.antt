-- One more key, on an edge that is split for it.
use Rattle.std.proofs.Common.{◌≡◌, ◌≢◌, ℕ, ◌+◌, ◌<◌, ◌≤◌, List, [], ◌∷◌, ◌++◌, length, take, drop, refl, ap, arith, sym, subst, Option, Some, None, IsSome, ◌∙◌, ◌⊎◌, inl, inr, cond, eqb, eq-eqb, length-append}
use Rattle.std.proofs.lemmas.Bool.{cases_lt, ne_eqb}
use Rattle.std.proofs.lemmas.Bool.Decides.{eqb_tells}
use Rattle.art_tree.specs.Begins.{Bytes, Begins, next_byte}
use Rattle.blart_keys.specs.Bytes.{common}
use Rattle.art_tree.specs.Invariant.EdgesAbove.{LeadsTo, TurnsTo, edge_front}
use Rattle.art_tree.specs.Calls.Forks.{PastLength}
use Rattle.art_kinds.specs.Nodes.{Node, Makes}
use Rattle.art_kinds.specs.Edges.{child_at}
use Rattle.art_tree.specs.Calls.Removing.{CutsAfter}
use Rattle.art_tree.specs.Invariant.Shape.{Shape, Keeps, kept_prefix, Covers, CoversLeaf, CoversNode, NodeFits, RootFits, Parts}
use Rattle.art_kinds.specs.declared.records.ids.Edge.{Edge}
use Rattle.art_kinds.specs.declared.records.ids.Child.{Child}
use Rattle.art_kinds.specs.declared.records.ids.Child.TheVariants.{Leaf, Inner}
use Rattle.art_tree.proofs.BeginsLemmas.{Begins-length, Begins-more, Begins-trans, Begins-itself, Begins-next, edge_some, Begins-linear, Begins-past, Begins-equal, Begins-edge_front, Bytes-cases}
use Rattle.blart_keys.proofs.Options.{is_some, some_of, not_some}
use Rattle.art_tree.proofs.Invariant.EdgesAbove.{Turns, turned_node, turned_off, turned_free, turns_after, leads_made, leads_live, Hangs, above_cases, came_from, turned_fits}
use Rattle.art_tree.proofs.Invariant.OneEdge.{one_above}
use Rattle.art_tree.proofs.Invariant.Prefixes.{apart_more, keeps_as, cut_node, cut_was, cut_free, cut_leads, turned_prefix, Recut, recut_by}
use Rattle.art_tree.proofs.Invariant.Growing.{covers_above, Departs, Gains, kept, kept_cases, within, Parts-kept, new_leaf, key_on, joined_on, top_from}
use Rattle.art_tree.proofs.Invariant.Subtrees.{above_leaf, above_node}

-- the child is a leaf, or a node with a front longer than t
abbrev pub Past : (ℕ → Bytes) → Bytes → Child → Type 0
Past front_of t c = PastLength front_of (length t) c

-- of the two edges of the new node, one leads to the leaf and the other to the old child
abbrev pub HoldBoth : Edge → Edge → ℕ → ℕ → ℕ → Child → Type 0
HoldBoth low high bk i bc c =
    ((low ≡ record { byte = bk; to = Leaf i }) × (high ≡ record { byte = bc; to = c })) ⊎ ((low ≡ record { byte = bc; to = c }) × (high ≡ record { byte = bk; to = Leaf i }))

-- these edges lead to two children, and to no other
abbrev AreEdges : List Edge → ℕ → Child → ℕ → Child → Type 0
AreEdges es b c b' c' = (child_at es b ≡ Some c) × (child_at es b' ≡ Some c') × ((d : ℕ) (e : Child) → child_at es d ≡ Some e → ((d ≡ b) × (e ≡ c)) ⊎ ((d ≡ b') × (e ≡ c')))

module _ (low high : Edge) (sorted : low.byte < high.byte) where
  are_edges : AreEdges (low ∷ high ∷ []) low.byte low.to high.byte high.to
  are_edges = (
    rw (eq-eqb low.byte low.byte refl) refl,
    rw (ne_eqb low.byte high.byte (λ e. omega arith), eq-eqb high.byte high.byte refl) refl,
    λ b c e.
        elim (eqb_tells low.byte b) [
          | inl p ↦ (let f : Some low.to ≡ Some c = rw p.0 at e in let g : c ≡ low.to = cc in inl (sym p.1, g))
          | inr p ↦
              elim (eqb_tells high.byte b) [
                | inl q ↦ (let f : Some high.to ≡ Some c = rw (p.0, q.0) at e in let g : c ≡ high.to = cc in inr (sym q.1, g))
                | inr q ↦ (let g : Some c ≡ child_at (low ∷ high ∷ []) b = sym e in let f : Some c ≡ None = rw (p.0, q.0) at g in absurd cc)
              ]
        ],
  )

  -- in either order
  both_edges : (bk i bc : ℕ) (c : Child) → HoldBoth low high bk i bc c → AreEdges (low ∷ high ∷ []) bk (Leaf i) bc c
  both_edges bk i bc c both =
      let held : (e f : Edge) → low ≡ e → high ≡ f → AreEdges (low ∷ high ∷ []) e.byte e.to f.byte f.to = λ e f p q. subst (λ (f : Edge). AreEdges (low ∷ high ∷ []) e.byte e.to f.byte f.to) q (subst (λ (e : Edge). AreEdges (low ∷ high ∷ []) e.byte e.to high.byte high.to) p are_edges) in
      elim both [
        | inl h ↦ held (record { byte = bk; to = Leaf i }) (record { byte = bc; to = c }) h.0 h.1
        | inr h ↦ (let a = held (record { byte = bc; to = c }) (record { byte = bk; to = Leaf i }) h.0 h.1 in (a.1, a.0, λ d e is. elim (a.2 d e is) [ inl x ↦ inr x | inr x ↦ inl x ]))
      ]

module _ {P : ℕ} (keys keys' : ℕ → Option Bytes) (nodes cut mid : ℕ → Option Node) (root : Option Child) (n i depth : ℕ) (prefix : List ℕ) (low high : Edge) (c0 : Child) (t k : Bytes) (s : Shape P keys nodes root)
    (gains : Gains keys keys' i k) (d : Departs keys t k) (cuts : CutsAfter P nodes cut s.front_of (t ++ next_byte t d.nearest_key ∷ []) c0) (makes : Makes cut mid n depth prefix low high) (deep : depth ≡ length t) (sorted : low.byte < high.byte)
    (both : HoldBoth low high (next_byte t k) i (next_byte t d.nearest_key) c0) where
  abbrev made : Node
  made = record { depth = depth; prefix = prefix; edges = low ∷ high ∷ [] }

  edges : AreEdges (low ∷ high ∷ []) (next_byte t k) (Leaf i) (next_byte t d.nearest_key) c0
  edges = both_edges low high sorted (next_byte t k) i (next_byte t d.nearest_key) c0 both

  fresh : nodes n ≡ None
  fresh = cut_free P nodes cut s.front_of (t ++ next_byte t d.nearest_key ∷ []) c0 cuts n makes.fresh

  off_new : (m : ℕ) (x : Node) → cut m ≡ Some x → m ≢ n
  off_new m x is e = let f : cut n ≡ Some x = ap cut (sym e) ∙ is in let g : cut n ≡ None = makes.fresh in cc

  module _ (above : Option (ℕ × ℕ)) (new : ℕ → Option Node) (root' : Option Child) (leads : LeadsTo nodes root above c0) (turns : TurnsTo mid new root root' above (Inner n)) (prefix_is : prefix ≡ take P (drop (length (edge_front s.front_of above)) t))
      (past : Past s.front_of t c0) (g0_t : Begins (edge_front s.front_of above) t) where
    abbrev g0 : Bytes
    g0 = edge_front s.front_of above

    covers0 : Covers keys nodes s.front_of g0 c0
    covers0 = covers_above keys nodes root s above c0 leads

    -- the edge above is that of the root, or of a node
    hangs : Hangs nodes root root' c0 (Inner n) above
    hangs = above_cases nodes mid new root root' above c0 (Inner n) leads turns

    -- the edge still leads to the child after the cut, and once the new node is made
    leads_mid : LeadsTo mid root above c0
    leads_mid = leads_made cut mid root above c0 n depth prefix low high (cut_leads P nodes cut s.front_of (t ++ next_byte t d.nearest_key ∷ []) c0 cuts root above c0 leads) makes

    -- the change of a node
    turned : (m : ℕ) (x : Node) → nodes m ≡ Some x → (x' : Node) × (new m ≡ Some x') × Turns x x' (s.front_of m) g0 c0 (Inner n)
    turned m x is =
        let y = cut_node P nodes cut s.front_of (t ++ next_byte t d.nearest_key ∷ []) c0 cuts m x is in
        let z = turned_node s.front_of mid new root root' c0 (Inner n) (λ m. IsSome (nodes m)) s.apart above leads_mid (leads_live nodes root above c0 leads) turns m y.0 (is_some (nodes m) x is) (makes.others m (off_new m y.0 y.1) ∙ y.1) in
        (z.0, z.1, turns_after x y.0 z.0 (s.front_of m) g0 c0 (Inner n) y.2.depth y.2.edges z.2)

    made_is : new n ≡ Some made
    made_is = turned_off mid new root root' above (Inner n) turns n (λ e is z. let l = leads_live nodes root above c0 leads e is in let f : nodes n ≡ None = fresh in let g : IsSome (nodes n) = subst (λ (j : ℕ). IsSome (nodes j)) (sym z) l in not_some (nodes n) f g) ∙ makes.is

    no_more : (m : ℕ) → m ≢ n → nodes m ≡ None → new m ≡ None
    no_more m off e = turned_free mid new root root' above (Inner n) turns m (makes.others m off ∙ cut_was P nodes cut s.front_of (t ++ next_byte t d.nearest_key ∷ []) c0 cuts m e)

    recut : Recut P nodes new s.front_of (t ++ next_byte t d.nearest_key ∷ []) c0
    recut = recut_by P nodes cut new s.front_of (t ++ next_byte t d.nearest_key ∷ []) c0 cuts (λ m x x' was is. turned_prefix mid new root root' above (Inner n) turns m x x' (makes.others m (off_new m x was) ∙ was) is)

    -- only one edge leads to the child
    one : (a : Option (ℕ × ℕ)) (j : ℕ) → LeadsTo nodes root a (Inner j) → c0 ≡ Inner j → edge_front s.front_of a ≡ edge_front s.front_of above
    one a j l e = ap (edge_front s.front_of) (one_above keys nodes root s j a above l (subst (λ (c : Child). LeadsTo nodes root above c) e leads))

    -- the fronts, with that of the new node
    abbrev fronts_after : ℕ → Bytes
    fronts_after m = cond (eqb m n) t (s.front_of m)

    after-new : fronts_after n ≡ t
    after-new = rw (eq-eqb n n refl) refl

    after-old : (m : ℕ) → m ≢ n → fronts_after m ≡ s.front_of m
    after-old m h = elim (eqb_tells m n) [ inl e ↦ absurd (h e.1) | inr e ↦ rw e.0 refl ]

    not_new : (m : ℕ) → IsSome (nodes m) → m ≢ n
    not_new m h e = let x = some_of (nodes m) h in let f : nodes n ≡ Some x.0 = rw (← e) x.1 in let g : nodes n ≡ None = fresh in cc

    live_kept : (m : ℕ) → IsSome (nodes m) → IsSome (new m)
    live_kept m h = let x = some_of (nodes m) h in let y = turned m x.0 x.1 in is_some (new m) y.0 y.1

    live_new : IsSome (new n)
    live_new = is_some (new n) made made_is

    -- a child that covers a node whose front is a prefix of t is not past t
    not_past_above : (m : ℕ) → IsSome (nodes m) → Begins (s.front_of m) t → (g : Bytes) (c : Child) → Covers keys nodes s.front_of g c → Begins g (s.front_of m) → Past s.front_of t c → ⊥
    not_past_above m live mt g (Leaf j) cov gm far = above_leaf keys nodes root s m live g j cov gm
    not_past_above m live mt g (Inner m') cov gm far =
        let a : length (s.front_of m') ≤ length (s.front_of m) = Begins-length (s.front_of m') (s.front_of m) (above_node keys nodes root s m live g m' cov gm) in
        let b : length (s.front_of m) ≤ length t = Begins-length (s.front_of m) t mt in
        let f : length t < length (s.front_of m') = far in
        omega arith

    -- no node had the front t
    not_front : (m : ℕ) → IsSome (nodes m) → s.front_of m ≡ t → ⊥
    not_front m live e =
        let mt : Begins (s.front_of m) t = rw e (Begins-itself t) in
        not_past_above m live mt g0 c0 covers0 (rw e g0_t) past

    -- the child of an edge toward t other than the split one is not past t
    not_past_edge : (m : ℕ) → IsSome (nodes m) → (b : ℕ) (c : Child) → Covers keys nodes s.front_of (s.front_of m ++ b ∷ []) c → s.front_of m ++ b ∷ [] ≢ g0 → Begins (s.front_of m ++ b ∷ []) t → Past s.front_of t c → ⊥
    not_past_edge m live b c cov other gt far =
        let f : Bytes = s.front_of m in
        let g : Bytes = f ++ b ∷ [] in
        elim (cases_lt (length g0) (length g)) [
          | inl lt ↦
              let le : length g ≡ length f + 1 = length-append f (b ∷ []) in
              let ft : Begins f t = Begins-edge_front f t b gt in
              not_past_above m live ft g0 c0 covers0 (Begins-linear g0 f t g0_t ft (omega arith)) past
          | inr ge ↦
              elim hangs [
                | inl a ↦
                    let z : length g0 ≡ 0 = ap (λ (z : Option (ℕ × ℕ)). length (edge_front s.front_of z)) a.0 in
                    let le : length g ≡ length f + 1 = length-append f (b ∷ []) in
                    absurd (omega arith)
                | inr a ↦
                    let f0 : Bytes = s.front_of a.0.0 in
                    let e : g0 ≡ f0 ++ a.0.1 ∷ [] = ap (edge_front s.front_of) a.1 in
                    let le0 : length g0 ≡ length f0 + 1 = ap length e ∙ length-append f0 (a.0.1 ∷ []) in
                    let f0t : Begins f0 t = Begins-edge_front f0 t a.0.1 (rw (← e) g0_t) in
                    elim (cases_lt (length g) (length g0)) [
                      | inl lt ↦ not_past_above a.0.0 a.2 f0t g c cov (Begins-linear g f0 t gt f0t (omega arith)) far
                      | inr same ↦ other (Begins-equal g g0 (Begins-linear g g0 t gt g0_t ge) same)
                    ]
              ]
        ]

    nearest_at : (j : ℕ) (l : Bytes) → keys j ≡ Some l → j ≡ d.nearest → l ≡ d.nearest_key
    nearest_at j l is e = let f : keys d.nearest ≡ Some l = rw (← e) is in let g : keys d.nearest ≡ Some d.nearest_key = d.nearest_is in cc

    nearest_g0 : Begins g0 d.nearest_key
    nearest_g0 = Begins-trans g0 t d.nearest_key g0_t d.nearest_front

    -- a key below the split edge begins with t, and continues as the nearest key does
    below_g0 : (c : Child) → c ≡ c0 → Covers keys nodes s.front_of g0 c → Past s.front_of t c → (j : ℕ) (l : Bytes) → keys j ≡ Some l → Begins g0 l → Begins (t ++ next_byte t d.nearest_key ∷ []) l
    below_g0 (Leaf j0) e cov far j l is b =
        let a : j ≡ j0 = cov.only j l is b in
        let h : d.nearest ≡ j0 = cov.only d.nearest d.nearest_key d.nearest_is nearest_g0 in
        rw (nearest_at j l is (a ∙ sym h)) (Begins-more t d.nearest_key d.nearest_front d.nearest_longer)
    below_g0 (Inner m0) e cov far j l is b =
        let a : Begins (s.front_of m0) l = cov.only j l is b in
        let h : Begins (s.front_of m0) d.nearest_key = cov.only d.nearest d.nearest_key d.nearest_is nearest_g0 in
        Begins-trans (t ++ next_byte t d.nearest_key ∷ []) (s.front_of m0) l (Begins-past t (s.front_of m0) d.nearest_key d.nearest_front h far) a

    under_g0 : (j : ℕ) (l : Bytes) → keys j ≡ Some l → Begins g0 l → Begins (t ++ next_byte t d.nearest_key ∷ []) l
    under_g0 j l is b = below_g0 c0 refl covers0 past j l is b

    -- k continues from t with another byte than the nearest key
    not_nearest : Begins (t ++ next_byte t d.nearest_key ∷ []) k → ⊥
    not_nearest b =
        let e : next_byte t k ≡ next_byte t d.nearest_key = Begins-next t k (next_byte t d.nearest_key) b in
        d.alone d.nearest d.nearest_key d.nearest_is (rw e (Begins-more t d.nearest_key d.nearest_front d.nearest_longer))

    leaf_kept : (g : Bytes) (j : ℕ) → (Begins g t → ⊥) → CoversLeaf keys g j → CoversLeaf keys' g j
    leaf_kept g j far c = record {
      key = c.key;
      is = kept keys keys' i k gains j c.key c.is;
      front = c.front;
      only = λ j' l e b.
          elim (kept_cases keys keys' i k gains j' l e) [
            | inl o ↦ c.only j' l o b
            | inr o ↦
                let gk : Begins g k = rw (← o.1) b in
                absurd (far (within keys nodes s.front_of t k d g j c.key c.is c.front gk))
          ];
    }

    node_kept : (g : Bytes) (m : ℕ) → (Begins g t → length t < length (s.front_of m) → ⊥) → CoversNode keys nodes s.front_of g m → CoversNode keys' new fronts_after g m
    node_kept g m far c =
        let e : fronts_after m ≡ s.front_of m = after-old m (not_new m c.live) in
        record {
          live = live_kept m c.live;
          front = rw e c.front;
          only = λ j' l is b. rw e (
              elim (kept_cases keys keys' i k gains j' l is) [
                | inl o ↦ c.only j' l o b
                | inr o ↦
                    let x = some_of (nodes m) c.live in
                    let q = (s.node m x.0 x.1).parts in
                    let gk : Begins g k = rw (← o.1) b in
                    let gt : Begins g t = within keys nodes s.front_of t k d g q.i q.k q.k_is (Begins-trans g (s.front_of m) q.k c.front q.k_front) gk in
                    elim (cases_lt (length t) (length (s.front_of m))) [
                      | inl lt ↦ absurd (far gt lt)
                      | inr le ↦
                          let a : Begins (s.front_of m) d.nearest_key = c.only d.nearest d.nearest_key d.nearest_is (Begins-trans g t d.nearest_key gt d.nearest_front) in
                          rw o.1 (Begins-trans (s.front_of m) t k (Begins-linear (s.front_of m) t d.nearest_key a d.nearest_front le) d.front)
                    ]
              ]);
        }

    edge_kept : (g : Bytes) (c : Child) → (Begins g t → Past s.front_of t c → ⊥) → Covers keys nodes s.front_of g c → Covers keys' new fronts_after g c
    edge_kept g (Leaf j) far c = leaf_kept g j (λ b. far b tt) c
    edge_kept g (Inner m) far c = node_kept g m far c

    new_node : CoversNode keys' new fronts_after g0 n
    new_node = record {
      live = live_new;
      front = rw after-new g0_t;
      only = λ j l e b. rw after-new (
          elim (kept_cases keys keys' i k gains j l e) [
            | inl o ↦ Begins-edge_front t l (next_byte t d.nearest_key) (under_g0 j l o b)
            | inr o ↦ rw o.1 d.front
          ]);
    }

    -- the old child, below the new node
    old_child : (c : Child) → c ≡ c0 → Covers keys nodes s.front_of g0 c → Past s.front_of t c → Covers keys' new fronts_after (t ++ next_byte t d.nearest_key ∷ []) c
    old_child (Leaf j0) e cov far = record {
      key = cov.key;
      is = kept keys keys' i k gains j0 cov.key cov.is;
      front = under_g0 j0 cov.key cov.is cov.front;
      only = λ j l is b.
          elim (kept_cases keys keys' i k gains j l is) [
            | inl o ↦ cov.only j l o (Begins-trans g0 t l g0_t (Begins-edge_front t l (next_byte t d.nearest_key) b))
            | inr o ↦ absurd (not_nearest (rw (← o.1) b))
          ];
    }
    old_child (Inner m0) e cov far =
        let e : fronts_after m0 ≡ s.front_of m0 = after-old m0 (not_new m0 cov.live) in
        let h : Begins (s.front_of m0) d.nearest_key = cov.only d.nearest d.nearest_key d.nearest_is nearest_g0 in
        record {
          live = live_kept m0 cov.live;
          front = rw e (Begins-past t (s.front_of m0) d.nearest_key d.nearest_front h far);
          only = λ j l is b. rw e (
              elim (kept_cases keys keys' i k gains j l is) [
                | inl o ↦ cov.only j l o (Begins-trans g0 t l g0_t (Begins-edge_front t l (next_byte t d.nearest_key) b))
                | inr o ↦ absurd (not_nearest (rw (← o.1) b))
              ]);
        }

    bytes_differ : next_byte t k ≢ next_byte t d.nearest_key
    bytes_differ e = d.alone d.nearest d.nearest_key d.nearest_is (rw e (Begins-more t d.nearest_key d.nearest_front d.nearest_longer))

    new_parts : Parts keys' t
    new_parts = record {
      i = i;
      j = d.nearest;
      k = k;
      l = d.nearest_key;
      k_is = gains.has;
      l_is = kept keys keys' i k gains d.nearest d.nearest_key d.nearest_is;
      k_front = d.front;
      l_front = d.nearest_front;
      differ = bytes_differ;
    }

    new_fits : NodeFits keys' new fronts_after t made
    new_fits = record {
      depth = deep;
      below = λ b c e.
          elim (edges.2 b c e) [
            | inl o ↦ rw (o.0, o.1) (new_leaf keys keys' i k gains t d)
            | inr o ↦ rw (o.0, o.1) (old_child c0 refl covers0 past)
          ];
      longer = λ j l e b.
          elim (kept_cases keys keys' i k gains j l e) [
            | inl o ↦
                let a : length (t ++ next_byte t d.nearest_key ∷ []) ≤ length l = Begins-length _ l (under_g0 j l o (Begins-trans g0 t l g0_t b)) in
                let le : length (t ++ next_byte t d.nearest_key ∷ []) ≡ length t + 1 = length-append t (next_byte t d.nearest_key ∷ []) in
                omega arith
            | inr o ↦ rw o.1 d.longer
          ];
      edge = λ j l e b.
          elim (kept_cases keys keys' i k gains j l e) [
            | inl o ↦ is_some (child_at made.edges (next_byte t l)) c0 (ap (child_at made.edges) (Begins-next t l (next_byte t d.nearest_key) (under_g0 j l o (Begins-trans g0 t l g0_t b))) ∙ edges.1)
            | inr o ↦ is_some (child_at made.edges (next_byte t l)) (Leaf i) (ap (λ (l : Bytes). child_at made.edges (next_byte t l)) o.1 ∙ edges.0)
          ];
      parts = new_parts;
      ascends = (sorted, tt);
    }

    -- an old front that is a prefix of k is shorter than t
    shorter : (m : ℕ) (x : Node) → nodes m ≡ Some x → Begins (s.front_of m) k → length (s.front_of m) < length t
    shorter m x is b =
        let q = (s.node m x is).parts in
        let mt : Begins (s.front_of m) t = within keys nodes s.front_of t k d (s.front_of m) q.i q.k q.k_is q.k_front b in
        elim (cases_lt (length (s.front_of m)) (length t)) [
          | inl h ↦ h
          | inr h ↦ absurd (not_front m (is_some (nodes m) x is) (Begins-equal (s.front_of m) t mt h))
        ]

    old_fits : (m : ℕ) (x x' : Node) → nodes m ≡ Some x → Turns x x' (s.front_of m) g0 c0 (Inner n) → NodeFits keys' new fronts_after (s.front_of m) x'
    old_fits m x x' is r =
        let g : Bytes = s.front_of m in
        let f : NodeFits keys nodes s.front_of g x = s.node m x is in
        turned_fits keys keys' nodes new s.front_of fronts_after x x' g g0 c0 (Inner n) r f new_node
        (λ b c off a. edge_kept (g ++ b ∷ []) c (not_past_edge m (is_some (nodes m) x is) b c (f.below b c a) off) (f.below b c a))
        (key_on keys keys' i k gains t d g x.edges (shorter m x is) f.longer f.edge)
        (Parts-kept keys keys' i k gains g f.parts)

    back : (m : ℕ) → m ≢ n → (x' : Node) → new m ≡ Some x' → (x : Node) × (nodes m ≡ Some x) × Turns x x' (s.front_of m) g0 c0 (Inner n)
    back m off x' is = came_from (λ x x'. Turns x x' (s.front_of m) g0 c0 (Inner n)) (nodes m) (new m) (turned m) (no_more m off) x' is

    node_fits : (m : ℕ) (x : Node) → new m ≡ Some x → NodeFits keys' new fronts_after (fronts_after m) x
    node_fits m x is =
        elim (eqb_tells m n) [
          | inl e ↦
              let f : new n ≡ Some made = made_is in
              let g : new n ≡ Some x = rw (← e.1) is in
              let h : made ≡ x = cc in
              let z : fronts_after m ≡ t = ap fronts_after e.1 ∙ after-new in
              subst (λ (f : Bytes). NodeFits keys' new fronts_after f x) (sym z) (subst (λ (x : Node). NodeFits keys' new fronts_after t x) h new_fits)
          | inr e ↦
              let w = back m e.1 x is in
              subst (λ (f : Bytes). NodeFits keys' new fronts_after f x) (sym (after-old m e.1)) (old_fits m w.0 x w.1 w.2)
        ]

    old_joined : (a b : ℕ) (x y : Bytes) → keys a ≡ Some x → keys b ≡ Some y → a ≢ b → (m : ℕ) × IsSome (new m) × (fronts_after m ≡ common x y)
    old_joined a b x y ax by apart = let r = s.joined a b x y ax by apart in (r.0, live_kept r.0 r.1, after-old r.0 (not_new r.0 r.1) ∙ r.2)

    top_fits : RootFits keys' new fronts_after root'
    top_fits =
        elim hangs [
          | inl a ↦ rw a.2 (subst (λ (g : Bytes). CoversNode keys' new fronts_after g n) (ap (edge_front s.front_of) a.0) new_node)
          | inr a ↦
              let e : g0 ≡ s.front_of a.0.0 ++ a.0.1 ∷ [] = ap (edge_front s.front_of) a.1 in
              rw a.3 (top_from keys keys' nodes new root s fronts_after d.nearest d.nearest_key d.nearest_is (λ c z h. edge_kept [] c (λ b far. not_past_above a.0.0 a.2 (Begins-edge_front (s.front_of a.0.0) t a.0.1 (rw (← e) g0_t)) [] c h tt far) h))
        ]

    -- an old edge to a node other than the child: the node keeps its prefix
    kept_old : (a : Option (ℕ × ℕ)) (j : ℕ) (x' : Node) → LeadsTo nodes root a (Inner j) → (edge_front s.front_of a ≡ g0 → ⊥) → edge_front fronts_after a ≡ edge_front s.front_of a → new j ≡ Some x' → x'.prefix ≡ kept_prefix P fronts_after a j
    kept_old a j x' l far e is =
        let cov : CoversNode keys nodes s.front_of (edge_front s.front_of a) j = covers_above keys nodes root s a (Inner j) l in
        let x = some_of (nodes j) cov.live in
        keeps_as P s.front_of fronts_after a a j j x.0 x' (s.keeps a j x.0 l x.1) (recut.others j x.0 x' x.1 is (λ z. far (one a j l z))) e (after-old j (not_new j cov.live))

    -- the new node keeps the bytes that its front has after the edge above
    kept_made : (x' : Node) → new n ≡ Some x' → x'.prefix ≡ take P (drop (length g0) (fronts_after n))
    kept_made x' is =
        let f : new n ≡ Some made = made_is in
        let z : x' ≡ made = cc in
        ap (λ (x : Node). x.prefix) z ∙ prefix_is ∙ ap (λ (w : Bytes). take P (drop (length g0) w)) (sym after-new)

    -- the same for the new node under another name
    kept_at : (g : Bytes) (j : ℕ) (x' : Node) → Inner n ≡ Inner j → g ≡ g0 → new j ≡ Some x' → x'.prefix ≡ take P (drop (length g) (fronts_after j))
    kept_at g j x' e same is =
        let z : n ≡ j = cc in
        subst (λ (k : ℕ). x'.prefix ≡ take P (drop (length g) (fronts_after k))) z (kept_made x' (ap new z ∙ is) ∙ ap (λ (w : Bytes). take P (drop (length w) (fronts_after n))) (sym same))

    kept_split : Keeps P new root' fronts_after
    kept_split None j x' l is =
        elim hangs [
          | inl a ↦ kept_at [] j x' (let e : Some (Inner n) ≡ Some (Inner j) = sym a.2 ∙ l in cc) (sym (ap (edge_front s.front_of) a.0)) is
          | inr a ↦ kept_old None j x' (sym a.3 ∙ l) (λ e. edge_some (s.front_of a.0.0) a.0.1 (sym (e ∙ ap (edge_front s.front_of) a.1))) refl is
        ]
    kept_split (Some (q, b)) j x' l is =
        elim (eqb_tells q n) [
          | inl e ↦
              let f : new n ≡ Some l.0 = ap new (sym e.1) ∙ l.1 in
              let g : new n ≡ Some made = made_is in
              let z : l.0 ≡ made = cc in
              let front : fronts_after q ≡ t = ap fronts_after e.1 ∙ after-new in
              elim (edges.2 b (Inner j) (ap (λ (x : Node). child_at x.edges b) (sym z) ∙ l.2)) [
                | inl o ↦ (let w : Inner j ≡ Leaf i = o.1 in absurd cc)
                | inr o ↦
                    let cov : CoversNode keys nodes s.front_of g0 j = subst (λ (c : Child). Covers keys nodes s.front_of g0 c) (sym o.1) covers0 in
                    let x = some_of (nodes j) cov.live in
                    let own = recut.own j x.0 x' x.1 is (sym o.1) in
                    own ∙ ap (λ (w : Bytes). take P (drop (length (t ++ next_byte t d.nearest_key ∷ [])) w)) (sym (after-old j (not_new j cov.live)))
                    ∙ ap (λ (w : Bytes). take P (drop (length w) (fronts_after j))) (λ h. (sym front) h ++ (sym o.0) h ∷ [])
              ]
          | inr e ↦
              let w = back q e.1 l.0 l.1 in
              let there : child_at l.0.edges b ≡ Some (Inner j) = l.2 in
              let front : fronts_after q ++ b ∷ [] ≡ s.front_of q ++ b ∷ [] = ap (λ (u : Bytes). u ++ b ∷ []) (after-old q e.1) in
              elim (Bytes-cases (s.front_of q ++ b ∷ []) g0) [
                | inl at ↦ (let u : child_at l.0.edges b ≡ Some (Inner n) = w.2.now b at in kept_at (fronts_after q ++ b ∷ []) j x' (let v : Inner n ≡ Inner j = cc in v) (front ∙ at) is)
                | inr off ↦ kept_old (Some (q, b)) j x' (w.0, w.1, sym (w.2.rest b off) ∙ there) off front is
              ]
        ]

    -- the tree if a new node has the old child and the new leaf, and the edge above leads to it
    pub edge_split : Shape P keys' new root'
    edge_split = record {
      front_of = fronts_after;
      top = top_fits;
      node = node_fits;
      joined = joined_on keys keys' i k gains t d new fronts_after n live_new after-new old_joined;
      apart = apart_more nodes new s.front_of fronts_after n s.apart (λ m off live. let x = some_of (new m) live in let w = back m off x.0 x.1 in is_some (nodes m) w.0 w.1) after-old (λ m live e. not_front m live (e ∙ after-new));
      keeps = kept_split;
    }
