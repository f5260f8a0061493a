-- One more key: the nodes and edges along it.
use Rattle.std.proofs.Common.{◌≡◌, ◌≢◌, ℕ, ◌<◌, [], ◌∷◌, ◌++◌, length, refl, ap, arith, sym, subst, Option, Some, None, IsSome, ◌∙◌, ◌⊎◌, inl, inr, true, false, List}
use Rattle.std.proofs.lemmas.Bool.{cases_lt}
use Rattle.std.proofs.lemmas.Bool.Decides.{eqb_tells}
use Rattle.art_tree.specs.Begins.{Bytes, Begins, next_byte}
use Rattle.blart_keys.specs.Bytes.{common}
use Rattle.art_tree.specs.Invariant.EdgesAbove.{LeadsTo, edge_front}
use Rattle.art_kinds.specs.Nodes.{Node, AddsEdgeTo}
use Rattle.art_kinds.specs.Edges.{child_at}
use Rattle.art_tree.specs.Invariant.Shape.{Shape, Covers, CoversLeaf, CoversNode, NodeFits, RootFits, Parts}
pub use Rattle.art_tree.specs.Calls.Placing.{Gains}
use Rattle.art_kinds.specs.declared.records.ids.Child.{Child}
use Rattle.art_kinds.specs.declared.records.ids.Child.TheVariants.{Leaf, Inner}
use Rattle.art_kinds.specs.declared.records.ids.Edge.{Edge}
use Rattle.blart_keys.proofs.Options.{is_some, some_of}
use Rattle.art_tree.proofs.Invariant.Prefixes.{keeps_changed, live_after, live_before}
use Rattle.art_tree.proofs.BeginsLemmas.{Begins-more, Begins-trans, Begins-linear, Begins-past, next_byte-front, Begins-equal, Begins-cases, common_same, common_at, common_comm}

-- t is a prefix of the key k and of another key, and no key continues from t with k's next byte
pub record Departs (keys : ℕ → Option Bytes) (t k : Bytes) : Type 0 where
  pub front : Begins t k
  pub longer : length t < length k
  pub alone : (j : ℕ) (l : Bytes) → keys j ≡ Some l → Begins (t ++ next_byte t k ∷ []) l → ⊥
  pub nearest : ℕ
  pub nearest_key : Bytes
  pub nearest_is : keys nearest ≡ Some nearest_key
  pub nearest_front : Begins t nearest_key
  pub nearest_longer : length t < length nearest_key

-- two keys part at t, if each old key has one with the same next byte in its place
pub Parts-instead : (old new : ℕ → Option Bytes) (t : Bytes) → ((j : ℕ) (l : Bytes) → old j ≡ Some l → Begins t l → (j' : ℕ) × (l' : Bytes) × (new j' ≡ Some l') × Begins t l' × (next_byte t l' ≡ next_byte t l)) → Parts old t → Parts new t
Parts-instead old new t instead q =
    let u = instead q.i q.k q.k_is q.k_front in
    let v = instead q.j q.l q.l_is q.l_front in
    record { i = u.0; j = v.0; k = u.1; l = v.1; k_is = u.2; l_is = v.2; k_front = u.3; l_front = v.3; differ = λ e. q.differ (sym u.4 ∙ e ∙ v.4) }

-- all keys are below the root, if its child still covers them, and there were some
pub top_from : {P : ℕ} → (keys keys' : ℕ → Option Bytes) (nodes nodes' : ℕ → Option Node) (root : Option Child) (s : Shape P keys nodes root) (fronts : ℕ → Bytes) (i : ℕ) (k : Bytes) → keys i ≡ Some k → ((c : Child) → root ≡ Some c → Covers keys nodes s.front_of [] c → Covers keys' nodes' fronts [] c) → RootFits keys' nodes' fronts root
top_from keys keys' nodes nodes' root s fronts i k is covered = go root refl s.top
  where
    go : (r : Option Child) → root ≡ r → RootFits keys nodes s.front_of r → RootFits keys' nodes' fronts r
    go None e h = λ j. absurd (let f : None ≡ Some k = sym (h i) ∙ is in cc)
    go (Some c) e h = covered c e h

module _ (old new : ℕ → Option Bytes) (i : ℕ) (k : Bytes) (gains : Gains old new i k) where
  pub kept : (j : ℕ) (l : Bytes) → old j ≡ Some l → new j ≡ Some l
  kept j l e =
      let f : old i ≡ None = gains.fresh in
      let apart : j ≢ i = λ s. (let h : old i ≡ Some l = rw (← s) e in cc) in
      gains.others j apart ∙ e

  -- a key was there before, or is the new one
  pub kept_cases : (j : ℕ) (l : Bytes) → new j ≡ Some l → (old j ≡ Some l) ⊎ ((j ≡ i) × (l ≡ k))
  kept_cases j l e =
      elim (eqb_tells j i) [
        | inl s ↦
            let h : new i ≡ Some k = gains.has in
            let f : new i ≡ Some l = rw (← s.1) e in
            let same : l ≡ k = cc in
            inr (s.1, same)
        | inr s ↦ inl (sym (gains.others j s.1) ∙ e)
      ]

  -- if each two old keys part at a node, and the new key and each old one, each two new keys do
  joined_more : (nodes : ℕ → Option Node) (fronts : ℕ → Bytes)
      → ((a b : ℕ) (x y : Bytes) → old a ≡ Some x → old b ≡ Some y → a ≢ b → (m : ℕ) × IsSome (nodes m) × (fronts m ≡ common x y))
      → ((j : ℕ) (l : Bytes) → old j ≡ Some l → (m : ℕ) × IsSome (nodes m) × (fronts m ≡ common k l))
      → (a b : ℕ) (x y : Bytes) → new a ≡ Some x → new b ≡ Some y → a ≢ b → (m : ℕ) × IsSome (nodes m) × (fronts m ≡ common x y)
  joined_more nodes fronts joined_old joined_new a b x y ax by apart =
      elim (kept_cases a x ax) [
        | inl o ↦
            elim (kept_cases b y by) [
              | inl p ↦ joined_old a b x y o p apart
              | inr p ↦ let r = joined_new a x o in (r.0, r.1, r.2 ∙ common_comm k x ∙ ap (common x) (sym p.1))
            ]
        | inr o ↦
            elim (kept_cases b y by) [
              | inl p ↦ let r = joined_new b y p in (r.0, r.1, r.2 ∙ ap (λ (z : Bytes). common z y) (sym o.1))
              | inr p ↦ absurd (apart (o.0 ∙ sym p.0))
            ]
      ]

module _ (keys : ℕ → Option Bytes) (t k : Bytes) (d : Departs keys t k) where
  -- a prefix of k shorter than t has an edge toward k, the same as toward the nearest key
  edge_toward : (g : Bytes) (edges : List Edge) → Begins g k → length g < length t → ((j : ℕ) (l : Bytes) → keys j ≡ Some l → Begins g l → IsSome (child_at edges (next_byte g l))) → IsSome (child_at edges (next_byte g k))
  edge_toward g edges gk h edge =
      let gt : Begins g t = Begins-linear g t k gk d.front (omega arith) in
      let a : next_byte g t ≡ next_byte g k = next_byte-front g t k d.front h in
      let c : next_byte g t ≡ next_byte g d.nearest_key = next_byte-front g t d.nearest_key d.nearest_front h in
      subst (λ (b : ℕ). IsSome (child_at edges b)) (sym c ∙ a) (edge d.nearest d.nearest_key d.nearest_is (Begins-trans g t d.nearest_key gt d.nearest_front))

module _ (keys : ℕ → Option Bytes) (nodes : ℕ → Option Node) (front_of : ℕ → Bytes) (t k : Bytes) (d : Departs keys t k) where
  -- a prefix of k and of another key ends where k departs, or before
  pub within : (g : Bytes) (j : ℕ) (l : Bytes) → keys j ≡ Some l → Begins g l → Begins g k → Begins g t
  within g j l is gl gk =
      elim (cases_lt (length t) (length g)) [
        | inl far ↦ absurd (d.alone j l is (Begins-trans (t ++ next_byte t k ∷ []) g l (Begins-past t g k d.front gk far) gl))
        | inr near ↦ Begins-linear g t k gk d.front near
      ]

-- a common prefix of the two keys that part after t is a prefix of t
pub Parts-within : (keys : ℕ → Option Bytes) (t f : Bytes) (p : Parts keys t) → Begins f p.k → Begins f p.l → Begins f t
Parts-within keys t f p a b =
    elim (cases_lt (length t) (length f)) [
      | inl far ↦
          let x : next_byte t f ≡ next_byte t p.k = next_byte-front t f p.k a far in
          let y : next_byte t f ≡ next_byte t p.l = next_byte-front t f p.l b far in
          absurd (p.differ (sym x ∙ y))
      | inr near ↦ Begins-linear f t p.k a p.k_front near
    ]

-- two keys that part are those of two leaves
pub Parts-two : (keys : ℕ → Option Bytes) (t : Bytes) (p : Parts keys t) (j : ℕ) → p.i ≡ j → p.j ≡ j → ⊥
Parts-two keys t p j a b =
    let e : keys p.i ≡ Some p.k = p.k_is in
    let f : keys p.j ≡ Some p.l = p.l_is in
    let h : p.i ≡ p.j = a ∙ sym b in
    let f2 : keys p.i ≡ Some p.l = rw h f in
    let s : p.k ≡ p.l = cc in
    p.differ (ap (next_byte t) s)

module _ (keys keys' : ℕ → Option Bytes) (i : ℕ) (k : Bytes) (gains : Gains keys keys' i k) where
  pub Parts-kept : (t : Bytes) → Parts keys t → Parts keys' t
  Parts-kept t p = Parts-instead keys keys' t (λ j l e b. (j, l, kept keys keys' i k gains j l e, b, refl)) p

  module _ (t : Bytes) (d : Departs keys t k) where
    -- the new leaf has an edge from t
    pub new_leaf : CoversLeaf keys' (t ++ next_byte t k ∷ []) i
    new_leaf = record {
      key = k;
      is = gains.has;
      front = Begins-more t k d.front d.longer;
      only = λ j l e b. elim (kept_cases keys keys' i k gains j l e) [ inl o ↦ absurd (d.alone j l o b) | inr o ↦ o.0 ];
    }

    -- each key with the prefix g has an edge, if the old ones have, and g ends before k departs
    pub key_on : (g : Bytes) (edges : List Edge) → (Begins g k → length g < length t) → ((j : ℕ) (l : Bytes) → keys j ≡ Some l → Begins g l → length g < length l) → ((j : ℕ) (l : Bytes) → keys j ≡ Some l → Begins g l → IsSome (child_at edges (next_byte g l)))
        → (j : ℕ) (l : Bytes) → keys' j ≡ Some l → Begins g l → (length g < length l) × IsSome (child_at edges (next_byte g l))
    key_on g edges shorter longer edge j l e b =
        elim (kept_cases keys keys' i k gains j l e) [
          | inl o ↦ (longer j l o b, edge j l o b)
          | inr o ↦
              let gk : Begins g k = rw (← o.1) b in
              let h : length g < length t = shorter gk in
              let h2 : length t < length k = d.longer in
              rw o.1 (omega arith, edge_toward keys t k d g edges gk h edge)
        ]

    -- each two keys part at a node, if each two old ones do, and a node has the front t
    pub joined_on : (nodes : ℕ → Option Node) (fronts : ℕ → Bytes) (n : ℕ) → IsSome (nodes n) → fronts n ≡ t → ((a b : ℕ) (x y : Bytes) → keys a ≡ Some x → keys b ≡ Some y → a ≢ b → (m : ℕ) × IsSome (nodes m) × (fronts m ≡ common x y))
        → (a b : ℕ) (x y : Bytes) → keys' a ≡ Some x → keys' b ≡ Some y → a ≢ b → (m : ℕ) × IsSome (nodes m) × (fronts m ≡ common x y)
    joined_on nodes fronts n live front joined_old =
        joined_more keys keys' i k gains nodes fronts joined_old (λ j l is.
        elim (Begins-cases t l) [
          | inl b ↦ (n, live, front ∙ sym (common_at t k l d.front d.longer b (d.alone j l is)))
          | inr b ↦
              let apart : d.nearest ≢ j = λ e. (let f : keys j ≡ Some d.nearest_key = rw (← e) d.nearest_is in let g : d.nearest_key ≡ l = cc in b (subst (λ (l : Bytes). Begins t l) g d.nearest_front)) in
              let r = joined_old d.nearest j d.nearest_key l d.nearest_is is apart in
              (r.0, r.1, r.2 ∙ sym (common_same t k d.nearest_key l d.front d.nearest_front b))
        ])

module _ {P : ℕ} (keys keys' : ℕ → Option Bytes) (nodes nodes' : ℕ → Option Node) (root : Option Child) (n i : ℕ) (k : Bytes) (s : Shape P keys nodes root)
    (gains : Gains keys keys' i k) (d : Departs keys (s.front_of n) k) (adds : AddsEdgeTo nodes nodes' n (next_byte (s.front_of n) k) (Leaf i)) where
  abbrev t : Bytes
  t = s.front_of n

  fits : NodeFits keys nodes s.front_of t adds.was
  fits = s.node n adds.was adds.was_is

  live_kept : (m : ℕ) → IsSome (nodes m) → IsSome (nodes' m)
  live_kept = live_after nodes nodes' n adds.was adds.is adds.was_is adds.is_is adds.others

  live_was : (m : ℕ) → IsSome (nodes' m) → IsSome (nodes m)
  live_was = live_before nodes nodes' n adds.was adds.is adds.was_is adds.is_is adds.others

  leaf_kept : (g : Bytes) (j : ℕ) → CoversLeaf keys g j → CoversLeaf keys' g j
  leaf_kept g j c = record {
    key = c.key;
    is = kept keys keys' i k gains j c.key c.is;
    front = c.front;
    only = λ j' l e b.
        elim (kept_cases keys keys' i k gains j' l e) [
          | inl o ↦ c.only j' l o b
          | inr o ↦
              let gk : Begins g k = rw (← o.1) b in
              let gt : Begins g t = within keys nodes s.front_of t k d g j c.key c.is c.front gk in
              let p = fits.parts in
              absurd (Parts-two keys t p j (c.only p.i p.k p.k_is (Begins-trans g t p.k gt p.k_front)) (c.only p.j p.l p.l_is (Begins-trans g t p.l gt p.l_front)))
        ];
  }

  node_kept : (g : Bytes) (m : ℕ) (x : Node) → nodes m ≡ Some x → CoversNode keys nodes s.front_of g m → CoversNode keys' nodes' s.front_of g m
  node_kept g m x is c = record {
    live = live_kept m c.live;
    front = c.front;
    only = λ j' l e b.
        elim (kept_cases keys keys' i k gains j' l e) [
          | inl o ↦ c.only j' l o b
          | inr o ↦
              let q = (s.node m x is).parts in
              let gk : Begins g k = rw (← o.1) b in
              let gt : Begins g t = within keys nodes s.front_of t k d g q.i q.k q.k_is (Begins-trans g (s.front_of m) q.k c.front q.k_front) gk in
              let p = fits.parts in
              let mt : Begins (s.front_of m) t = Parts-within keys t (s.front_of m) p (c.only p.i p.k p.k_is (Begins-trans g t p.k gt p.k_front)) (c.only p.j p.l p.l_is (Begins-trans g t p.l gt p.l_front)) in
              rw o.1 (Begins-trans (s.front_of m) t k mt d.front)
        ];
  }

  node_found : (g : Bytes) (m : ℕ) (o : Option Node) → nodes m ≡ o → CoversNode keys nodes s.front_of g m → CoversNode keys' nodes' s.front_of g m
  node_found g m None e c = let P : Option Node → Type 0 = λ o. IsSome o in let f : IsSome {T = Node} None = subst P e c.live in absurd (let g2 : false ≡ true = f in cc)
  node_found g m (Some x) e c = node_kept g m x e c

  covers_kept : (g : Bytes) (c : Child) → Covers keys nodes s.front_of g c → Covers keys' nodes' s.front_of g c
  covers_kept g (Leaf j) c = leaf_kept g j c
  covers_kept g (Inner m) c = node_found g m (nodes m) refl c

  shorter_front : (m : ℕ) (x : Node) → nodes m ≡ Some x → m ≢ n → Begins (s.front_of m) k → length (s.front_of m) < length t
  shorter_front m x is other b =
      let q = (s.node m x is).parts in
      let mt : Begins (s.front_of m) t = within keys nodes s.front_of t k d (s.front_of m) q.i q.k q.k_is q.k_front b in
      let P : Option Node → Type 0 = λ o. IsSome o in
      elim (cases_lt (length (s.front_of m)) (length t)) [
        | inl h ↦ h
        | inr h ↦ absurd (other (s.apart m n (subst P (sym is) refl) (subst P (sym adds.was_is) refl) (Begins-equal (s.front_of m) t mt h)))
      ]

  fits_other : (m : ℕ) (x : Node) → nodes m ≡ Some x → m ≢ n → NodeFits keys' nodes' s.front_of (s.front_of m) x
  fits_other m x is other =
      let f : NodeFits keys nodes s.front_of (s.front_of m) x = s.node m x is in
      let g : Bytes = s.front_of m in
      record {
        depth = f.depth;
        below = λ b c e. covers_kept (g ++ b ∷ []) c (f.below b c e);
        longer = λ j l e b. (key_on keys keys' i k gains t d g x.edges (shorter_front m x is other) f.longer f.edge j l e b).0;
        edge = λ j l e b. (key_on keys keys' i k gains t d g x.edges (shorter_front m x is other) f.longer f.edge j l e b).1;
        parts = Parts-kept keys keys' i k gains g f.parts;
        ascends = f.ascends;
      }

  at_other : (b : ℕ) (c : Child) → b ≢ next_byte t k → child_at adds.is.edges b ≡ Some c → Covers keys' nodes' s.front_of (t ++ b ∷ []) c
  at_other b c other e = covers_kept (t ++ b ∷ []) c (fits.below b c (sym (adds.edges.rest b other) ∙ e))

  at_new : (c : Child) → child_at adds.is.edges (next_byte t k) ≡ Some c → Covers keys' nodes' s.front_of (t ++ next_byte t k ∷ []) c
  at_new c e =
      let f : child_at adds.is.edges (next_byte t k) ≡ Some (Leaf i) = adds.edges.added in
      let h : Leaf i ≡ c = cc in
      subst (λ (c : Child). Covers keys' nodes' s.front_of (t ++ next_byte t k ∷ []) c) h (new_leaf keys keys' i k gains t d)

  fits_grown : NodeFits keys' nodes' s.front_of t adds.is
  fits_grown = record {
    depth = adds.depth ∙ fits.depth;
    below = λ b c e.
        elim (eqb_tells b (next_byte t k)) [
          | inl q ↦ subst (λ (b : ℕ). Covers keys' nodes' s.front_of (t ++ b ∷ []) c) (sym q.1) (at_new c (rw (← q.1) e))
          | inr q ↦ at_other b c q.1 e
        ];
    longer = λ j l e b.
        elim (kept_cases keys keys' i k gains j l e) [
          | inl o ↦ fits.longer j l o b
          | inr o ↦ rw o.1 d.longer
        ];
    edge = λ j l e b.
        elim (eqb_tells (next_byte t l) (next_byte t k)) [
          | inl q ↦ let P : Option Child → Type 0 = λ o. IsSome o in subst P (sym (ap (child_at adds.is.edges) q.1 ∙ adds.edges.added)) refl
          | inr q ↦
              elim (kept_cases keys keys' i k gains j l e) [
                | inl o ↦ let P : Option Child → Type 0 = λ o. IsSome o in subst P (sym (adds.edges.rest (next_byte t l) q.1)) (fits.edge j l o b)
                | inr o ↦ absurd (q.1 (ap (next_byte t) o.1))
              ]
        ];
    parts = Parts-kept keys keys' i k gains t fits.parts;
    ascends = adds.edges.ascends;
  }

  node_fits : (m : ℕ) (x : Node) → nodes' m ≡ Some x → NodeFits keys' nodes' s.front_of (s.front_of m) x
  node_fits m x is =
      elim (eqb_tells m n) [
        | inl e ↦
            let f : nodes' n ≡ Some adds.is = adds.is_is in
            let g : nodes' n ≡ Some x = rw (← e.1) is in
            let h : adds.is ≡ x = cc in
            subst (λ (m : ℕ). NodeFits keys' nodes' s.front_of (s.front_of m) x) (sym e.1) (subst (λ (x : Node). NodeFits keys' nodes' s.front_of t x) h fits_grown)
        | inr e ↦ fits_other m x (sym (adds.others m e.1) ∙ is) e.1
      ]

  -- an edge to a node was there before
  old_edge : (b j : ℕ) → child_at adds.is.edges b ≡ Some (Inner j) → child_at adds.was.edges b ≡ Some (Inner j)
  old_edge b j e =
      elim (eqb_tells b (next_byte t k)) [
        | inl q ↦ (let f : child_at adds.is.edges (next_byte t k) ≡ Some (Leaf i) = adds.edges.added in let g : child_at adds.is.edges (next_byte t k) ≡ Some (Inner j) = ap (child_at adds.is.edges) (sym q.1) ∙ e in absurd cc)
        | inr q ↦ sym (adds.edges.rest b q.1) ∙ e
      ]

  -- the tree with one more edge
  pub shape_added : Shape P keys' nodes' root
  shape_added = record {
    front_of = s.front_of;
    top = top_from keys keys' nodes nodes' root s s.front_of d.nearest d.nearest_key d.nearest_is (λ c e h. covers_kept [] c h);
    node = node_fits;
    joined = joined_on keys keys' i k gains t d nodes' s.front_of n (is_some (nodes' n) adds.is adds.is_is) refl (λ a b x y ax by apart. let r = s.joined a b x y ax by apart in (r.0, live_kept r.0 r.1, r.2));
    apart = λ a b la lb e. s.apart a b (live_was a la) (live_was b lb) e;
    keeps = keeps_changed nodes nodes' root n adds.was adds.is adds.was_is adds.is_is adds.others adds.prefix old_edge P s.front_of s.keeps;
  }

-- each child covers some key, if the nodes fit
pub key_below : (keys : ℕ → Option Bytes) (nodes : ℕ → Option Node) (front_of : ℕ → Bytes) → ((n : ℕ) (x : Node) → nodes n ≡ Some x → NodeFits keys nodes front_of (front_of n) x) → (g : Bytes) (c : Child) → Covers keys nodes front_of g c → (j : ℕ) × (l : Bytes) × (keys j ≡ Some l) × Begins g l
key_below keys nodes front_of fit g (Leaf j) c = (j, c.key, c.is, c.front)
key_below keys nodes front_of fit g (Inner m) c =
    let x = some_of (nodes m) c.live in
    let r = (fit m x.0 x.1).parts in
    (r.i, r.k, r.k_is, Begins-trans g (front_of m) r.k c.front r.k_front)

module _ {P : ℕ} (keys : ℕ → Option Bytes) (nodes : ℕ → Option Node) (root : Option Child) (s : Shape P keys nodes root) where
  -- the child of an edge covers the edge's front
  pub covers_above : (above : Option (ℕ × ℕ)) (c : Child) → LeadsTo nodes root above c → Covers keys nodes s.front_of (edge_front s.front_of above) c
  covers_above None c l = subst (λ (r : Option Child). RootFits keys nodes s.front_of r) l s.top
  covers_above (Some e) c l = (s.node e.0 l.0 l.1).below e.1 c l.2

  -- the same for an equal child
  pub covers_led : (above : Option (ℕ × ℕ)) {a c : Child} → a ≡ c → LeadsTo nodes root above a → Covers keys nodes s.front_of (edge_front s.front_of above) c
  covers_led above {a} e l = subst (λ (z : Child). Covers keys nodes s.front_of (edge_front s.front_of above) z) e (covers_above above a l)

  -- each child covers some key
  pub some_key : (g : Bytes) (c : Child) → Covers keys nodes s.front_of g c → (j : ℕ) × (l : Bytes) × (keys j ≡ Some l) × Begins g l
  some_key g c covers = key_below keys nodes s.front_of s.node g c covers

  empty_edge : (n : ℕ) (x : Node) (k : Bytes) → nodes n ≡ Some x → Departs keys (s.front_of n) k → (o : Option Child) → child_at x.edges (next_byte (s.front_of n) k) ≡ o → o ≡ None
  empty_edge n x k is d None e = refl
  empty_edge n x k is d (Some c) e =
      let r = some_key (s.front_of n ++ next_byte (s.front_of n) k ∷ []) c ((s.node n x is).below (next_byte (s.front_of n) k) c e) in
      absurd (d.alone r.0 r.1 r.2 r.3)

  -- if a key departs at a node, the node has no edge at the key's next byte
  pub no_edge : (n b : ℕ) (x : Node) (k : Bytes) → nodes n ≡ Some x → Departs keys (s.front_of n) k → b ≡ next_byte (s.front_of n) k → child_at x.edges b ≡ None
  no_edge n b x k is d e = ap (child_at x.edges) e ∙ empty_edge n x k is d (child_at x.edges (next_byte (s.front_of n) k)) refl

-- a node at which a key departs gets an edge to its leaf
pub leaf_added : {P : ℕ} → (keys keys' : ℕ → Option Bytes) (nodes nodes' : ℕ → Option Node) (root : Option Child) (n b i : ℕ) (k : Bytes) (s : Shape P keys nodes root)
    → Gains keys keys' i k → Departs keys (s.front_of n) k → b ≡ next_byte (s.front_of n) k → AddsEdgeTo nodes nodes' n b (Leaf i) → Shape P keys' nodes' root
leaf_added keys keys' nodes nodes' root n b i k s gains d e adds =
    shape_added keys keys' nodes nodes' root n i k s gains d (subst (λ (b : ℕ). AddsEdgeTo nodes nodes' n b (Leaf i)) e adds)
