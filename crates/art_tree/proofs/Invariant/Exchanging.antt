-- Another key under a leaf's number, related to its old key and to no other.
use Rattle.std.proofs.Common.{◌≡◌, ◌≢◌, ℕ, ◌<◌, [], ◌∷◌, ◌++◌, length, refl, ap, arith, sym, subst, Option, Some, ◌∙◌, ◌⊎◌, inl, inr}
use Rattle.std.proofs.lemmas.Bool.{cases_lt}
use Rattle.std.proofs.lemmas.Bool.Decides.{eqb_tells}
use Rattle.blart_keys.specs.Bytes.{common}
use Rattle.art_tree.specs.Begins.{Bytes, Begins, next_byte}
use Rattle.art_kinds.specs.Nodes.{Node}
use Rattle.art_kinds.specs.Edges.{child_at}
use Rattle.art_tree.specs.Invariant.Shape.{Shape, Covers, CoversLeaf, CoversNode, NodeFits, Parts}
use Rattle.art_kinds.specs.declared.records.ids.Child.{Child}
use Rattle.art_kinds.specs.declared.records.ids.Child.TheVariants.{Leaf, Inner}
use Rattle.blart_keys.proofs.Options.{some_of, same_some}
use Rattle.art_tree.proofs.BeginsLemmas.{Begins-length, Begins-more, Begins-trans, Begins-linear, Begins-equal, Begins-next, Begins-edge_front, common-left, common-right, common-greatest, common_comm}
use Rattle.art_tree.proofs.Invariant.Growing.{Parts-two, Parts-instead, top_from}
use Rattle.art_tree.proofs.Invariant.SmallShapes.{unrelated}
use Rattle.art_tree.proofs.NumberedPairs.KeyChanges.{Exchanges}

module _ {P : ℕ} (keys keys' : ℕ → Option Bytes) (nodes : ℕ → Option Node) (root : Option Child) (i : ℕ) (k k' : Bytes) (s : Shape P keys nodes root) (ex : Exchanges keys keys' i k k')
    (related : Begins k k' ⊎ Begins k' k) (apart : (j : ℕ) (l : Bytes) → keys j ≡ Some l → j ≢ i → (Begins k' l → ⊥) × (Begins l k' → ⊥)) where
  -- a prefix of another key is a prefix of both keys or of neither
  to_new : (f : Bytes) (j : ℕ) (l : Bytes) → keys j ≡ Some l → j ≢ i → Begins f l → Begins f k → Begins f k'
  to_new f j l is off fl fk =
      elim related [
        | inl r ↦ Begins-trans f k k' fk r
        | inr r ↦
            elim (cases_lt (length k') (length f)) [
              | inl lt ↦ absurd ((apart j l is off).0 (Begins-trans k' f l (Begins-linear k' f k r fk (omega arith)) fl))
              | inr le ↦ Begins-linear f k' k fk r le
            ]
      ]

  to_old : (f : Bytes) (j : ℕ) (l : Bytes) → keys j ≡ Some l → j ≢ i → Begins f l → Begins f k' → Begins f k
  to_old f j l is off fl fk =
      elim related [
        | inr r ↦ Begins-trans f k' k fk r
        | inl r ↦
            elim (cases_lt (length k) (length f)) [
              | inl lt ↦ absurd (unrelated keys nodes root s i j k l ex.was is (λ e. off (sym e)) (Begins-trans k f l (Begins-linear k f k' r fk (omega arith)) fl))
              | inr le ↦ Begins-linear f k k' fk r le
            ]
      ]

  longer_new : (f : Bytes) (j : ℕ) (l : Bytes) → keys j ≡ Some l → j ≢ i → Begins f l → Begins f k' → length f < length k'
  longer_new f j l is off fl fk =
      elim (cases_lt (length f) (length k')) [
        | inl lt ↦ lt
        | inr le ↦ absurd ((apart j l is off).0 (subst (λ (f : Bytes). Begins f l) (Begins-equal f k' fk le) fl))
      ]

  same_next : (f : Bytes) → length f < length k → length f < length k' → Begins f k → Begins f k' → next_byte f k' ≡ next_byte f k
  same_next f l l' fk fk' =
      elim related [
        | inl r ↦ Begins-next f k' (next_byte f k) (Begins-trans _ k k' (Begins-more f k fk l) r)
        | inr r ↦ sym (Begins-next f k (next_byte f k') (Begins-trans _ k' k (Begins-more f k' fk' l') r))
      ]

  kept : (j : ℕ) (l : Bytes) → keys j ≡ Some l → j ≢ i → keys' j ≡ Some l
  kept j l e off = ex.others j off ∙ e

  was_cases : (j : ℕ) (l : Bytes) → keys' j ≡ Some l → ((j ≢ i) × (keys j ≡ Some l)) ⊎ ((j ≡ i) × (l ≡ k'))
  was_cases j l e =
      elim (eqb_tells j i) [
        | inl z ↦ (let f : keys' i ≡ Some l = rw (← z.1) e in let g : keys' i ≡ Some k' = ex.now in let h : l ≡ k' = cc in inr (z.1, h))
        | inr z ↦ inl (z.1, sym (ex.others j z.1) ∙ e)
      ]

  -- if two keys part at f, a key other than that of i begins with f
  other_at : (f : Bytes) → Parts keys f → (j : ℕ) × (l : Bytes) × (keys j ≡ Some l) × (j ≢ i) × Begins f l
  other_at f p =
      elim (eqb_tells p.i i) [
        | inl e ↦ (p.j, p.l, p.l_is, (λ z. Parts-two keys f p i e.1 z), p.l_front)
        | inr e ↦ (p.i, p.k, p.k_is, e.1, p.k_front)
      ]

  module _ (n : ℕ) (x : Node) (x_is : nodes n ≡ Some x) where
    abbrev f : Bytes
    f = s.front_of n

    fits : NodeFits keys nodes s.front_of f x
    fits = s.node n x x_is

    -- if the old key begins with the front of a node, the new one does, and conversely
    new_here : Begins f k → Begins f k'
    new_here b = let o = other_at f fits.parts in to_new f o.0 o.1 o.2 o.3 o.4 b

    old_here : Begins f k' → Begins f k
    old_here b = let o = other_at f fits.parts in to_old f o.0 o.1 o.2 o.3 o.4 b

    new_longer : Begins f k' → length f < length k'
    new_longer b = let o = other_at f fits.parts in longer_new f o.0 o.1 o.2 o.3 o.4 b

    new_next : Begins f k' → next_byte f k' ≡ next_byte f k
    new_next b = same_next f (fits.longer i k ex.was (old_here b)) (new_longer b) (old_here b) b

    below_new : (b : ℕ) → Begins (f ++ b ∷ []) k → Begins (f ++ b ∷ []) k'
    below_new b h =
        let fk : Begins f k = Begins-edge_front f k b h in
        let fk' : Begins f k' = new_here fk in
        let e : next_byte f k' ≡ b = new_next fk' ∙ Begins-next f k b h in
        subst (λ (b : ℕ). Begins (f ++ b ∷ []) k') e (Begins-more f k' fk' (new_longer fk'))

    below_old : (b : ℕ) → Begins (f ++ b ∷ []) k' → Begins (f ++ b ∷ []) k
    below_old b h =
        let fk' : Begins f k' = Begins-edge_front f k' b h in
        let fk : Begins f k = old_here fk' in
        let e : next_byte f k ≡ b = sym (new_next fk') ∙ Begins-next f k' b h in
        subst (λ (b : ℕ). Begins (f ++ b ∷ []) k) e (Begins-more f k fk (fits.longer i k ex.was fk))

  -- a front that both keys have, or neither
  abbrev Alike : Bytes → Type 0
  Alike g = (Begins g k → Begins g k') × (Begins g k' → Begins g k)

  leaf_kept : (g : Bytes) (j : ℕ) → Alike g → CoversLeaf keys g j → CoversLeaf keys' g j
  leaf_kept g j alike c =
      elim (eqb_tells j i) [
        | inl e ↦
            let a : keys i ≡ Some c.key = rw (← e.1) c.is in
            let b : keys i ≡ Some k = ex.was in
            let h : c.key ≡ k = cc in
            record { key = k'; is = ap keys' e.1 ∙ ex.now; front = alike.0 (rw (← h) c.front); only = λ j' l is b. only j' l is b }
        | inr e ↦ record { key = c.key; is = kept j c.key c.is e.1; front = c.front; only = λ j' l is b. only j' l is b }
      ]
    where
      only : (j' : ℕ) (l : Bytes) → keys' j' ≡ Some l → Begins g l → j' ≡ j
      only j' l is b =
          elim (was_cases j' l is) [
            | inl o ↦ c.only j' l o.1 b
            | inr o ↦ o.0 ∙ c.only i k ex.was (alike.1 (rw (← o.1) b))
          ]

  node_kept : (g : Bytes) (m : ℕ) → Alike g → CoversNode keys nodes s.front_of g m → CoversNode keys' nodes s.front_of g m
  node_kept g m alike c =
      let x = some_of (nodes m) c.live in
      record {
        live = c.live;
        front = c.front;
        only = λ j l is b.
            elim (was_cases j l is) [
              | inl o ↦ c.only j l o.1 b
              | inr o ↦ rw o.1 (new_here m x.0 x.1 (c.only i k ex.was (alike.1 (rw (← o.1) b))))
            ];
      }

  covers_kept : (g : Bytes) (c : Child) → Alike g → Covers keys nodes s.front_of g c → Covers keys' nodes s.front_of g c
  covers_kept g (Leaf j) alike c = leaf_kept g j alike c
  covers_kept g (Inner m) alike c = node_kept g m alike c

  -- a key with the same next byte
  instead : (n : ℕ) (x : Node) → nodes n ≡ Some x → (j : ℕ) (l : Bytes) → keys j ≡ Some l → Begins (s.front_of n) l
      → (j' : ℕ) × (l' : Bytes) × (keys' j' ≡ Some l') × Begins (s.front_of n) l' × (next_byte (s.front_of n) l' ≡ next_byte (s.front_of n) l)
  instead n x x_is j l is b =
      elim (eqb_tells j i) [
        | inl e ↦
            let a : keys i ≡ Some l = rw (← e.1) is in
            let c : keys i ≡ Some k = ex.was in
            let h : l ≡ k = cc in
            let fk' : Begins (s.front_of n) k' = new_here n x x_is (rw (← h) b) in
            (j, k', ap keys' e.1 ∙ ex.now, fk', new_next n x x_is fk' ∙ ap (next_byte (s.front_of n)) (sym h))
        | inr e ↦ (j, l, kept j l is e.1, b, refl)
      ]

  fits_kept : (n : ℕ) (x : Node) → nodes n ≡ Some x → NodeFits keys' nodes s.front_of (s.front_of n) x
  fits_kept n x x_is =
      let f : NodeFits keys nodes s.front_of (s.front_of n) x = s.node n x x_is in
      record {
        depth = f.depth;
        below = λ b c e. covers_kept (s.front_of n ++ b ∷ []) c (below_new n x x_is b, below_old n x x_is b) (f.below b c e);
        longer = λ j l is b.
            elim (was_cases j l is) [
              | inl o ↦ f.longer j l o.1 b
              | inr o ↦ rw o.1 (new_longer n x x_is (rw (← o.1) b))
            ];
        edge = λ j l is b.
            elim (was_cases j l is) [
              | inl o ↦ f.edge j l o.1 b
              | inr o ↦
                  let fk' : Begins (s.front_of n) k' = rw (← o.1) b in
                  let e : next_byte (s.front_of n) l ≡ next_byte (s.front_of n) k = ap (next_byte (s.front_of n)) o.1 ∙ new_next n x x_is fk' in
                  same_some (child_at x.edges (next_byte (s.front_of n) k)) (child_at x.edges (next_byte (s.front_of n) l)) (ap (child_at x.edges) (sym e)) (f.edge i k ex.was (old_here n x x_is fk'))
            ];
        parts = Parts-instead keys keys' (s.front_of n) (instead n x x_is) f.parts;
        ascends = f.ascends;
      }

  -- both keys have the same common prefix with another key
  same_common : (j : ℕ) (l : Bytes) → keys j ≡ Some l → j ≢ i → common k l ≡ common k' l
  same_common j l is off =
      let a : Begins (common k l) (common k' l) = common-greatest (common k l) k' l (to_new (common k l) j l is off (common-right k l) (common-left k l)) (common-right k l) in
      let b : Begins (common k' l) (common k l) = common-greatest (common k' l) k l (to_old (common k' l) j l is off (common-right k' l) (common-left k' l)) (common-right k' l) in
      Begins-equal (common k l) (common k' l) a (Begins-length (common k' l) (common k l) b)

  -- the tree with the key exchanged
  pub shape_exchanged : Shape P keys' nodes root
  shape_exchanged = record {
    front_of = s.front_of;
    top = top_from keys keys' nodes nodes root s s.front_of i k ex.was (λ c e h. covers_kept [] c ((λ b. tt), (λ b. tt)) h);
    node = fits_kept;
    joined = λ a b x y ax by off.
        elim (was_cases a x ax) [
          | inl o ↦
              elim (was_cases b y by) [
                | inl p ↦ s.joined a b x y o.1 p.1 off
                | inr p ↦
                    let r = s.joined a i x k o.1 ex.was o.0 in
                    (r.0, r.1, r.2 ∙ common_comm x k ∙ same_common a x o.1 o.0 ∙ common_comm k' x ∙ ap (common x) (sym p.1))
              ]
          | inr o ↦
              elim (was_cases b y by) [
                | inl p ↦
                    let r = s.joined i b k y ex.was p.1 (λ z. p.0 (sym z)) in
                    (r.0, r.1, r.2 ∙ same_common b y p.1 p.0 ∙ ap (λ (z : Bytes). common z y) (sym o.1))
                | inr p ↦ absurd (off (o.0 ∙ sym p.0))
              ]
        ];
    apart = s.apart;
    keeps = s.keeps;
  }
