-- The merge of two lists that ascend is their union, or their symmetric difference.
use Rattle.std.proofs.Common.{◌≡◌, ℕ, Bool, true, false, ◌⊎◌, ◌↔◌, ◌||◌, inl, inr, List, [], ◌∷◌, refl, sym, ap, ◌∙◌, subst, bytes_eq, Ordering, Less, Equal, Greater}
use Rattle.std.specs.Prelude.{⊤}
use Rattle.std.specs.Ordering.{is_lt}
use Rattle.std.specs.Cmp.Lexicographic.{bytes_decides}
use Rattle.std.proofs.lemmas.Bool.{false≢true, or_left, or_parts}
use Rattle.blart_keys.specs.Bytes.{bytes_cmp}
use Rattle.blart_keys.specs.Content.{Ascends, stores}
use Rattle.blart_keys.specs.KeyLaws.{bytes_cmp-Equal}
use Rattle.blart_keys.specs.Merges.{IsUnion, IsSymmetricDifference}
use Rattle.blart_keys.proofs.MergeLemmas.{Lower}
use Rattle.blart_keys.proofs.RankLemmas.{Member, each_member, from_each_member, Contains-from_Member, Member-from_Contains, Ranked, Ranked-from_AllPairs, AllPairs-from_Ranked}
use Rattle.blart_set.specs.Merging.{Precedes}
use Rattle.blart_set.proofs.Orders.{from_greater, less_apart, precedes_on, precedes_same, apart}
use Rattle.blart_set.proofs.Stepping.{merged, left_first, right_first, both_first}

module _ {K : Type 0} (kb : K → List ℕ) (both : Bool) where
  -- whether an element of the left side is kept: always, or if the right side lacks its bytes
  abbrev pub Stays : Bool → Bool → Type 0
  Stays true b = ⊤
  Stays false b = b ≡ false

  -- the merge has z if and only if z is kept from A, or is in B with bytes that A lacks
  abbrev pub Has : List K → List K → List K → K → Type 0
  Has A B U z = Member z U ↔ ((Member z A × Stays both (stores kb B (kb z))) ⊎ (Member z B × (stores kb A (kb z) ≡ false)))

  pub record IsMerged (A B U : List K) : Type 0 where
    pub ranked : Ranked (Lower kb) U
    pub has : (z : K) → Has A B U z

  stays_missing : (b : Bool) → b ≡ false → Stays both b
  stays_missing b e = of both
    where
      of : (c : Bool) → Stays c b
      of true = tt
      of false = e

  -- one more element with other bytes changes nothing
  more : (x : K) (S : List K) (q : List ℕ) → bytes_eq (kb x) q ≡ false → stores kb (x ∷ S) q ≡ stores kb S q
  more x S q e = ap (λ b. b || stores kb S q) e

  -- what holds of the elements of both sides holds of those of the merge
  all_merged : (A B U : List K) (P : K → Type 0) → ((z : K) → Has A B U z) → ((z : K) → Member z A → P z) → ((z : K) → Member z B → P z) → (z : K) → Member z U → P z
  all_merged A B U P h a b z m = elim ((h z).0 m) [ inl l ↦ a z l.0 | inr r ↦ b z r.0 ]

  -- the first element of the left side is the least
  left_merged : (x : K) (A B U : List K) → Precedes kb x A → Precedes kb x B → IsMerged A B U → IsMerged (x ∷ A) B (x ∷ U)
  left_merged x A B U p q i = record {
    ranked = (from_each_member (Lower kb x) U (all_merged A B U (Lower kb x) i.has (λ z m. each_member (Lower kb x) A z p m) (λ z m. each_member (Lower kb x) B z q m)), i.ranked);
    has = λ z. (
      λ m. elim m [
        | inl e ↦ inl (inl e, subst (λ w. Stays both (stores kb B (kb w))) e (stays_missing _ (apart kb x B q)))
        | inr n ↦ elim ((i.has z).0 n) [
          | inl l ↦ inl (inr l.0, l.1)
          | inr r ↦ inr (r.0, more x A (kb z) (less_apart (kb x) (kb z) (each_member (Lower kb x) B z q r.0)) ∙ r.1)
        ]
      ],
      λ m. elim m [
        | inl (inl e, k) ↦ inl e
        | inl (inr a, k) ↦ inr ((i.has z).1 (inl (a, k)))
        | inr r ↦ inr ((i.has z).1 (inr (r.0, (or_parts _ _ r.1).1)))
      ],
    );
  }

  -- the first element of the right side is the least
  right_merged : (A : List K) (y : K) (B U : List K) → Precedes kb y A → Precedes kb y B → IsMerged A B U → IsMerged A (y ∷ B) (y ∷ U)
  right_merged A y B U p q i = record {
    ranked = (from_each_member (Lower kb y) U (all_merged A B U (Lower kb y) i.has (λ z m. each_member (Lower kb y) A z p m) (λ z m. each_member (Lower kb y) B z q m)), i.ranked);
    has = λ z. (
      λ m. elim m [
        | inl e ↦ inr (inl e, subst (λ w. stores kb A (kb w) ≡ false) e (apart kb y A p))
        | inr n ↦ elim ((i.has z).0 n) [
          | inl l ↦ inl (l.0, subst (Stays both) (sym (more y B (kb z) (less_apart (kb y) (kb z) (each_member (Lower kb y) A z p l.0)))) l.1)
          | inr r ↦ inr (inr r.0, r.1)
        ]
      ],
      λ m. elim m [
        | inl l ↦ inr ((i.has z).1 (inl (l.0, subst (Stays both) (more y B (kb z) (less_apart (kb y) (kb z) (each_member (Lower kb y) A z p l.0))) l.1)))
        | inr (inl e, f) ↦ inl e
        | inr (inr b, f) ↦ inr ((i.has z).1 (inr (b, f)))
      ],
    );
  }

module _ {K : Type 0} (kb : K → List ℕ) (x : K) (A : List K) (y : K) (B U : List K) (same : kb y ≡ kb x) (p : Precedes kb x A) (q : Precedes kb x B) where
  -- the first elements have the same bytes, which both sides have, and no later element
  here : stores kb (y ∷ B) (kb x) ≡ true
  here = or_left (bytes_eq (kb y) (kb x)) (stores kb B (kb x)) ((bytes_decides (kb y) (kb x)).1 same)

  there : (z : K) → y ≡ z → stores kb (x ∷ A) (kb z) ≡ true
  there z e = or_left (bytes_eq (kb x) (kb z)) (stores kb A (kb z)) ((bytes_decides (kb x) (kb z)).1 (sym same ∙ ap kb e))

  right_more : (z : K) → Member z A → stores kb (y ∷ B) (kb z) ≡ stores kb B (kb z)
  right_more z m = ap (λ b. b || stores kb B (kb z)) (less_apart (kb y) (kb z) (each_member (Lower kb y) A z (precedes_same kb y x A (sym same) p) m))

  left_more : (z : K) → Member z B → stores kb (x ∷ A) (kb z) ≡ stores kb A (kb z)
  left_more z m = ap (λ b. b || stores kb A (kb z)) (less_apart (kb x) (kb z) (each_member (Lower kb x) B z q m))

  -- a union has the left element
  both_united : IsMerged kb true A B U → IsMerged kb true (x ∷ A) (y ∷ B) (x ∷ U)
  both_united i = record {
    ranked = (from_each_member (Lower kb x) U (λ z m. elim ((i.has z).0 m) [ inl l ↦ each_member (Lower kb x) A z p l.0 | inr r ↦ each_member (Lower kb x) B z q r.0 ]), i.ranked);
    has = λ z. (
      λ m. elim m [
        | inl e ↦ inl (inl e, tt)
        | inr n ↦ elim ((i.has z).0 n) [ inl l ↦ inl (inr l.0, tt) | inr r ↦ inr (inr r.0, left_more z r.0 ∙ r.1) ]
      ],
      λ m. elim m [
        | inl (inl e, k) ↦ inl e
        | inl (inr a, k) ↦ inr ((i.has z).1 (inl (a, tt)))
        | inr (inl e, f) ↦ absurd (false≢true (sym f ∙ there z e))
        | inr (inr b, f) ↦ inr ((i.has z).1 (inr (b, sym (left_more z b) ∙ f)))
      ],
    );
  }

  -- a symmetric difference has neither element
  both_parted : IsMerged kb false A B U → IsMerged kb false (x ∷ A) (y ∷ B) U
  both_parted i = record {
    ranked = i.ranked;
    has = λ z. (
      λ m. elim ((i.has z).0 m) [ inl l ↦ inl (inr l.0, right_more z l.0 ∙ l.1) | inr r ↦ inr (inr r.0, left_more z r.0 ∙ r.1) ],
      λ m. elim m [
        | inl (inl e, k) ↦ absurd (false≢true (sym k ∙ subst (λ w. stores kb (y ∷ B) (kb w) ≡ true) e here))
        | inl (inr a, k) ↦ (i.has z).1 (inl (a, sym (right_more z a) ∙ k))
        | inr (inl e, f) ↦ absurd (false≢true (sym f ∙ there z e))
        | inr (inr b, f) ↦ (i.has z).1 (inr (b, sym (left_more z b) ∙ f))
      ],
    );
  }

module _ {K : Type 0} (kb : K → List ℕ) where
  both_merged : (both : Bool) (x : K) (A : List K) (y : K) (B : List K) → kb y ≡ kb x → Precedes kb x A → Precedes kb x B → IsMerged kb both A B (merged kb both A B) → IsMerged kb both (x ∷ A) (y ∷ B) (merged kb both (x ∷ A) (y ∷ B))
  both_merged true x A y B e p q i = subst (IsMerged kb true (x ∷ A) (y ∷ B)) (sym (both_first kb true x A y B e)) (both_united kb x A y B (merged kb true A B) e p q i)
  both_merged false x A y B e p q i = subst (IsMerged kb false (x ∷ A) (y ∷ B)) (sym (both_first kb false x A y B e)) (both_parted kb x A y B (merged kb false A B) e p q i)

  nothing_left : (both : Bool) (B : List K) → Ranked (Lower kb) B → IsMerged kb both [] B B
  nothing_left both B r = record { ranked = r; has = λ z. (λ m. inr (m, refl), λ m. elim m [ inl l ↦ absurd l.0 | inr r ↦ r.0 ]) }

  nothing_right : (both : Bool) (A : List K) → Ranked (Lower kb) A → IsMerged kb both A [] A
  nothing_right both A r = record { ranked = r; has = λ z. (λ m. inl (m, stays_missing kb both false refl), λ m. elim m [ inl l ↦ l.0 | inr r ↦ absurd r.0 ]) }

  merged_at : (both : Bool) (x : K) (A : List K) → Ranked (Lower kb) (x ∷ A) → ((B : List K) → Ranked (Lower kb) B → IsMerged kb both A B (merged kb both A B)) → (B : List K) → Ranked (Lower kb) B → IsMerged kb both (x ∷ A) B (merged kb both (x ∷ A) B)
  merged_at both x A r on [] s = nothing_right both (x ∷ A) r
  merged_at both x A r on (y ∷ B) s = go (merged_at both x A r on B s.1) (bytes_cmp (kb x) (kb y)) refl
    where
      go : IsMerged kb both (x ∷ A) B (merged kb both (x ∷ A) B) → (o : Ordering) → bytes_cmp (kb x) (kb y) ≡ o → IsMerged kb both (x ∷ A) (y ∷ B) (merged kb both (x ∷ A) (y ∷ B))
      go i Less e =
          let l : Lower kb x y = ap is_lt e in
          let q : Precedes kb x (y ∷ B) = (l, precedes_on kb x y B l s.0) in
          subst (IsMerged kb both (x ∷ A) (y ∷ B)) (sym (left_first kb both x A (y ∷ B) q)) (left_merged kb both x A (y ∷ B) (merged kb both A (y ∷ B)) r.0 q (on (y ∷ B) s))
      go i Equal e =
          let same : kb y ≡ kb x = sym ((bytes_cmp-Equal (kb x) (kb y)).0 e) in
          both_merged both x A y B same r.0 (precedes_same kb x y B same s.0) (on B s.1)
      go i Greater e =
          let l = from_greater (kb x) (kb y) e in
          let p : Precedes kb y (x ∷ A) = (l, precedes_on kb y x A l r.0) in
          subst (IsMerged kb both (x ∷ A) (y ∷ B)) (sym (right_first kb both (x ∷ A) y B p)) (right_merged kb both (x ∷ A) y B (merged kb both (x ∷ A) B) p s.0 i)

  merged_is : (both : Bool) (A : List K) → Ranked (Lower kb) A → (B : List K) → Ranked (Lower kb) B → IsMerged kb both A B (merged kb both A B)
  merged_is both [] r B s = nothing_left both B s
  merged_is both (x ∷ A) r B s = merged_at both x A r (λ C t. merged_is both A r.1 C t) B s

  pub union_is : (A B : List K) → Ascends kb A → Ascends kb B → IsUnion kb A B (merged kb true A B)
  union_is A B a b =
      let i = merged_is true A (Ranked-from_AllPairs (Lower kb) A a) B (Ranked-from_AllPairs (Lower kb) B b) in
      record {
        ascends = AllPairs-from_Ranked (Lower kb) (merged kb true A B) i.ranked;
        elements = λ z. (
          λ c. elim ((i.has z).0 (Member-from_Contains z (merged kb true A B) c)) [ inl l ↦ inl (Contains-from_Member z A l.0) | inr r ↦ inr (Contains-from_Member z B r.0, r.1) ],
          λ c. Contains-from_Member z (merged kb true A B) ((i.has z).1 (elim c [ inl l ↦ inl (Member-from_Contains z A l, tt) | inr r ↦ inr (Member-from_Contains z B r.0, r.1) ])),
        );
      }

  pub symmetric_is : (A B : List K) → Ascends kb A → Ascends kb B → IsSymmetricDifference kb A B (merged kb false A B)
  symmetric_is A B a b =
      let i = merged_is false A (Ranked-from_AllPairs (Lower kb) A a) B (Ranked-from_AllPairs (Lower kb) B b) in
      record {
        ascends = AllPairs-from_Ranked (Lower kb) (merged kb false A B) i.ranked;
        elements = λ z. (
          λ c. elim ((i.has z).0 (Member-from_Contains z (merged kb false A B) c)) [ inl l ↦ inl (Contains-from_Member z A l.0, l.1) | inr r ↦ inr (Contains-from_Member z B r.0, r.1) ],
          λ c. Contains-from_Member z (merged kb false A B) ((i.has z).1 (elim c [ inl l ↦ inl (Member-from_Contains z A l.0, l.1) | inr r ↦ inr (Member-from_Contains z B r.0, r.1) ])),
        );
      }
