-- Laws of merges, and of byte order, that a caller cites.
use Rattle.std.proofs.Common.{◌≡◌, ℕ, suc, ◌<◌, ◌+◌, Bool, true, false, not, ◌||◌, inl, inr, List, [], ◌∷◌, length, arith, refl, sym, ap, ◌∙◌, subst, filter, Contains, bytes_eq, Ordering, Less, All, IsTrue, ◌↔◌, ◌==◌, ◌⊎◌}
use Rattle.std.proofs.lemmas.Bool.{false≢true, cases_Bool, eqb-true, not-true, not_from_false, or_right}
use Rattle.std.specs.Cmp.{both_ways}
use Rattle.std.proofs.lemmas.List.Filters.{length-filter_both}
use Rattle.std.proofs.lemmas.List.Elements.{All-nil, All-cons, All-head, All-tail}
use Rattle.blart_keys.specs.Bytes.{less}
use Rattle.blart_keys.specs.Content.{Ascends, stores}
use Rattle.blart_keys.specs.Keys.{OrderedAs}
use Rattle.blart_keys.specs.Merges.{IsUnion, IsSymmetricDifference, intersection, difference}
use Rattle.blart_keys.proofs.ContentLemmas.{stores_member, stores_found}
use Rattle.blart_keys.proofs.MergeLemmas.{same_ascending, filter_ascends, difference_elements}
use Rattle.blart_keys.proofs.RankLemmas.{Contains-from_Member, Member-from_Contains, filter_member, member_filter}
use Rattle.blart_set.specs.Clones.{AreElementClones}
use Rattle.blart_set.proofs.Orders.{less_cmp}
-- which elements a union has, and that merges are unique
pub use Rattle.blart_keys.proofs.MergeLemmas.{union_parts, union_unique, symmetric_unique}

-- a filter of a list is not longer than the list
pub filter_fits : {X : Type 0} (p : X → Bool) (S T : List X) → S ≡ T → (n : ℕ) → length T < n → length (filter p S) < n
filter_fits p S T e n h = let same = ap (λ l. length l) e in let parts = length-filter_both p (λ x. not (p x)) (λ x. refl) S in omega (arith, same, parts, h)

-- no item fails a test if and only if each item passes it
each_passes : {X : Type 0} (p : X → Bool) (S : List X) → (length (filter (λ x. not (p x)) S) == 0) ≡ true → All (λ x. p x ≡ true) S
each_passes p [] h = All-nil (λ x. p x ≡ true)
each_passes p (x ∷ S) h = elim (cases_Bool (p x)) [
  | inl t ↦ All-cons (λ x. p x ≡ true) x S t (each_passes p S (rw t at h))
  | inr f ↦ let e : suc (length (filter (λ x. not (p x)) S)) ≡ 0 = eqb-true (suc (length (filter (λ x. not (p x)) S))) 0 (rw f at h) in let none : ⊥ = omega (arith, e) in absurd none
]

none_fails : {X : Type 0} (p : X → Bool) (S : List X) → All (λ x. p x ≡ true) S → (length (filter (λ x. not (p x)) S) == 0) ≡ true
none_fails p [] h = refl
none_fails p (x ∷ S) h = rw (All-head (λ x. p x ≡ true) x S h) (none_fails p S (All-tail (λ x. p x ≡ true) x S h))

module _ {X : Type 0} (bytes : X → List ℕ) where
  stored : (S : List X) (x : X) → Contains S x → stores bytes S (bytes x) ≡ true
  stored S x c = stores_member bytes S (bytes x) x (Member-from_Contains x S c) refl

  -- ---- a merge has what is kept from one set, and the other's difference from it

  module _ (A B U : List X) (Kept : X → Type 0) (in_left : (x : X) → Kept x → Contains A x) (ascends : Ascends bytes U) (elements : (x : X) → Contains U x ↔ (Kept x ⊎ (Contains B x × (stores bytes A (bytes x) ≡ false)))) where
    -- the elements of the merge whose bytes A has were kept
    from_left : (L : List X) → Ascends bytes L → ((x : X) → Contains L x ↔ Kept x) → filter (λ x. stores bytes A (bytes x)) U ≡ L
    from_left L l is = same_ascending bytes (filter (λ x. stores bytes A (bytes x)) U) L (filter_ascends bytes (λ x. stores bytes A (bytes x)) U ascends) l (λ x. (
      λ m.
          let r = filter_member (λ x. stores bytes A (bytes x)) U x (Member-from_Contains x (filter (λ x. stores bytes A (bytes x)) U) m) in
          elim ((elements x).0 (Contains-from_Member x U r.0)) [ inl c ↦ (is x).1 c | inr c ↦ absurd (false≢true (sym c.1 ∙ r.1)) ],
      λ m. let c = (is x).0 m in Contains-from_Member x (filter (λ x. stores bytes A (bytes x)) U) (member_filter (λ x. stores bytes A (bytes x)) U x (Member-from_Contains x U ((elements x).1 (inl c))) (stored A x (in_left x c))),
    ))

    -- the others are the elements of B with bytes that A lacks
    from_right : Ascends bytes B → filter (λ x. not (stores bytes A (bytes x))) U ≡ difference bytes B A
    from_right b = same_ascending bytes (filter (λ x. not (stores bytes A (bytes x))) U) (difference bytes B A) (filter_ascends bytes (λ x. not (stores bytes A (bytes x))) U ascends) (filter_ascends bytes (λ x. not (stores bytes A (bytes x))) B b) (λ x. (
      λ m.
          let r = filter_member (λ x. not (stores bytes A (bytes x))) U x (Member-from_Contains x (filter (λ x. not (stores bytes A (bytes x))) U) m) in
          (difference_elements bytes B A x).1 (elim ((elements x).0 (Contains-from_Member x U r.0)) [ inl c ↦ absurd (false≢true (sym (not-true _ r.1) ∙ stored A x (in_left x c))) | inr c ↦ c ]),
      λ m.
          let c = (difference_elements bytes B A x).0 m in
          Contains-from_Member x (filter (λ x. not (stores bytes A (bytes x))) U) (member_filter (λ x. not (stores bytes A (bytes x))) U x (Member-from_Contains x U ((elements x).1 (inr c))) (not_from_false _ c.1)),
    ))

  -- ---- a union is one set and the difference of the other, each bytes once

  module _ (A B U : List X) (u : IsUnion bytes A B U) where
    pub union_left : Ascends bytes A → filter (λ x. stores bytes A (bytes x)) U ≡ A
    union_left a = from_left A B U (λ x. Contains A x) (λ x c. c) u.ascends u.elements A a (λ x. (λ c. c, λ c. c))

    pub union_right : Ascends bytes B → filter (λ x. not (stores bytes A (bytes x))) U ≡ difference bytes B A
    union_right b = from_right A B U (λ x. Contains A x) (λ x c. c) u.ascends u.elements b

    -- the union has as many elements as both differences and the intersection
    pub union_count : Ascends bytes A → Ascends bytes B → length U ≡ length (difference bytes A B) + (length (intersection bytes A B) + length (difference bytes B A))
    union_count a b =
        let whole = length-filter_both (λ x. stores bytes A (bytes x)) (λ x. not (stores bytes A (bytes x))) (λ x. refl) U in
        let left = ap (λ (l : List X). length l) (union_left a) in
        let right = ap (λ (l : List X). length l) (union_right b) in
        let parts = length-filter_both (λ x. stores bytes B (bytes x)) (λ x. not (stores bytes B (bytes x))) (λ x. refl) A in
        omega (arith, whole, left, right, parts)

    -- the union has bytes if and only if one of the sets has them
    pub union_stores : (q : List ℕ) → stores bytes U q ≡ (stores bytes A q || stores bytes B q)
    union_stores q = both_ways (stores bytes U q) (stores bytes A q || stores bytes B q) there back
      where
        there : stores bytes U q ≡ true → (stores bytes A q || stores bytes B q) ≡ true
        there h =
            let r = stores_found bytes U q h in
            elim ((u.elements r.0).0 (Contains-from_Member r.0 U r.1)) [
              | inl c ↦ ap (λ a. a || stores bytes B q) (stores_member bytes A q r.0 (Member-from_Contains r.0 A c) r.2)
              | inr c ↦ or_right (stores bytes A q) (stores bytes B q) (stores_member bytes B q r.0 (Member-from_Contains r.0 B c.0) r.2)
            ]

        back : (stores bytes A q || stores bytes B q) ≡ true → stores bytes U q ≡ true
        back h = elim (cases_Bool (stores bytes A q)) [
          | inl t ↦ let r = stores_found bytes A q t in stores_member bytes U q r.0 (Member-from_Contains r.0 U ((u.elements r.0).1 (inl (Contains-from_Member r.0 A r.1)))) r.2
          | inr f ↦
              let r = stores_found bytes B q (sym (ap (λ a. a || stores bytes B q) f) ∙ h) in
              stores_member bytes U q r.0 (Member-from_Contains r.0 U ((u.elements r.0).1 (inr (Contains-from_Member r.0 B r.1, subst (λ p. stores bytes A p ≡ false) (sym r.2) f)))) r.2
        ]

  -- ---- a symmetric difference is both differences, each bytes once

  module _ (A B U : List X) (u : IsSymmetricDifference bytes A B U) where
    pub symmetric_left : Ascends bytes A → filter (λ x. stores bytes A (bytes x)) U ≡ difference bytes A B
    symmetric_left a = from_left A B U (λ x. Contains A x × (stores bytes B (bytes x) ≡ false)) (λ x c. c.0) u.ascends u.elements (difference bytes A B) (filter_ascends bytes (λ x. not (stores bytes B (bytes x))) A a) (difference_elements bytes A B)

    pub symmetric_right : Ascends bytes B → filter (λ x. not (stores bytes A (bytes x))) U ≡ difference bytes B A
    symmetric_right b = from_right A B U (λ x. Contains A x × (stores bytes B (bytes x) ≡ false)) (λ x c. c.0) u.ascends u.elements b

    pub symmetric_count : Ascends bytes A → Ascends bytes B → length U ≡ length (difference bytes A B) + length (difference bytes B A)
    symmetric_count a b =
        let whole = length-filter_both (λ x. stores bytes A (bytes x)) (λ x. not (stores bytes A (bytes x))) (λ x. refl) U in
        let left = ap (λ (l : List X). length l) (symmetric_left a) in
        let right = ap (λ (l : List X). length l) (symmetric_right b) in
        omega (arith, whole, left, right)

  -- ---- a merge that returns nothing

  module _ (A B : List X) where
    -- no element of A has bytes that B lacks if and only if B has the bytes of each
    pub lacks_none : IsTrue (length (difference bytes A B) == 0) ↔ All (λ x. stores bytes B (bytes x) ≡ true) A
    lacks_none = (each_passes (λ x. stores bytes B (bytes x)) A, none_fails (λ x. stores bytes B (bytes x)) A)

  -- clones have the bytes of their elements
  pub clones_store : (is_clone : X → X → Type 0) (S T : List X) → AreElementClones bytes is_clone S T → (q : List ℕ) → stores bytes T q ≡ stores bytes S q
  clones_store is_clone [] [] h q = refl
  clones_store is_clone [] (y ∷ T) h q = absurd h
  clones_store is_clone (x ∷ S) [] h q = absurd h
  clones_store is_clone (x ∷ S) (y ∷ T) h q = ap (λ p. bytes_eq p q || stores bytes T q) h.0.bytes ∙ ap (λ b. bytes_eq (bytes x) q || b) (clones_store is_clone S T h.1 q)

  -- ---- if keys compare like their bytes, byte order is their own order

  module _ (IsValue : X → Type 0) (cmp : X → X → Ordering) (ordered : OrderedAs bytes IsValue cmp) where
    pub ordered_less : (x y : X) → IsValue x → IsValue y → less (bytes x) (bytes y) ≡ true → cmp x y ≡ Less
    ordered_less x y v w h = ordered x y v w ∙ less_cmp (bytes x) (bytes y) h
