-- How many elements `fronts` has, and which bytes `parts` has.
use Rattle.std.proofs.Common.{◌≡◌, ℕ, suc, ◌+◌, ◌-◌, ◌≤◌, Bool, true, false, cond, inl, inr, List, [], ◌∷◌, ◌++◌, length, refl, sym, ap, ◌∙◌, subst, arith, Option, Some, None, filter_map, slice_get, nat_cmp, Ordering, eqb, eqb-true, eq-eqb}
use Rattle.std.proofs.lemmas.Bool.{false≢true, cond-true, cond-false, false_from_ne_true, and_parts, and_from}
use Rattle.std.specs.List.{cons_option}
use Rattle.std.specs.Ordering.{eq_by_cmp, is_eq}
use Rattle.std.specs.Cmp.{IsTotalOrder, Equal-is, tied_itself, nat_cmp_total, both_ways}
use Rattle.std.specs.Cmp.Lexicographic.{nat_list_cmp_total}
use Rattle.std.proofs.lemmas.Map.Lookups.{exact_bytes, exact_unsigned}
use Rattle.std.specs.FinSet as set
use Rattle.std.specs.FinMap.{IsAntisymmetric}
use Rattle.blart_keys.specs.Bytes.{begins}
use Rattle.blart_keys.specs.Content.{under}
use Rattle.blart_keys.specs.Fronts.{commons, fronts, parts}
use Rattle.blart_keys.proofs.ByteLemmas.{begins-trans, begins-append}
use Rattle.blart_keys.proofs.RankLemmas.{Member, any_found, any_member, filter_member, member_filter}

-- ---- sets made of lists

module _ {K : Type 0} {R : K → K → Ordering} (o : IsTotalOrder R) (exact : IsAntisymmetric R) where
  pub member_of_set : (ks : List K) (k : K) → set.contains (set.from_list {R = R} ks) k ≡ true → Member k ks
  member_of_set ks k h =
      let r = any_found (eq_by_cmp R k) ks (sym (set.contains-from_list o ks k) ∙ h) in
      subst (λ x. Member x ks) (sym (exact k r.0 ((Equal-is (R k r.0)).0 r.2))) r.1

  pub set_has_member : (ks : List K) (k : K) → Member k ks → set.contains (set.from_list {R = R} ks) k ≡ true
  set_has_member ks k m = set.contains-from_list o ks k ∙ any_member (eq_by_cmp R k) ks k m (ap is_eq (tied_itself o k))

  -- no element is in the list twice
  abbrev pub Distinct : List K → Type 0
  Distinct [] = Unit {0}
  Distinct (k ∷ ks) = (Member k ks → ⊥) × Distinct ks

  -- lists with the same members make the same set
  pub same_members : (ks js : List K) → ((k : K) → Member k ks → Member k js) → ((k : K) → Member k js → Member k ks) → set.from_list {R = R} ks ≡ set.from_list js
  same_members ks js f g = set.same_set o exact (set.from_list ks) (set.from_list js) (λ k. both_ways (set.contains (set.from_list {R = R} ks) k) (set.contains (set.from_list {R = R} js) k)
      (λ h. set_has_member js k (f k (member_of_set ks k h)))
      (λ h. set_has_member ks k (g k (member_of_set js k h))))

  -- the size of a set is the length of each list that has its members, each once
  pub len_of_distinct : (ks : List K) → Distinct ks → set.len (set.from_list {R = R} ks) ≡ length ks
  len_of_distinct [] d = set.len-empty R
  len_of_distinct (k ∷ ks) d =
      let absent : set.contains (set.from_list {R = R} ks) k ≡ false = false_from_ne_true _ (λ h. d.0 (member_of_set ks k h)) in
      set.len-insert o (set.from_list ks) k ∙ cond-false _ (set.len (set.from_list {R = R} ks)) (set.len (set.from_list {R = R} ks) + 1) absent ∙ next (len_of_distinct ks d.1)
    where
      next : {n m : ℕ} → n ≡ m → n + 1 ≡ suc m
      next e = omega arith

  pub len_at_most : (ks : List K) → set.len (set.from_list {R = R} ks) ≤ length ks
  len_at_most [] = let e : set.len (set.empty {R = R}) ≡ 0 = set.len-empty R in omega arith
  len_at_most (k ∷ ks) = step _ (set.contains (set.from_list {R = R} ks) k) _ _ (set.len-insert o (set.from_list ks) k) (len_at_most ks)
    where
      step : (n : ℕ) (b : Bool) (m l : ℕ) → n ≡ cond b m (m + 1) → m ≤ l → n ≤ suc l
      step n true m l e h = omega arith
      step n false m l e h = omega arith

-- ---- `fronts`

module _ {X : Type 0} (bytes : X → List ℕ) where
  length-commons : (S : List X) → length (commons bytes S) ≡ length S - 1
  length-commons [] = refl
  length-commons (x ∷ []) = refl
  length-commons (x ∷ y ∷ S) = let e : length (commons bytes (y ∷ S)) ≡ length (y ∷ S) - 1 = length-commons (y ∷ S) in omega arith

  -- m items have at most m - 1 longest common prefixes of neighbours
  pub front_count : (S : List X) → set.len (fronts bytes S) ≤ length S - 1
  front_count S = subst (λ n. set.len (fronts bytes S) ≤ n) (length-commons S) (len_at_most nat_list_cmp_total exact_bytes (commons bytes S))

  -- ---- `parts`

  next_of : (f b : List ℕ) (n : ℕ) → begins f b ≡ true → slice_get b (length f) ≡ Some n → begins (f ++ n ∷ []) b ≡ true
  next_of [] [] n h e = cc
  next_of [] (x ∷ b) n h e = let d : x ≡ n = cc in and_from (eqb n x) true (eq-eqb n x (sym d)) refl
  next_of (z ∷ f) [] n h e = absurd (false≢true h)
  next_of (z ∷ f) (x ∷ b) n h e = let p = and_parts (eqb z x) (begins f b) h in and_from (eqb z x) (begins (f ++ n ∷ []) b) p.0 (next_of f b n p.1 e)

  of_next : (f b : List ℕ) (n : ℕ) → begins (f ++ n ∷ []) b ≡ true → slice_get b (length f) ≡ Some n
  of_next [] [] n h = absurd (false≢true h)
  of_next [] (x ∷ b) n h = ap Some (sym (eqb-true n x (and_parts (eqb n x) true h).0))
  of_next (z ∷ f) [] n h = absurd (false≢true h)
  of_next (z ∷ f) (x ∷ b) n h = of_next f b n (and_parts (eqb z x) (begins (f ++ n ∷ []) b) h).1

  -- each byte of the list is the byte of some item at the place `length f`
  next_found : (f : List ℕ) (n : ℕ) (S : List X) → Member n (filter_map (λ x. slice_get (bytes x) (length f)) S) → (x : X) × Member x S × (slice_get (bytes x) (length f) ≡ Some n)
  next_found f n [] m = absurd m
  next_found f n (y ∷ S) m = go (slice_get (bytes y) (length f)) refl m (next_found f n S)
    where
      go : (o : Option ℕ) → slice_get (bytes y) (length f) ≡ o → Member n (cons_option o (filter_map (λ x. slice_get (bytes x) (length f)) S)) → (Member n (filter_map (λ x. slice_get (bytes x) (length f)) S) → (x : X) × Member x S × (slice_get (bytes x) (length f) ≡ Some n)) → (x : X) × Member x (y ∷ S) × (slice_get (bytes x) (length f) ≡ Some n)
      go None e k rest = let r = rest k in (r.0, inr r.1, r.2)
      go (Some w) e (inl d) rest = (y, inl refl, e ∙ ap Some d)
      go (Some w) e (inr k) rest = let r = rest k in (r.0, inr r.1, r.2)

  next_member : (f : List ℕ) (n : ℕ) (S : List X) (x : X) → Member x S → slice_get (bytes x) (length f) ≡ Some n → Member n (filter_map (λ x. slice_get (bytes x) (length f)) S)
  next_member f n [] x m e = absurd m
  next_member f n (y ∷ S) x (inl d) e = subst (λ o. Member n (cons_option o (filter_map (λ x. slice_get (bytes x) (length f)) S))) (sym (ap (λ w. slice_get (bytes w) (length f)) d ∙ e)) (inl refl)
  next_member f n (y ∷ S) x (inr k) e = go (slice_get (bytes y) (length f)) (next_member f n S x k e)
    where
      go : (o : Option ℕ) → Member n (filter_map (λ x. slice_get (bytes x) (length f)) S) → Member n (cons_option o (filter_map (λ x. slice_get (bytes x) (length f)) S))
      go None k = k
      go (Some w) k = inr k

  -- if f is in `fronts`, a byte is in `parts` if and only if some item begins with f and this byte
  pub parts_has : (S : List X) (f : List ℕ) (n : ℕ) (x : X) → set.contains (fronts bytes S) f ≡ true → Member x S → begins (f ++ n ∷ []) (bytes x) ≡ true → set.contains (parts bytes S f) n ≡ true
  parts_has S f n x h m b =
      ap (λ s. set.contains s n) (cond-true _ (set.from_list {R = nat_cmp} (filter_map (λ x. slice_get (bytes x) (length f)) (under bytes S f))) set.empty h)
      ∙ set_has_member nat_cmp_total exact_unsigned _ n (next_member f n (under bytes S f) x (member_filter (λ x. begins f (bytes x)) S x m (begins-trans f (f ++ n ∷ []) (bytes x) (begins-append f (n ∷ [])) b)) (of_next f (bytes x) n b))

  pub parts_of : (S : List X) (f : List ℕ) (n : ℕ) → set.contains (fronts bytes S) f ≡ true → set.contains (parts bytes S f) n ≡ true → (x : X) × Member x S × (begins (f ++ n ∷ []) (bytes x) ≡ true)
  parts_of S f n h c =
      let k : Member n (filter_map (λ x. slice_get (bytes x) (length f)) (under bytes S f)) =
      member_of_set nat_cmp_total exact_unsigned _ n (sym (ap (λ s. set.contains s n) (cond-true _ (set.from_list {R = nat_cmp} (filter_map (λ x. slice_get (bytes x) (length f)) (under bytes S f))) set.empty h)) ∙ c) in
      let r = next_found f n (under bytes S f) k in
      let q = filter_member (λ x. begins f (bytes x)) S r.0 r.1 in
      (r.0, q.0, next_of f (bytes r.0) n q.1 r.2)
