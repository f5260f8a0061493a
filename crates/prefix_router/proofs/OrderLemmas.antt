-- Pairs that are put in byte order.
use Rattle.std.proofs.Common.{◌≡◌, ℕ, suc, ◌≤◌, ◌⊎◌, inl, inr, true, false, List, [], ◌∷◌, length, refl, sym, ap, ◌∙◌, subst, arith, Some, cond, bytes_eq}
use Rattle.std.proofs.lemmas.Bool.{false≢true, cases_Bool, false_from_ne_true}
use Rattle.std.specs.Cmp.Lexicographic.{bytes_decides}
use Rattle.blart_keys.specs.Bytes.{less}
use Rattle.blart_keys.specs.Content.{at}
use Rattle.blart_keys.specs.Stored.{bytes, pair_at}
use Rattle.blart_keys.proofs.PartLemmas.{less-irrefl, less-trans, less_or}
use Rattle.blart_keys.proofs.RankLemmas.{Member, Ranked, each_member, from_each_member}
use Rattle.prefix_router.specs.Tables.{placed, in_byte_order}
use Rattle.prefix_router.proofs.AscendingLemmas.{Less}

-- the order of two byte lists, by two tests
both_ways : (a b : List ℕ) → less a b ≡ false → less b a ≡ false → a ≡ b
both_ways a b h k = elim (less_or a b) [
  | inl e ↦ e
  | inr (inl l) ↦ absurd (false≢true (sym h ∙ l))
  | inr (inr l) ↦ absurd (false≢true (sym k ∙ l))
]

module _ {K V : Type 0} (kb : K → List ℕ) where
  -- what a list with x placed in it is, by the order of x and its first pair
  module _ (P : List (K × V) → Type 0) (x y : K × V) (S : List (K × V)) where
    placed_cases : (less (kb x.0) (kb y.0) ≡ true → P (x ∷ y ∷ S)) → (less (kb y.0) (kb x.0) ≡ true → P (y ∷ placed (bytes kb) x S)) → (kb x.0 ≡ kb y.0 → P (x ∷ S)) → P (placed (bytes kb) x (y ∷ S))
    placed_cases before after same = elim (cases_Bool (less (kb x.0) (kb y.0))) [
      | inl t ↦ rw t (before t)
      | inr f ↦ elim (cases_Bool (less (kb y.0) (kb x.0))) [
        | inl u ↦ rw (f, u) (after u)
        | inr g ↦ rw (f, g) (same (both_ways (kb x.0) (kb y.0) f g))
      ]
    ]

  -- a pair of the list is x, or was in it before
  member_placed : (x z : K × V) (S : List (K × V)) → Member z (placed (bytes kb) x S) → (x ≡ z) ⊎ Member z S
  member_placed x z [] (inl e) = inl e
  member_placed x z [] (inr m) = absurd m
  member_placed x z (y ∷ S) m =
      placed_cases (λ T. Member z T → (x ≡ z) ⊎ Member z (y ∷ S)) x y S
      (λ t m. elim m [ inl e ↦ inl e | inr n ↦ inr n ])
      (λ t m. elim m [ inl e ↦ inr (inl e) | inr n ↦ elim (member_placed x z S n) [ inl e ↦ inl e | inr k ↦ inr (inr k) ] ])
      (λ e m. elim m [ inl s ↦ inl s | inr n ↦ inr (inr n) ])
      m

  ranked_placed : (x : K × V) (S : List (K × V)) → Ranked (Less kb) S → Ranked (Less kb) (placed (bytes kb) x S)
  ranked_placed x [] r = (tt, tt)
  ranked_placed x (y ∷ S) r =
      placed_cases (Ranked (Less kb)) x y S
      (λ t. (from_each_member (Less kb x) (y ∷ S) (λ z m. elim m [ inl e ↦ subst (Less kb x) e t | inr n ↦ less-trans (kb x.0) (kb y.0) (kb z.0) t (each_member (Less kb y) S z r.0 n) ]), r))
      (λ t. (from_each_member (Less kb y) (placed (bytes kb) x S) (λ z m. elim (member_placed x z S m) [ inl e ↦ subst (Less kb y) e t | inr n ↦ each_member (Less kb y) S z r.0 n ]), ranked_placed x S r.1))
      (λ e. (from_each_member (Less kb x) S (λ z m. ap (λ b. less b (kb z.0)) e ∙ each_member (Less kb y) S z r.0 m), r.1))

  pub ranked_order : (S : List (K × V)) → Ranked (Less kb) (in_byte_order (bytes kb) S)
  ranked_order [] = tt
  ranked_order (x ∷ S) = ranked_placed x (in_byte_order (bytes kb) S) (ranked_order S)

  -- two pairs with different bytes: at most one is found
  apart : (x y : K × V) (r : List ℕ) → less (kb y.0) (kb x.0) ≡ true → bytes_eq (kb y.0) r ≡ true → bytes_eq (kb x.0) r ≡ false
  apart x y r l t = false_from_ne_true _ (λ u. false≢true (sym (less-irrefl (kb x.0)) ∙ ap (λ b. less b (kb x.0)) ((bytes_decides (kb x.0) r).0 u ∙ sym ((bytes_decides (kb y.0) r).0 t)) ∙ l))

  found_placed : (x : K × V) (S : List (K × V)) (r : List ℕ) → at (bytes kb) (placed (bytes kb) x S) r ≡ at (bytes kb) (x ∷ S) r
  found_placed x [] r = refl
  found_placed x (y ∷ S) r =
      placed_cases (λ T. at (bytes kb) T r ≡ at (bytes kb) (x ∷ y ∷ S) r) x y S
      (λ t. refl)
      (λ t. ap (λ o. cond (bytes_eq (kb y.0) r) (Some y) o) (found_placed x S r) ∙ turned t)
      (λ e. dropped e)
    where
      turned : less (kb y.0) (kb x.0) ≡ true → cond (bytes_eq (kb y.0) r) (Some y) (at (bytes kb) (x ∷ S) r) ≡ at (bytes kb) (x ∷ y ∷ S) r
      turned t = elim (cases_Bool (bytes_eq (kb y.0) r)) [
        | inl u ↦ rw (u, apart x y r t u) refl
        | inr f ↦ rw f refl
      ]

      dropped : kb x.0 ≡ kb y.0 → at (bytes kb) (x ∷ S) r ≡ at (bytes kb) (x ∷ y ∷ S) r
      dropped e = elim (cases_Bool (bytes_eq (kb x.0) r)) [
        | inl u ↦ rw u refl
        | inr f ↦ rw (f, ap (λ b. bytes_eq b r) (sym e) ∙ f) refl
      ]

  -- the same is found in byte order
  pub found_order : (S : List (K × V)) (r : List ℕ) → pair_at kb (in_byte_order (bytes kb) S) r ≡ pair_at kb S r
  unfolding pair_at
  found_order [] r = refl
  found_order (x ∷ S) r = found_placed x (in_byte_order (bytes kb) S) r ∙ ap (λ o. cond (bytes_eq (kb x.0) r) (Some x) o) (found_order S r)

  length_placed : (x : K × V) (S : List (K × V)) → length (placed (bytes kb) x S) ≤ suc (length S)
  length_placed x [] = omega arith
  length_placed x (y ∷ S) =
      placed_cases (λ T. length T ≤ suc (suc (length S))) x y S
      (λ t. omega arith)
      (λ t. omega (arith, length_placed x S))
      (λ e. omega arith)

  -- and there are no more pairs
  pub length_order : (S : List (K × V)) → length (in_byte_order (bytes kb) S) ≤ length S
  length_order [] = omega arith
  length_order (x ∷ S) = omega (arith, length_order S, length_placed x (in_byte_order (bytes kb) S))
