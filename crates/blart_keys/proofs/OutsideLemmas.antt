-- What is found once all items with a prefix are removed.
use Rattle.std.proofs.Common.{◌≡◌, ℕ, ◌+◌, cond, Bool, true, false, not, inl, inr, List, [], ◌∷◌, length, filter, find, refl, sym, ap, ◌∙◌, Some, None, bytes_eq}
use Rattle.std.proofs.lemmas.Bool.{false≢true, cases_Bool, cond-true, cond-false, false_from_ne_true}
use Rattle.std.proofs.lemmas.List.Filters.{length-filter_both}
use Rattle.std.specs.Cmp.Lexicographic.{bytes_decides}
use Rattle.blart_keys.specs.Bytes.{begins}
use Rattle.blart_keys.specs.Content.{at, front_of, under}
use Rattle.blart_keys.specs.Outside.{outside}
use Rattle.blart_keys.specs.Steps.{bytes}
use Rattle.blart_keys.specs.Stored.{pair_at, pair_at_front}
use Rattle.blart_keys.proofs.ByteLemmas.{begins-trans}
use Rattle.blart_keys.proofs.RankLemmas.{find_none, filter_member}

module _ {X : Type 0} (t : X → Bool) where
  -- if no item passes a test, all items fail it
  all_fail : (xs : List X) → filter t xs ≡ [] → filter (λ x. not (t x)) xs ≡ xs
  all_fail [] e = refl
  all_fail (x ∷ xs) e = elim (cases_Bool (t x)) [
    | inl y ↦ absurd (let f : x ∷ filter t xs ≡ [] = sym (cond-true (t x) (x ∷ filter t xs) (filter t xs) y) ∙ e in cc)
    | inr n ↦ rw n (ap (λ l. x ∷ l) (all_fail xs (sym (cond-false (t x) (x ∷ filter t xs) (filter t xs) n) ∙ e)))
  ]

  -- if each item that passes p passes t, p finds the same among all as among those that pass t
  find_passing : (p : X → Bool) → ((x : X) → p x ≡ true → t x ≡ true) → (xs : List X) → find p (filter t xs) ≡ find p xs
  find_passing p h [] = refl
  find_passing p h (x ∷ xs) = elim (cases_Bool (t x)) [
    | inl y ↦ rw y (ap (λ o. cond (p x) (Some x) o) (find_passing p h xs))
    | inr n ↦
        let off : p x ≡ false = false_from_ne_true (p x) (λ e. false≢true (sym n ∙ h x e)) in
        rw (n, off) (find_passing p h xs)
  ]

module _ {X : Type 0} (bytes : X → List ℕ) (S : List X) (p : List ℕ) where
  -- the items under p and those outside are together as many as all items
  pub length_outside : length (under bytes S p) + length (outside bytes S p) ≡ length S
  length_outside = length-filter_both (λ x. begins p (bytes x)) (λ x. not (begins p (bytes x))) (λ x. refl) S

  -- if no item is under p, all items are outside
  pub outside_all : under bytes S p ≡ [] → outside bytes S p ≡ S
  outside_all none = all_fail (λ x. begins p (bytes x)) S none

  -- no item outside has bytes that begin with p
  pub at_gone : (r : List ℕ) → begins p r ≡ true → at bytes (outside bytes S p) r ≡ None
  at_gone r b = find_none (λ x. bytes_eq (bytes x) r) (outside bytes S p) (λ y m. false_from_ne_true _ (λ e.
      let off : not (begins p (bytes y)) ≡ true = (filter_member (λ x. not (begins p (bytes x))) S y m).1 in
      false≢true (sym (ap (λ k. not (begins p k)) ((bytes_decides (bytes y) r).0 e) ∙ ap not b) ∙ off)))

  -- what is stored at other bytes is unchanged
  pub at_outside : (r : List ℕ) → begins p r ≡ false → at bytes (outside bytes S p) r ≡ at bytes S r
  at_outside r b = find_passing (λ x. not (begins p (bytes x))) (λ x. bytes_eq (bytes x) r) (λ x e. ap (λ k. not (begins p k)) ((bytes_decides (bytes x) r).0 e) ∙ ap not b) S

  -- and so is the item whose bytes are a prefix of other bytes
  pub front_of_outside : (r : List ℕ) → begins p r ≡ false → front_of bytes (outside bytes S p) r ≡ front_of bytes S r
  front_of_outside r b = find_passing (λ x. not (begins p (bytes x))) (λ x. begins (bytes x) r) (λ x e. ap not (false_from_ne_true (begins p (bytes x)) (λ u. false≢true (sym b ∙ begins-trans p (bytes x) r u e)))) S

module _ {K V : Type 0} (kb : K → List ℕ) (S : List (K × V)) (p : List ℕ) where
  pub pair_at_gone : (r : List ℕ) → begins p r ≡ true → pair_at kb (outside (bytes kb) S p) r ≡ None
  unfolding pair_at
  pair_at_gone r b = at_gone (bytes kb) S p r b

  pub pair_at_outside : (r : List ℕ) → begins p r ≡ false → pair_at kb (outside (bytes kb) S p) r ≡ pair_at kb S r
  unfolding pair_at
  pair_at_outside r b = at_outside (bytes kb) S p r b

  pub pair_at_front_outside : (r : List ℕ) → begins p r ≡ false → pair_at_front kb (outside (bytes kb) S p) r ≡ pair_at_front kb S r
  unfolding pair_at_front
  pair_at_front_outside r b = front_of_outside (bytes kb) S p r b
