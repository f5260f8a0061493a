-- A value set twice is set once.
use Rattle.std.proofs.Common.{◌≡◌, ◌+◌, ℕ, List, [], ◌∷◌, length, refl, ap, ◌∙◌, subst₂, inl, inr, Option, Some, None, option_map, arith}
use Rattle.std.proofs.lemmas.Bool.Decides.{eqb_tells}
use Rattle.std.specs.Option.{unwrap_or}
use Rattle.blart_keys.specs.Stored.{value_at, Updates}
use Rattle.art_tree.specs.Leaves.{Numbered, leaf_in, keys_in, with_value}
use Rattle.art_tree.specs.Pairs.{pairs_of}
use Rattle.art_edits.proofs.Placed.Setting.{bytes_written, pair_written}

module _ {K V : Type 0} where
  -- to write a value and then another is to write the other
  pub with_with : (ps : List (Numbered K V)) (i : ℕ) (w u : V) → with_value (with_value ps i w) i u ≡ with_value ps i u
  with_with [] i w u = refl
  with_with (p ∷ ps) i w u = elim (eqb_tells p.0 i) [
    | inl t ↦ rw t.0 (rw t.0 refl)
    | inr t ↦ rw t.0 (rw t.0 (ap (λ l. p ∷ l) (with_with ps i w u)))
  ]

  -- the key is unchanged after a value was written
  pub key_written : (ps : List (Numbered K V)) (i : ℕ) (w : V) → option_map (λ p. p.0) (leaf_in (with_value ps i w) i) ≡ option_map (λ p. p.0) (leaf_in ps i)
  key_written ps i w = ap (option_map (λ (p : K × V). p.0)) (pair_written (λ _. []) ps i w) ∙ kept (leaf_in ps i)
    where
      kept : (o : Option (K × V)) → option_map (λ (p : K × V). p.0) (option_map {U = K × V} (λ k. (k, w)) (option_map (λ (p : K × V). p.0) o)) ≡ option_map (λ (p : K × V). p.0) o
      kept None = refl
      kept (Some x) = refl

  -- if there was a value, the value that was written is there
  pub value_written : (ps : List (Numbered K V)) (i : ℕ) (w v : V) → option_map (λ p. p.1) (leaf_in ps i) ≡ Some v → option_map (λ p. p.1) (leaf_in (with_value ps i w) i) ≡ Some w
  value_written ps i w v e = ap (option_map (λ (p : K × V). p.1)) (pair_written (λ _. []) ps i w) ∙ set (leaf_in ps i) e
    where
      set : (o : Option (K × V)) → option_map (λ (p : K × V). p.1) o ≡ Some v → option_map (λ (p : K × V). p.1) (option_map {U = K × V} (λ k. (k, w)) (option_map (λ (p : K × V). p.0) o)) ≡ Some w
      set None e = absurd cc
      set (Some x) e = refl

  module _ (kb : K → List ℕ) (ps : List (Numbered K V)) (i : ℕ) (w : V) where
    -- to set a value and then another is to set the other
    pub set_again : Updates kb (pairs_of ps) (pairs_of (with_value ps i w)) (unwrap_or (keys_in kb ps i) []) (option_map {U = K × V} (λ k. (k, w)) (option_map (λ p. p.0) (leaf_in ps i)))
        → length (pairs_of (with_value ps i w)) ≡ length (pairs_of ps) + 0 → (u : V) (n : List (Numbered K V))
        → Updates kb (pairs_of (with_value ps i w)) (pairs_of n) (unwrap_or (keys_in kb (with_value ps i w) i) []) (option_map {U = K × V} (λ k. (k, u)) (option_map (λ p. p.0) (leaf_in (with_value ps i w) i)))
        × (value_at kb (pairs_of n) (unwrap_or (keys_in kb (with_value ps i w) i) []) ≡ Some u) × (length (pairs_of n) ≡ length (pairs_of (with_value ps i w)) + 0) × (n ≡ with_value (with_value ps i w) i u)
        → Updates kb (pairs_of ps) (pairs_of n) (unwrap_or (keys_in kb ps i) []) (option_map {U = K × V} (λ k. (k, u)) (option_map (λ p. p.0) (leaf_in ps i)))
        × (value_at kb (pairs_of n) (unwrap_or (keys_in kb ps i) []) ≡ Some u) × (length (pairs_of n) ≡ length (pairs_of ps) + 0) × (n ≡ with_value ps i u)
    set_again first len u n h =
        let mid = pairs_of (with_value ps i w) in
        let P : List ℕ → Option K → Type 0 = λ q k. Updates kb mid (pairs_of n) q (option_map {U = K × V} (λ k. (k, u)) k) × (value_at kb (pairs_of n) q ≡ Some u) in
        let r = subst₂ P (bytes_written kb ps i w) (key_written ps i w) (h.0, h.1) in
        ((r.0.0, λ q off. r.0.1 q off ∙ first.1 q off), r.1, omega (arith, h.2, len), h.3 ∙ with_with ps i w u)
