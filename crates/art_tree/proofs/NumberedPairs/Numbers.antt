-- Facts about lists of numbered pairs, beside those about numbered items of any kind.
use Rattle.std.proofs.Common.{◌≡◌, ℕ, List, [], ◌∷◌, ◌++◌, map, refl, sym, ap, subst, ◌∙◌, Option, Some, None, Bool, true, false, cond, eqb, eq-eqb, inl, inr}
use Rattle.std.specs.Prelude.{option_map}
use Rattle.std.proofs.lemmas.Bool.{ne_eqb}
use Rattle.std.proofs.lemmas.Bool.Decides.{eqb_tells}
use Rattle.blart_keys.proofs.RankLemmas.{Member}
use Rattle.art_rows.proofs.CallerLemmas.{leaf_in_lacking, same_distinct}
use Rattle.art_tree.specs.Leaves.{Numbered, leaf_in, with_value, Lacks, AreDistinct, keys_in}

module _ {K V : Type 0} where
  -- a pair of the list is the pair of its number
  pub leaf_in-member : (ps : List (Numbered K V)) (i : ℕ) (x : K × V) → AreDistinct ps → Member (i, x) ps → leaf_in ps i ≡ Some x
  leaf_in-member [] i x d m = absurd m
  leaf_in-member (p ∷ ps) i x d (inl e) = rw (e, eq-eqb i i refl) refl
  leaf_in-member (p ∷ ps) i x d (inr m) = elim (eqb_tells p.0 i) [
    | inl t ↦ (let l : Lacks ps i = subst (λ k. Lacks ps k) t.1 d.0 in let f : Some x ≡ None = sym (leaf_in-member ps i x d.1 m) ∙ leaf_in_lacking ps i l in cc)
    | inr t ↦ rw t.0 (leaf_in-member ps i x d.1 m)
  ]

  -- the pair of a number is a pair of the list
  pub Member-from_leaf_in : (ps : List (Numbered K V)) (i : ℕ) (x : K × V) → leaf_in ps i ≡ Some x → Member (i, x) ps
  Member-from_leaf_in [] i x e = (let f : None ≡ Some x = e in cc)
  Member-from_leaf_in (p ∷ ps) i x e = elim (eqb_tells p.0 i) [
    | inl t ↦ (let f : Some p.1 ≡ Some x = rw t.0 at e in let a : p.0 ≡ i = t.1 in let b : p.1 ≡ x = cc in inl (pair_is p i x a b))
    | inr t ↦ inr (Member-from_leaf_in ps i x (rw t.0 at e))
  ]
    where
      pair_is : (p : Numbered K V) (i : ℕ) (x : K × V) → p.0 ≡ i → p.1 ≡ x → p ≡ (i, x)
      pair_is p i x a b = rw (← a, ← b) refl

  -- the list with another value at the split
  pub with_value-split : (i : ℕ) (x : K × V) (after : List (Numbered K V)) (v : V) (before : List (Numbered K V)) → Lacks before i → with_value (before ++ (i, x) ∷ after) i v ≡ before ++ (i, (x.0, v)) ∷ after
  with_value-split i x after v [] l = rw (eq-eqb i i refl) refl
  with_value-split i x after v (q ∷ before) l = rw (ne_eqb q.0 i l.0) (ap (λ s. q ∷ s) (with_value-split i x after v before l.1))

  -- the pair of each number, after the value of one was changed
  pub leaf_in-with_value : (ps : List (Numbered K V)) (i : ℕ) (v : V) (j : ℕ) → leaf_in (with_value ps i v) j ≡ cond (eqb i j) (option_map (λ (x : K × V). (x.0, v)) (leaf_in ps j)) (leaf_in ps j)
  leaf_in-with_value [] i v j = elim (eqb_tells i j) [ inl t ↦ rw t.0 refl | inr t ↦ rw t.0 refl ]
  leaf_in-with_value (p ∷ ps) i v j = elim (eqb_tells p.0 i) [
    | inl t ↦ rw (t.0, ← t.1) (elim (eqb_tells p.0 j) [ inl u ↦ rw u.0 refl | inr u ↦ rw u.0 refl ])
    | inr t ↦ rw t.0 (elim (eqb_tells p.0 j) [
      | inl u ↦ rw (u.0, ne_eqb i j (λ e. t.1 (u.1 ∙ sym e))) refl
      | inr u ↦ rw u.0 (leaf_in-with_value ps i v j)
    ])
  ]

  -- a map by a function that ignores values is the same for another value
  pub map-with_value : {X : Type 0} (f : Numbered K V → X) → ((p : Numbered K V) (v : V) → f (p.0, (p.1.0, v)) ≡ f p) → (ps : List (Numbered K V)) (i : ℕ) (v : V) → map f (with_value ps i v) ≡ map f ps
  map-with_value f same [] i v = refl
  map-with_value f same (p ∷ ps) i v = elim (eqb_tells p.0 i) [
    | inl t ↦ rw t.0 (ap (λ y. y ∷ map f ps) (same p v))
    | inr t ↦ rw t.0 (ap (λ ys. f p ∷ ys) (map-with_value f same ps i v))
  ]

  -- the numbers are unchanged
  pub numbers-with_value : (ps : List (Numbered K V)) (i : ℕ) (v : V) → map (λ p. p.0) (with_value ps i v) ≡ map (λ p. p.0) ps
  numbers-with_value ps i v = map-with_value (λ p. p.0) (λ p w. refl) ps i v

  -- the numbers remain distinct
  pub AreDistinct-with_value : (ps : List (Numbered K V)) (i : ℕ) (v : V) → AreDistinct ps → AreDistinct (with_value ps i v)
  AreDistinct-with_value ps i v d = same_distinct ps (with_value ps i v) (sym (numbers-with_value ps i v)) d

  -- another value changes no key
  pub keys_in-with_value : (key_bytes : K → List ℕ) (ps : List (Numbered K V)) (i : ℕ) (v : V) (j : ℕ) → keys_in key_bytes (with_value ps i v) j ≡ keys_in key_bytes ps j
  keys_in-with_value key_bytes ps i v j =
      ap (option_map (λ (x : K × V). key_bytes x.0)) (leaf_in-with_value ps i v j) ∙ same_key (eqb i j) (leaf_in ps j)
    where
      same_key : (b : Bool) (o : Option (K × V)) → option_map (λ (x : K × V). key_bytes x.0) (cond b (option_map (λ (x : K × V). (x.0, v)) o) o) ≡ option_map (λ (x : K × V). key_bytes x.0) o
      same_key true None = refl
      same_key false None = refl
      same_key true (Some x) = refl
      same_key false (Some x) = refl
