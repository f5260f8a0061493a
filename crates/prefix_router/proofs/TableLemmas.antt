-- The mounts of some tables.
use Rattle.std.proofs.Common.{◌≡◌, ℕ, suc, ◌+◌, ◌<◌, ◌≤◌, Bool, List, [], ◌∷◌, ◌++◌, append-nil, take, get_or, set, length, refl, sym, ap, ◌∙◌, subst, arith, Option, Some, None, flat_map, IfSome, remove, zero, drop, append_assoc, option_map}
use Rattle.std.proofs.Math.Seq.{take-suc}
use Rattle.std.proofs.lemmas.Grind.{flat_map-append}
use denote.Ref.{Bor}
use Rattle.blart_keys.specs.Stored.{shown, pair_at, value_at}
use Rattle.blart_keys.proofs.Options.{mapped_some, mapped_none}
use Rattle.prefix_router.specs.Best.{IsBest, better}
use Rattle.prefix_router.proofs.BestLemmas.{Ranks, best_append, best_none, pair_at-left, pair_at-right}

-- what the lists up to one have is what those before it have, and then what it has
pub flat_more : {X Y : Type 0} (f : X → List Y) (xs : List X) (i : ℕ) (x : X) → i < length xs → x ≡ get_or xs i x → flat_map f (take (i + 1) xs) ≡ flat_map f (take i xs) ++ f x
flat_more f xs i x l e =
    let next : i + 1 ≡ suc i = omega arith in
    ap (λ n. flat_map f (take n xs)) next ∙ ap (flat_map f) (take-suc xs i x l) ∙ flat_map-append f (take i xs) (get_or xs i x ∷ []) ∙ ap (λ r. flat_map f (take i xs) ++ r) (append-nil (f (get_or xs i x)) ∙ ap f (sym e))

module _ {X Y : Type 0} (f : X → List Y) where
  -- what all lists have: what those before one have, what it has, and what those after it have
  pub flat_split : (xs : List X) (i : ℕ) (x : X) → i < length xs → x ≡ get_or xs i x → flat_map f xs ≡ flat_map f (take i xs) ++ (f x ++ flat_map f (drop (suc i) xs))
  flat_split [] i x l e = absurd (omega arith)
  flat_split (y ∷ xs) zero x l e = ap (λ z. f z ++ flat_map f xs) (sym e)
  flat_split (y ∷ xs) (suc i) x l e = ap (λ r. f y ++ r) (flat_split xs i x (omega arith) e) ∙ sym (append_assoc (f y) (flat_map f (take i xs)) (f x ++ flat_map f (drop (suc i) xs)))

  -- the same with another list in its place
  pub flat_set : (xs : List X) (i : ℕ) (x : X) → i < length xs → flat_map f (set xs i x) ≡ flat_map f (take i xs) ++ (f x ++ flat_map f (drop (suc i) xs))
  flat_set [] i x l = absurd (omega arith)
  flat_set (y ∷ xs) zero x l = refl
  flat_set (y ∷ xs) (suc i) x l = ap (λ r. f y ++ r) (flat_set xs i x (omega arith)) ∙ sym (append_assoc (f y) (flat_map f (take i xs)) (f x ++ flat_map f (drop (suc i) xs)))

  -- the same without it
  pub flat_remove : (xs : List X) (i : ℕ) → i < length xs → flat_map f (remove xs i) ≡ flat_map f (take i xs) ++ flat_map f (drop (suc i) xs)
  flat_remove [] i l = absurd (omega arith)
  flat_remove (y ∷ xs) zero l = refl
  flat_remove (y ∷ xs) (suc i) l = ap (λ r. f y ++ r) (flat_remove xs i (omega arith)) ∙ sym (append_assoc (f y) (flat_map f (take i xs)) (flat_map f (drop (suc i) xs)))

module _ {K V : Type 0} (kb : K → List ℕ) where
  -- bytes without a value have no pair
  pub no_value : (S : List (K × V)) (r : List ℕ) → value_at kb S r ≡ None → pair_at kb S r ≡ None
  no_value S r e = mapped_none (λ (p : K × V). p.1) (pair_at kb S r) e

  -- neither of two lists has the bytes
  pub none_append : (A B : List (K × V)) (r : List ℕ) → pair_at kb A r ≡ None → pair_at kb B r ≡ None → pair_at kb (A ++ B) r ≡ None
  none_append A B r h k = pair_at-right kb A B r h ∙ k

  -- bytes that the lists before one lack have the pair that it has
  pub found_at : {X : Type 0} (f : X → List (K × V)) (xs : List X) (i : ℕ) (x : X) → i < length xs → x ≡ get_or xs i x → (r : List ℕ) → pair_at kb (flat_map f (take i xs)) r ≡ None → (p : K × V) → pair_at kb (f x) r ≡ Some p → pair_at kb (flat_map f xs) r ≡ Some p
  found_at f xs i x l e r none p h =
      ap (λ (S : List (K × V)). pair_at kb S r) (flat_split f xs i x l e)
      ∙ pair_at-right kb (flat_map f (take i xs)) (f x ++ flat_map f (drop (suc i) xs)) r none
      ∙ pair_at-left kb (f x) (flat_map f (drop (suc i) xs)) r p h

  -- and its value
  pub value_found_at : {X : Type 0} (f : X → List (K × V)) (xs : List X) (i : ℕ) (x : X) → i < length xs → x ≡ get_or xs i x → (r : List ℕ) → pair_at kb (flat_map f (take i xs)) r ≡ None → (v : V) → value_at kb (f x) r ≡ Some v → value_at kb (flat_map f xs) r ≡ Some v
  value_found_at f xs i x l e r none v h =
      let p = mapped_some (λ (p : K × V). p.1) (pair_at kb (f x) r) v h in
      ap (option_map (λ (p : K × V). p.1)) (found_at f xs i x l e r none p.0 p.1) ∙ ap Some p.2

module _ {K V : Type 0} (kb : K → List ℕ) (test : List ℕ → Bool) (is_better : List ℕ → List ℕ → Bool) where
  -- no list has no best pair
  pub best_start : IsBest {V = V} kb test is_better [] None
  best_start = best_none {V = V} kb test is_better [] (λ y m. absurd m)

  -- the better of the best pair of some lists and that of the next is the best of all of them
  pub best_more : {X : Type 0} (f : X → List (K × V)) → Ranks is_better → (xs : List X) (i : ℕ) (x : X) → i < length xs → x ≡ get_or xs i x → (o p r : Option (K × V)) → IsBest kb test is_better (flat_map f (take i xs)) o → IsBest kb test is_better (f x) p → r ≡ better kb is_better o p → IsBest kb test is_better (flat_map f (take (i + 1) xs)) r
  best_more f ranks xs i x l e o p r h k s =
      subst (λ T. IsBest kb test is_better T r) (sym (flat_more f xs i x l e))
      (subst (IsBest kb test is_better (flat_map f (take i xs) ++ f x)) (sym s) (best_append kb test is_better ranks (flat_map f (take i xs)) (f x) o p h k))

-- if either of two mounts comes with a visit, so does the better one
pub some_grows : {K V : Type 0} (kb : K → List ℕ) (is_better : List ℕ → List ℕ → Bool) (one other r : Option (Bor K × Bor V)) (a b c : ℕ) → shown r ≡ better kb is_better (shown one) (shown other) → IfSome one (λ _. a < b) → IfSome other (λ _. b < c) → a ≤ b → b ≤ c → IfSome r (λ _. a < c)
some_grows kb is_better one other None a b c e h k l m = tt
some_grows kb is_better (Some x) other (Some z) a b c e h k l m = omega arith
some_grows kb is_better None (Some y) (Some z) a b c e h k l m = omega arith
some_grows kb is_better None None (Some z) a b c e h k l m = absurd cc
