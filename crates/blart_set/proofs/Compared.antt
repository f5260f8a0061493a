-- Comparisons of the pairs of two maps of units are comparisons of their keys.
use Rattle.std.proofs.Common.{◌≡◌, ℕ, ◌&&◌, Bool, true, List, [], ◌∷◌, ◌++◌, map, length, refl, sym, ap, ◌∙◌, Option, Some, None, Ordering, Less, Equal, Greater, append-nil}
use Rattle.std.proofs.Math.Bool.{and-true}
use Rattle.std.proofs.lemmas.List.{length-map}
use Rattle.std.specs.Cmp.Lexicographic.{pointwise, slice_cmp, slice_partial_cmp}
use Rattle.std.specs.Ordering.{ordering_then, partial_ordering_then}
use Rattle.std.specs.List.{flat_map, fold}
use Rattle.std.specs.Hash as fed
use Rattle.blart_keys.specs.KeyLaws.{then_equal}

then-Some_Equal : (o : Option Ordering) → partial_ordering_then o (Some Equal) ≡ o
then-Some_Equal None = refl
then-Some_Equal (Some Less) = refl
then-Some_Equal (Some Equal) = refl
then-Some_Equal (Some Greater) = refl

module _ {K V : Type 0} where
  abbrev firsts : List (K × V) → List K
  firsts S = map (λ p. p.0) S

  pub pointwise-keys : (E : K → K → Bool) (S T : List (K × V)) → pointwise (λ p q. E p.0 q.0 && true) S T ≡ pointwise E (firsts S) (firsts T)
  pointwise-keys E [] [] = refl
  pointwise-keys E [] (q ∷ T) = refl
  pointwise-keys E (p ∷ S) [] = refl
  pointwise-keys E (p ∷ S) (q ∷ T) = ap (λ b. b && pointwise (λ p q. E p.0 q.0 && true) S T) (and-true (E p.0 q.0)) ∙ ap (λ b. E p.0 q.0 && b) (pointwise-keys E S T)

  pub cmp-keys : (C : K → K → Ordering) (S T : List (K × V)) → slice_cmp (λ p q. ordering_then (C p.0 q.0) Equal) S T ≡ slice_cmp C (firsts S) (firsts T)
  cmp-keys C [] [] = refl
  cmp-keys C [] (q ∷ T) = refl
  cmp-keys C (p ∷ S) [] = refl
  cmp-keys C (p ∷ S) (q ∷ T) = ap (λ o. ordering_then o (slice_cmp (λ p q. ordering_then (C p.0 q.0) Equal) S T)) (then_equal (C p.0 q.0)) ∙ ap (ordering_then (C p.0 q.0)) (cmp-keys C S T)

  pub partial_cmp-keys : (C : K → K → Option Ordering) (S T : List (K × V)) → slice_partial_cmp (λ p q. partial_ordering_then (C p.0 q.0) (Some Equal)) S T ≡ slice_partial_cmp C (firsts S) (firsts T)
  partial_cmp-keys C [] [] = refl
  partial_cmp-keys C [] (q ∷ T) = refl
  partial_cmp-keys C (p ∷ S) [] = refl
  partial_cmp-keys C (p ∷ S) (q ∷ T) = ap (λ o. partial_ordering_then o (slice_partial_cmp (λ p q. partial_ordering_then (C p.0 q.0) (Some Equal)) S T)) (then-Some_Equal (C p.0 q.0)) ∙ ap (partial_ordering_then (C p.0 q.0)) (partial_cmp-keys C S T)

  pub fed-keys : {W : Type 0} (F : K → List W) (S : List (K × V)) → flat_map (λ p. F p.0 ++ []) S ≡ flat_map F (firsts S)
  fed-keys F [] = refl
  fed-keys F (p ∷ S) = ap (λ l. l ++ flat_map (λ p. F p.0 ++ []) S) (append-nil (F p.0)) ∙ ap (λ l. F p.0 ++ l) (fed-keys F S)

  pub hash-keys : {H : Type 0} (write : H → List ℕ → H) (state : H) (F : K → List (List ℕ)) (S : List (K × V)) → fold write state (fed.slice (λ p. F p.0 ++ []) S) ≡ fold write state (fed.slice F (firsts S))
  hash-keys write state F S = ap (fold write state) (ap (λ n. fed.usize n ++ flat_map (λ p. F p.0 ++ []) S) (sym (length-map S (λ p. p.0))) ∙ ap (λ l. fed.usize (length (firsts S)) ++ l) (fed-keys F S))
