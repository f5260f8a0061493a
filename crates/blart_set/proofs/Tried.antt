-- What an insertion into a set says to its callers, if there was room for it.
use Rattle.std.proofs.Common.{◌≡◌, ℕ, ◌+◌, true, false, not, Bool, List, length, map, ap, ◌∙◌, sym, refl, Option, Some, None, option_map}
use Rattle.std.specs.Prelude.{if◌then◌else◌, Result, Ok, Err, OnErr, IfOk}
use Rattle.std.specs.Option.{is_some, is_none}
use Rattle.std.proofs.lemmas.Bool.{false≢true}
use Rattle.std.proofs.lemmas.List.{length-map}
use Rattle.blart_keys.specs.declared.calls.InsertPrefixError.{InsertPrefixError}
use Rattle.blart_keys.specs.Content.{conflict}
use Rattle.blart_keys.specs.Steps.{Puts}
use Rattle.blart_keys.specs.Stored.{kept}
use Rattle.blart_map.specs.Reserved.{as_tried}
use Rattle.blart_set.proofs.Pairs.{told, keys, conflict-keys}

-- the result of `is_none`
pub tells-none : {V : Type 0} (o : Option V) (b : Bool) → is_some o ≡ not b → b ≡ is_none o
tells-none None true e = refl
tells-none None false e = absurd (false≢true e)
tells-none (Some v) true e = absurd (false≢true (sym e))
tells-none (Some v) false e = refl

-- what holds with one type of error holds with the other
pub told_tried : {V : Type 0} (P : Bool → Type 0) (r : Result (Option V) InsertPrefixError) → IfOk (told (as_tried r)) P → IfOk (told r) P
told_tried P (Ok old) h = h
told_tried P (Err e) h = tt

module _ {K V : Type 0} (kb : K → List ℕ) (S S' : List (K × V)) (x : K × V) where
  abbrev Tried : Result (Option V) InsertPrefixError → Type 0
  Tried r = Puts kb (option_map (λ p. p.1)) S x (kept kb S x) (as_tried r) S'

  -- an error says that the key conflicts
  pub tried-why : (r : Result (Option V) InsertPrefixError) → Tried r → OnErr (told r) (conflict kb (keys kb S) (kb x.0) ≡ true)
  tried-why (Ok old) put = tt
  tried-why (Err e) put = conflict-keys kb S (kb x.0) ∙ put.0

  -- and the elements are unchanged
  pub tried-err : (r : Result (Option V) InsertPrefixError) → Tried r → OnErr (told r) (keys kb S' ≡ keys kb S)
  tried-err (Ok old) put = tt
  tried-err (Err e) put = ap (map (λ p. p.0)) put.1

  -- the number of elements, by the number of pairs
  pub len-keys : (old : Option V) → length S' ≡ length S + (if is_some old then 0 else 1) → length (keys kb S') ≡ length (keys kb S) + (if is_none old then 1 else 0)
  len-keys old e = length-map S' (λ (p : K × V). p.0) ∙ e ∙ ap (λ n. n + (if is_some old then 0 else 1)) (sym (length-map S (λ (p : K × V). p.0))) ∙ ap (λ n. length (keys kb S) + n) (one old)
    where
      one : (old : Option V) → ◌≡◌ {A = ℕ} (if is_some old then 0 else 1) (if is_none old then 1 else 0)
      one None = refl
      one (Some v) = refl

  pub len-told : {E : Type 0} (r : Result (Option V) E) → IfOk r (λ old. length S' ≡ length S + (if is_some old then 0 else 1)) → IfOk (told r) (λ new. length (keys kb S') ≡ length (keys kb S) + (if new then 1 else 0))
  len-told (Ok old) e = len-keys old e
  len-told (Err e) h = tt
