-- The pairs that the first number and the last number name.
use Rattle.std.proofs.Common.{◌≡◌, ℕ, List, [], ◌∷◌, ◌-◌, length, slice_get, Some, None, refl, sym, ap, ◌∙◌, arith}
use Rattle.std.proofs.lemmas.Grind.{common_steps}
use Rattle.art_tree.specs.Leaves.{Numbered, leaf_in, Has, AreDistinct, without_number, first_number, last_number}
use Rattle.art_tree.proofs.CallerLemmas.{Has-last, no_last}
use Rattle.blart_keys.proofs.Options.{some_of, is_some as has_value}
use Rattle.art_tree.specs.Pairs.{pairs_of}
use Rattle.art_edits.proofs.Numbers.{last_pair, slice_get-last}

module _ {K V : Type 0} (ps : List (Numbered K V)) (id : ℕ) where
  -- the first number names the first pair
  pub first_there : Some id ≡ first_number ps → (x : K × V) × (leaf_in ps id ≡ Some x) × (slice_get (pairs_of ps) 0 ≡ Some x)
  first_there e = named ps e
    where
      named : (qs : List (Numbered K V)) → Some id ≡ first_number qs → (x : K × V) × (leaf_in qs id ≡ Some x) × (slice_get (pairs_of qs) 0 ≡ Some x)
      named [] e = absurd cc
      named (p ∷ qs) e = let same : id ≡ p.0 = cc in (p.1, grind (arith, common_steps, same), refl)

  -- the last number names the last pair
  pub last_there : AreDistinct ps → Some id ≡ last_number ps → (x : K × V) × (leaf_in ps id ≡ Some x) × (slice_get (pairs_of ps) (length (pairs_of ps) - 1) ≡ Some x)
  last_there distinct e =
      let s = some_of (leaf_in ps id) (Has-last ps id (sym e)) in
      let l = last_pair ps id s.0 distinct (sym e) s.1 in
      (s.0, s.1, ap (λ l. slice_get l (length l - 1)) l ∙ slice_get-last (pairs_of (without_number ps id)) s.0)

  pub named_has : (x : K × V) → leaf_in ps id ≡ Some x → Has ps id
  named_has x e = has_value (leaf_in ps id) x e

pub no_first_pair : {K V : Type 0} (ps : List (Numbered K V)) → None ≡ first_number ps → slice_get (pairs_of ps) 0 ≡ None
no_first_pair [] e = refl
no_first_pair (p ∷ ps) e = absurd cc

pub no_last_pair : {K V : Type 0} (ps : List (Numbered K V)) → None ≡ last_number ps → slice_get (pairs_of ps) (length (pairs_of ps) - 1) ≡ None
no_last_pair ps e = ap (λ l. slice_get (pairs_of l) (length (pairs_of l) - 1)) (no_last ps (sym e))
