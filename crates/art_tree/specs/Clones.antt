-- Pairs and their clones.
use Rattle.std.specs.Prelude.{◌≡◌, ℕ, List}
use Rattle.std.specs.List.{AllZip}

module _ {K V : Type 0} (kb : K → List ℕ) (is_key : K → K → Type 0) (is_value : V → V → Type 0) where
  -- a pair of a clone of the key, with the same bytes, and a clone of the value
  pub record IsPairClone (old new : K × V) : Type 0 where
    pub key : is_key old.0 new.0
    pub bytes : kb new.0 ≡ kb old.0
    pub value : is_value old.1 new.1

  -- each pair is a clone of the one at the same place
  abbrev pub AreClones : List (K × V) → List (K × V) → Type 0
  AreClones S S' = AllZip IsPairClone S S'
