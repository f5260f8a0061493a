-- Clones of elements.
use Rattle.std.specs.Prelude.{◌≡◌, ◌≢◌, ℕ, List, [], Contains, Result, MatchResult}
use Rattle.std.specs.List.{AllZip}

module _ {K : Type 0} (kb : K → List ℕ) (is_clone : K → K → Type 0) where
  -- a clone of each of these has the same bytes
  abbrev pub KeepsBytes : List K → Type 0
  KeepsBytes S = (x y : K) → Contains S x → is_clone x y → kb y ≡ kb x

  -- a clone of the element, with the same bytes
  pub record IsElementClone (old new : K) : Type 0 where
    pub clone : is_clone old new
    pub bytes : kb new ≡ kb old

  -- each element is a clone of the element at its place
  abbrev pub AreElementClones : List K → List K → Type 0
  AreElementClones S S' = AllZip IsElementClone S S'

  -- for some U with `Is U`, the set has clones of U; or it fails to allocate, and U is not empty
  abbrev pub MakesClones : {A E : Type 0} → (A → List K) → (List K → Type 0) → Result A E → Type 0
  MakesClones elements Is r = (U : List K) × Is U × MatchResult r (λ set. AreElementClones U (elements set)) (λ _. U ≢ [])
