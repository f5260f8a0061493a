-- Many items at once.
use Rattle.std.specs.Prelude.{◌≡◌, ℕ, List, [], ◌∷◌, Option}
use Rattle.blart_keys.specs.Content.{at, IsPut}
use Rattle.blart_keys.specs.Merges.{IsUnion}

module _ {X : Type 0} (bytes : X → List ℕ) where
  -- the items are put in order: `keep old x` is stored for x, if `old` was stored at its bytes
  abbrev pub PutsAll : (Option X → X → X) → List X → List X → List X → Type 0
  PutsAll keep S [] S' = S' ≡ S
  PutsAll keep S (x ∷ items) S' = (T : List X) × IsPut bytes S (keep (at bytes S (bytes x)) x) T × PutsAll keep T items S'

  -- T is appended to S: if both have an item with some bytes, the item of T wins
  abbrev pub IsAppended : List X → List X → List X → Type 0
  IsAppended S T S' = IsUnion bytes T S S'
