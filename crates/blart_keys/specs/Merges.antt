-- Merges of two ascending lists.
use Rattle.std.specs.Prelude.{◌≡◌, ℕ, false, not, List, filter, Contains, ◌↔◌, ◌⊎◌}
use Rattle.blart_keys.specs.Content.{Ascends, stores}

module _ {X : Type 0} (bytes : X → List ℕ) where
  -- U ascends, and has the items of A, and those of B with bytes that A lacks
  pub record IsUnion (A B U : List X) : Type 0 where
    pub ascends : Ascends bytes U
    pub elements : (x : X) → Contains U x ↔ (Contains A x ⊎ (Contains B x × (stores bytes A (bytes x) ≡ false)))

  -- the items of A with bytes that B has
  abbrev pub intersection : List X → List X → List X
  intersection A B = filter (λ x. stores bytes B (bytes x)) A

  -- the items of A with bytes that B lacks
  abbrev pub difference : List X → List X → List X
  difference A B = filter (λ x. not (stores bytes B (bytes x))) A

  -- U ascends, and has the items of each list with bytes that the other lacks
  pub record IsSymmetricDifference (A B U : List X) : Type 0 where
    pub ascends : Ascends bytes U
    pub elements : (x : X) → Contains U x ↔ ((Contains A x × (stores bytes B (bytes x) ≡ false)) ⊎ (Contains B x × (stores bytes A (bytes x) ≡ false)))
