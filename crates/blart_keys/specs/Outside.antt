-- What is left once all items with a prefix are removed.
use Rattle.std.specs.Prelude.{ℕ, not, List, filter}
use Rattle.blart_keys.specs.Bytes.{begins}

module _ {X : Type 0} (bytes : X → List ℕ) where
  -- the items whose bytes do not begin with p
  abbrev pub outside : List X → List ℕ → List X
  outside S p = filter (λ x. not (begins p (bytes x))) S
