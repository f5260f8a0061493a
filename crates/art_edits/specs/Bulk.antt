-- Many pairs at once.
use Rattle.std.specs.Prelude.{◌≡◌, ℕ, false, List, Option, Some, None, Contains}
use Rattle.blart_keys.specs.Bytes.{less}

-- the first option if it has a value, or else the second
abbrev pub or_else : {X : Type 0} → Option X → Option X → Option X
or_else (Some x) o = Some x
or_else None o = o

-- no item's bytes are greater than q
abbrev pub NoneGreater : {X : Type 0} → (X → List ℕ) → List X → List ℕ → Type 0
NoneGreater {X} bytes S q = (x : X) → Contains S x → less q (bytes x) ≡ false
