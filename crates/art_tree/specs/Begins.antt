-- Prefixes of byte lists, by recursion.
use Rattle.std.specs.Prelude.{◌≡◌, ℕ, List, [], ◌∷◌, length, slice_index_or}

-- a list of bytes
abbrev pub Bytes : Type 0
Bytes = List ℕ

-- the first list is a prefix of the second
abbrev pub Begins : Bytes → Bytes → Type 0
Begins [] k = Unit {0}
Begins (x ∷ g) [] = ⊥
Begins (x ∷ g) (y ∷ k) = (x ≡ y) × Begins g k

-- the byte of a key after a prefix of it
abbrev pub next_byte : Bytes → Bytes → ℕ
next_byte g k = slice_index_or k (length g) 0
