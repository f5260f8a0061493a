-- What a call writes that copies a pair out: its code, the buffer for the key, the key's length and
-- the value.
use Rattle.std.specs.Prelude.{ℕ, List, ◌++◌, Option, None, Some, length, drop, nat_le, if◌then◌else◌}
use Rattle.blart_c.specs.declared.codes.TheConstants.{FOUND, NONE, TOO_SMALL}

-- the code, if the buffer has `room` bytes
abbrev pub code_of : Option (List ℕ × ℕ) → ℕ → ℕ
code_of None room = NONE
code_of (Some pair) room = if nat_le (length pair.0) room then FOUND else TOO_SMALL

-- the buffer: it begins with the key if it is long enough, and is unchanged if not
abbrev pub key_after : Option (List ℕ × ℕ) → List ℕ → List ℕ
key_after None old = old
key_after (Some pair) old = if nat_le (length pair.0) (length old) then pair.0 ++ drop (length pair.0) old else old

-- the key's length, if there is a pair
abbrev pub length_after : Option (List ℕ × ℕ) → ℕ → ℕ
length_after None old = old
length_after (Some pair) old = length pair.0

-- the value, if there is a pair and the buffer is long enough
abbrev pub value_after : Option (List ℕ × ℕ) → ℕ → ℕ → ℕ
value_after None room old = old
value_after (Some pair) room old = if nat_le (length pair.0) room then pair.1 else old
