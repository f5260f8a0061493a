-- What `Display` writes for bytes.
use Rattle.std.specs.Prelude.{ℕ, ◌-◌, List, length, take, Option, Some, None, if◌then◌else◌}
use Rattle.std.specs.Str.{is_utf8}

-- all but the last byte
abbrev pub without_last : List ℕ → List ℕ
without_last b = take (length b - 1) b

-- the bytes themselves if they are UTF-8. Of other bytes no contract says what is written
abbrev pub shown_text : List ℕ → Option (List ℕ)
shown_text b = if is_utf8 b then Some b else None
