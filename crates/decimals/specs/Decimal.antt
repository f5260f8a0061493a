-- Numbers in decimal digits.
use Rattle.std.specs.Prelude.{ℕ, Bool, ◌&&◌, nat_le, if◌then◌else◌, List, length, Option, Some, None}
use Rattle.std.specs.List.{list_all}
use Rattle.std.specs.Char.{is_ascii_digit}
use Rattle.std.specs.Str.Parse.{digits_value}

-- one or more decimal digits
abbrev pub is_numeral : List ℕ → Bool
is_numeral word = nat_le 1 (length word) && list_all is_ascii_digit word

-- a number, if it is less than 2^64
abbrev pub below_limit : ℕ → Option ℕ
below_limit n = if nat_le n 18446744073709551615 then Some n else None

-- the number that decimal digits make, if it is less than 2^64
abbrev pub read_number : List ℕ → Option ℕ
read_number word = if is_numeral word then below_limit (digits_value 10 word) else None
