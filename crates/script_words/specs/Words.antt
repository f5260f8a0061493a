-- What the words of a line mean.
use Rattle.std.specs.Prelude.{ℕ, Bool, ◌==◌, ◌||◌, if◌then◌else◌, List, [], length, Option, Some, None, Result, Ok, Err, bytes_eq, codes}
use Rattle.hex.specs.Hex.{decode_of}

-- the value of an `Ok`
abbrev pub from_ok : {A E : Type 0} → Result A E → Option A
from_ok (Ok x) = Some x
from_ok (Err e) = None

-- `-` is no bytes; other words are two or more hexadecimal digits, in an even number
abbrev pub read_bytes : List ℕ → Option (List ℕ)
read_bytes word = if bytes_eq word (codes "-") then Some [] else if length word == 0 then None else from_ok (decode_of word)

-- a step from the front, one from the back, or the number of items left
abbrev pub is_step : ℕ → Bool
is_step letter = letter == 102 || letter == 98 || letter == 108

-- lends the first or the last pair, keeps or takes the lent pair, or asks whether one is lent
abbrev pub is_decision : ℕ → Bool
is_decision letter = letter == 102 || letter == 98 || letter == 107 || letter == 116 || letter == 117
