-- The commands that a line may be.
use Rattle.std.specs.Prelude.{ℕ, ◌==◌, nat_le, if◌then◌else◌, List, [], ◌∷◌, length, Option, Some, None, Result, Ok, Err, option_map, bytes_eq, codes}
use Rattle.std.specs.List.{slice_split}
use Rattle.decimals.specs.Decimal.{read_number}
use Rattle.hex.specs.Hex.{decode_of}

-- the parts of a line between single spaces
abbrev pub words_of : List ℕ → List (List ℕ)
words_of line = slice_split (λ b. b == 32) line

-- the value of an `Ok`
abbrev pub from_ok : {A E : Type 0} → Result A E → Option A
from_ok (Ok x) = Some x
from_ok (Err e) = None

-- `-` is the empty key; other keys are two or more hexadecimal digits, in an even number
abbrev pub key_of : List ℕ → Option (List ℕ)
key_of word = if bytes_eq word (codes "-") then Some [] else if length word == 0 then None else from_ok (decode_of word)

-- the number that 1 to 20 decimal digits make, if it is less than 2^64
abbrev pub number_of : List ℕ → Option ℕ
number_of word = if nat_le (length word) 20 then read_number word else None

-- a command, with the bytes of its keys
pub data Command : Type 0 where
  Insert : List ℕ → ℕ → Command
  Get : List ℕ → Command
  Remove : List ℕ → Command
  RemovePrefix : List ℕ → Command
  PrefixGet : List ℕ → Command
  Overwrite : List ℕ → ℕ → Command
  ListAll : Command
  ListPrefix : List ℕ → Command
  ListRange : List ℕ → List ℕ → Command

-- f of both values, if both are `Some`
abbrev pub option_both : {A B C : Type 0} → (A → B → C) → Option A → Option B → Option C
option_both f (Some a) (Some b) = Some (f a b)
option_both f _ _ = None

-- the command that the words of a line make, if they make one
abbrev pub command_of : List (List ℕ) → Option Command
command_of (name ∷ []) = if bytes_eq name (codes "list") then Some ListAll else None
command_of (name ∷ key ∷ []) =
    if bytes_eq name (codes "get") then option_map Get (key_of key)
    else if bytes_eq name (codes "remove") then option_map Remove (key_of key)
    else if bytes_eq name (codes "remove-prefix") then option_map RemovePrefix (key_of key)
    else if bytes_eq name (codes "prefix-get") then option_map PrefixGet (key_of key)
    else if bytes_eq name (codes "prefix") then option_map ListPrefix (key_of key)
    else None
command_of (name ∷ first ∷ second ∷ []) =
    if bytes_eq name (codes "insert") then option_both Insert (key_of first) (number_of second)
    else if bytes_eq name (codes "overwrite") then option_both Overwrite (key_of first) (number_of second)
    else if bytes_eq name (codes "range") then option_both ListRange (key_of first) (key_of second)
    else None
command_of _ = None
