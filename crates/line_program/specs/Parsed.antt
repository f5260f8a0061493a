-- What the code's commands mean.
use Rattle.std.specs.Prelude.{◌≡◌, ◌<◌, ℕ, List, [], ◌∷◌, length, Option, Some, None, MatchOption}
use Rattle.line_program.specs.Command.{Command, Insert, Get, Remove, RemovePrefix, PrefixGet, Overwrite, ListAll, ListPrefix, ListRange, key_of, command_of}
use Rattle.line_program.specs.declared.command.Command.{Command as Parsed}
use Rattle.line_program.specs.declared.command.Command.TheVariants.{Insert as ParsedInsert, Get as ParsedGet, Remove as ParsedRemove, RemovePrefix as ParsedRemovePrefix, PrefixGet as ParsedPrefixGet, Overwrite as ParsedOverwrite, List as ParsedList, Prefix as ParsedPrefix, Range as ParsedRange}
use Rattle.line_program.specs.declared.command.Words.{Words}
use Rattle.line_program.specs.declared.command.Words.TheVariants.{One, Two, Three, More}

-- the parsed command, whose keys are words, means this command
abbrev pub Means : Parsed → Option Command → Type 0
Means (ParsedInsert word n) command = (key : List ℕ) × (key_of word.now ≡ Some key) × (command ≡ Some (Insert key n))
Means (ParsedGet word) command = (key : List ℕ) × (key_of word.now ≡ Some key) × (command ≡ Some (Get key))
Means (ParsedRemove word) command = (key : List ℕ) × (key_of word.now ≡ Some key) × (command ≡ Some (Remove key))
Means (ParsedRemovePrefix word) command = (key : List ℕ) × (key_of word.now ≡ Some key) × (command ≡ Some (RemovePrefix key))
Means (ParsedPrefixGet word) command = (key : List ℕ) × (key_of word.now ≡ Some key) × (command ≡ Some (PrefixGet key))
Means (ParsedOverwrite word n) command = (key : List ℕ) × (key_of word.now ≡ Some key) × (command ≡ Some (Overwrite key n))
Means ParsedList command = command ≡ Some ListAll
Means (ParsedPrefix word) command = (key : List ℕ) × (key_of word.now ≡ Some key) × (command ≡ Some (ListPrefix key))
Means (ParsedRange first second) command =
    (low high : List ℕ) × (key_of first.now ≡ Some low) × (key_of second.now ≡ Some high) × (command ≡ Some (ListRange low high))

-- the parsed command means the command that these words make, if they make one
abbrev pub Parses : Option Parsed → List (List ℕ) → Type 0
Parses parsed words = MatchOption parsed (command_of words ≡ None) (λ c. Means c (command_of words))

-- the words, if there are at most three; `More` if there are more
abbrev pub AreWords : Words → List (List ℕ) → Type 0
AreWords (One a) words = words ≡ a.now ∷ []
AreWords (Two a b) words = words ≡ a.now ∷ b.now ∷ []
AreWords (Three a b c) words = words ≡ a.now ∷ b.now ∷ c.now ∷ []
AreWords More words = 3 < length words
