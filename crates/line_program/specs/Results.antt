-- The results of a command.
use Rattle.std.specs.Prelude.{◌≡◌, ◌≢◌, ◌⊎◌, ◌==◌, ◌||◌, if◌then◌else◌, ℕ, List, [], ◌∷◌, ◌++◌, map, length, Option, Some, None, Result, Ok, Err, option_map, codes, decimal}
use Rattle.std.specs.List.{flat_map}
use Rattle.std.specs.declared.ops.Bound.TheVariants.{Included, Excluded}
use Rattle.hex.specs.Hex.{encode_lower}
use Rattle.blart_keys.specs.declared.calls.TryInsertError.{TryInsertError}
use Rattle.blart_keys.specs.declared.calls.TryInsertError.TheVariants.{Prefix, Memory}
use Rattle.blart_keys.specs.Bounds.{in_order}
use Rattle.blart_keys.specs.Content.{at, front_of, subtree, under, between, without, IsOver}
use Rattle.blart_keys.specs.Outside.{outside}
use Rattle.blart_keys.specs.Steps.{Puts}
use Rattle.line_program.specs.Lines.{ended}
use Rattle.line_program.specs.Command.{Command, Insert, Get, Remove, RemovePrefix, PrefixGet, Overwrite, ListAll, ListPrefix, ListRange, words_of, command_of}

-- keys and their values
abbrev pub Pairs : Type 0
Pairs = List (List ℕ × ℕ)

-- the bytes of a pair are its key
abbrev pub pair_bytes : List ℕ × ℕ → List ℕ
pair_bytes pair = pair.0

-- a key in lower case digits, or `-`
abbrev pub key_text : List ℕ → List ℕ
key_text [] = codes "-"
key_text (b ∷ key) = encode_lower (b ∷ key)

-- a key, a space and a number
abbrev pub pair_text : List ℕ × ℕ → List ℕ
pair_text pair = key_text pair.0 ++ 32 ∷ decimal pair.1

-- a line for each pair, and then a line with the number of pairs
abbrev pub listing : Pairs → List (List ℕ)
listing pairs = map pair_text pairs ++ (codes "end " ++ decimal (length pairs)) ∷ []

-- a number, or `none`
abbrev pub value_text : Option ℕ → List ℕ
value_text (Some n) = decimal n
value_text None = codes "none"

-- a key and its number, or `none`
abbrev pub found_text : Option (List ℕ × ℕ) → List ℕ
found_text (Some pair) = pair_text pair
found_text None = codes "none"

-- the line for the result of an insertion
abbrev pub inserted_text : Result (Option ℕ) TryInsertError → List ℕ
inserted_text (Ok (Some n)) = codes "old " ++ decimal n
inserted_text (Ok None) = codes "none"
inserted_text (Err (Prefix e)) = codes "refused prefix"
inserted_text (Err (Memory e)) = codes "refused memory"

-- the value of the pair with this key
abbrev pub value_at : Pairs → List ℕ → Option ℕ
value_at S key = option_map (λ pair. pair.1) (at pair_bytes S key)

-- the pairs from `low` on, below `high`; refused if there are pairs and the bounds are not in order
abbrev pub range_lines : Pairs → List ℕ → List ℕ → List (List ℕ)
range_lines S low high =
    if (length S == 0) || in_order (Included low) (Excluded high) then listing (between pair_bytes S (Included low) (Excluded high))
    else codes "refused bounds" ∷ []

-- from S, these lines are a result of the command, which leaves S'
abbrev pub HasResult : Pairs → Command → List (List ℕ) → Pairs → Type 0
HasResult S (Insert key n) lines S' =
    (r : Result (Option ℕ) TryInsertError) × Puts (λ k. k) (option_map (λ pair. pair.1)) S (key, n) (key, n) r S' × (lines ≡ inserted_text r ∷ [])
HasResult S (Get key) lines S' = (S' ≡ S) × (lines ≡ value_text (value_at S key) ∷ [])
HasResult S (Remove key) lines S' = (S' ≡ without pair_bytes S key) × (lines ≡ value_text (value_at S key) ∷ [])
HasResult S (RemovePrefix key) lines S' = (S' ≡ outside pair_bytes S key) × (lines ≡ (codes "removed " ++ decimal (length (under pair_bytes S key))) ∷ [])
HasResult S (PrefixGet key) lines S' = (S' ≡ S) × (lines ≡ found_text (front_of pair_bytes S key) ∷ [])
HasResult S (Overwrite key n) lines S' =
    (IsOver pair_bytes S (key, n) S' × (lines ≡ (codes "len " ++ decimal (length S')) ∷ []))
    ⊎ ((subtree pair_bytes S key ≡ []) × (S' ≡ S) × (lines ≡ codes "refused memory" ∷ []))
HasResult S ListAll lines S' = (S' ≡ S) × (lines ≡ listing S)
HasResult S (ListPrefix key) lines S' = (S' ≡ S) × (lines ≡ listing (under pair_bytes S key))
HasResult S (ListRange low high) lines S' = (S' ≡ S) × (lines ≡ range_lines S low high)

-- the command has a key other than `-`, and allocates to decode it
abbrev pub Decodes : Command → Type 0
Decodes (Insert key n) = key ≢ []
Decodes (Get key) = key ≢ []
Decodes (Remove key) = key ≢ []
Decodes (RemovePrefix key) = key ≢ []
Decodes (PrefixGet key) = key ≢ []
Decodes (Overwrite key n) = key ≢ []
Decodes ListAll = ⊥
Decodes (ListPrefix key) = key ≢ []
Decodes (ListRange low high) = (low ≢ []) ⊎ (high ≢ [])

-- a command has a result; or it decodes a key, runs out of memory, and S is unchanged
abbrev pub HasResultOrFails : Pairs → Command → List (List ℕ) → Pairs → Type 0
HasResultOrFails S command lines S' =
    HasResult S command lines S' ⊎ (Decodes command × (S' ≡ S) × (lines ≡ codes "refused memory" ∷ []))

-- a line that is a command has a result of this command, and any other line is refused
abbrev pub Meets : Pairs → Option Command → List (List ℕ) → Pairs → Type 0
Meets S (Some command) lines S' = HasResultOrFails S command lines S'
Meets S None lines S' = (S' ≡ S) × (lines ≡ codes "refused line" ∷ [])

-- from S, these bytes are a reply to the line, which leaves S'
pub record Reply (S : Pairs) (line out : List ℕ) (S' : Pairs) : Type 0 where
  pub lines : List (List ℕ)
  pub meets : Meets S (command_of (words_of line)) lines S'
  pub whole : out ≡ flat_map ended lines
