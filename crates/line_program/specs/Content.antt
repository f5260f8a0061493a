-- What a clause reads of the map.
use Rattle.std.specs.Prelude.{ℕ, List, map, Vec}
use Rattle.std.specs.Global.{Global}
use Rattle.blart_map.specs.Content.{Numbered, pairs}
use Rattle.line_program.specs.Results.{Pairs}

-- keys and their values
abbrev pub Stored : Type 0
Stored = List (Vec ℕ Global × ℕ)

-- a pair, with its key's bytes in place of the key
abbrev pub pair_of : Vec ℕ Global × ℕ → List ℕ × ℕ
pair_of pair = (pair.0.items, pair.1)

-- the pairs, with their keys' bytes in place of the keys
abbrev pub by_bytes : Stored → Pairs
by_bytes pairs = map pair_of pairs

-- what a map holds, with its keys' bytes in place of the keys
abbrev pub content_of : List (Numbered (Vec ℕ Global) ℕ) → Pairs
content_of leaves = by_bytes (pairs leaves)
