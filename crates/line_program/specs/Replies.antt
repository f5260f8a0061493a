-- Replies to many lines.
use Rattle.std.specs.Prelude.{◌≡◌, ℕ, List, [], ◌∷◌, ◌++◌}
use Rattle.line_program.specs.Results.{Pairs, Reply}

-- from S, these bytes are replies to the lines in turn, which leave S'
abbrev pub RepliesInTurn : Pairs → List (List ℕ) → List ℕ → Pairs → Type 0
RepliesInTurn S [] out S' = (out ≡ []) × (S' ≡ S)
RepliesInTurn S (line ∷ lines) out S' =
    (first : List ℕ) × (T : Pairs) × (rest : List ℕ) × Reply S line first T × RepliesInTurn T lines rest S' × (out ≡ first ++ rest)

-- these bytes are replies to the lines, from the empty content on
abbrev pub Replies : List (List ℕ) → List ℕ → Type 0
Replies lines out = (S : Pairs) × RepliesInTurn [] lines out S

-- these bytes are a prefix of a reply to the lines
abbrev pub BeginsReplies : List (List ℕ) → List ℕ → Type 0
BeginsReplies lines written = (more : List ℕ) × Replies lines (written ++ more)
