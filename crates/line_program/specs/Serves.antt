-- What a session does with bytes that come.
use Rattle.std.specs.Prelude.{◌≡◌, ◌≢◌, ◌<◌, ◌≤◌, ℕ, length, take, List, [], ◌++◌, All, Option, Bool, true, false, Result, Ok, Err}
use Rattle.std.specs.List.{flat_map}
use Rattle.line_program.specs.declared.error.RunError.{RunError}
use Rattle.line_program.specs.declared.error.RunError.TheVariants.{Read, Write, Memory}
use Rattle.line_program.specs.Lines.{IsLine, ended}
use Rattle.line_program.specs.Results.{Pairs, Reply}
use Rattle.line_program.specs.Replies.{RepliesInTurn}
use Rattle.line_program.specs.Sent.{Sends}

-- between two bytes: the line so far, the content, and the replies that wait for the writer
pub record State : Type 0 where
  pub line : List ℕ
  pub content : Pairs
  pub waiting : List ℕ

-- bytes came: the lines that they ended have replies, and the writer took a prefix of the replies
pub record Serves (before after : Option (List ℕ)) (bytes : List ℕ) (old new : State) : Type 0 where
  pub lines : List (List ℕ)
  pub out : List ℕ
  pub whole : old.line ++ bytes ≡ flat_map ended lines ++ new.line
  pub each : All IsLine lines
  pub last : IsLine new.line
  pub replied : RepliesInTurn old.content lines out new.content
  pub sent : Sends before after (old.waiting ++ out) new.waiting

-- how serving these bytes stops at an error
abbrev pub Stops : RunError → Option (List ℕ) → Option (List ℕ) → Bool → List ℕ → State → Type 0
-- the writer failed within the replies to the lines that they ended
Stops Write before after mark bytes old = (mark ≡ true) × (new : State) × Serves before after bytes old new
-- the lines that a prefix of them ended have replies, and the next line did not fit
Stops Memory before after mark bytes old =
    (mark ≡ false) × (front : List ℕ) × (rest : List ℕ) × (bytes ≡ front ++ rest) × (rest ≢ []) × (new : State) × Serves before after front old new × (new.waiting ≡ [])
Stops Read before after mark bytes old = ⊥

-- what serving these bytes does
abbrev pub IsServed : Result (Unit {0}) RunError → Option (List ℕ) → Option (List ℕ) → Bool → List ℕ → State → State → Type 0
IsServed (Ok done) before after mark bytes old new = Serves before after bytes old new × (mark ≡ false)
IsServed (Err error) before after mark bytes old new = Stops error before after mark bytes old

-- what growing the line by these bytes does
abbrev pub IsGrown : Result (Unit {0}) RunError → Option (List ℕ) → Option (List ℕ) → Bool → List ℕ → State → State → Type 0
IsGrown (Ok done) before after mark bytes old new =
    (new ≡ record { line = old.line ++ bytes; content = old.content; waiting = old.waiting }) × (after ≡ before) × (mark ≡ false)
IsGrown (Err Memory) before after mark bytes old new = Sends before after old.waiting [] × (mark ≡ false)
IsGrown (Err Write) before after mark bytes old new = ((left : List ℕ) × Sends before after old.waiting left) × (mark ≡ true)
IsGrown (Err Read) before after mark bytes old new = ⊥

-- the line has a reply, and `rest` is still to be sent
pub record IsReplying (before after : Option (List ℕ)) (old : State) (content : Pairs) (rest : List ℕ) : Type 0 where
  pub out : List ℕ
  pub reply : Reply old.content old.line out content
  pub sent : Sends before after (old.waiting ++ out) rest

-- what a reply to the line does
abbrev pub IsLineReplied : Result (Unit {0}) RunError → Option (List ℕ) → Option (List ℕ) → Bool → State → State → Type 0
IsLineReplied (Ok done) before after mark old new = IsReplying before after old new.content new.waiting × (new.line ≡ []) × (mark ≡ false)
IsLineReplied (Err Write) before after mark old new = ((content : Pairs) × (left : List ℕ) × IsReplying before after old content left) × (mark ≡ true)
IsLineReplied (Err Memory) before after mark old new = ⊥
IsLineReplied (Err Read) before after mark old new = ⊥

-- what serving a prefix of these bytes does
abbrev pub IsStepped : Result ℕ RunError → Option (List ℕ) → Option (List ℕ) → Bool → List ℕ → State → State → Type 0
IsStepped (Ok count) before after mark bytes old new = (0 < count) × (count ≤ length bytes) × Serves before after (take count bytes) old new × (mark ≡ false)
IsStepped (Err error) before after mark bytes old new = Stops error before after mark bytes old
