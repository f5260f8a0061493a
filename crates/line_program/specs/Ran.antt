-- What the parts of a run do.
use Rattle.std.specs.Prelude.{◌≡◌, ◌≤◌, ◌-◌, ◌^◌, ◌⊎◌, ℕ, List, [], ◌++◌, length, Option, Result, Ok, Err, Bool, true, false}
use Rattle.std.specs.Io.KnownBytes.{Consumes, IsAtEnd}
use Rattle.line_program.specs.declared.error.RunError.{RunError}
use Rattle.line_program.specs.declared.error.RunError.TheVariants.{Read, Write, Memory}
use Rattle.line_program.specs.Lines.{with_last}
use Rattle.line_program.specs.Results.{Pairs}
use Rattle.line_program.specs.Replies.{RepliesInTurn}
use Rattle.line_program.specs.Sent.{Sends}
use Rattle.line_program.specs.Serves.{State, Serves, Stops}

-- the reader returned `read`, and is at its end, or `read` has 2^64 - 1 bytes or more
abbrev pub CameAll : Option (List ℕ) → Option (List ℕ) → List ℕ → Type 0
CameAll before after read = Consumes before after read × (IsAtEnd after ⊎ (2 ^ 64 - 1 ≤ length read))

-- how reading and serving ends
abbrev pub IsReadAll : Result (Unit {0}) RunError → Option (List ℕ) → Option (List ℕ) → Bool → Option (List ℕ) → Option (List ℕ) → Bool → State → State → Type 0
IsReadAll (Ok done) was is reader_mark before after writer_mark old new =
    (read : List ℕ) × CameAll was is read × Serves before after read old new × (new.waiting ≡ []) × (reader_mark ≡ false) × (writer_mark ≡ false)
IsReadAll (Err Read) was is reader_mark before after writer_mark old new =
    (read : List ℕ) × Consumes was is read × (last : State) × Serves before after read old last × (last.waiting ≡ []) × (reader_mark ≡ true) × (writer_mark ≡ false)
IsReadAll (Err Write) was is reader_mark before after writer_mark old new =
    (read : List ℕ) × Consumes was is read × Stops Write before after writer_mark read old × (reader_mark ≡ false)
IsReadAll (Err Memory) was is reader_mark before after writer_mark old new =
    (read : List ℕ) × Consumes was is read × Stops Memory before after writer_mark read old × (reader_mark ≡ false)

-- there is a reply to the line if it has any bytes
pub record IsLastReplied (before after : Option (List ℕ)) (old : State) (rest : List ℕ) : Type 0 where
  pub out : List ℕ
  pub content : Pairs
  pub replied : RepliesInTurn old.content (with_last [] old.line) out content
  pub sent : Sends before after (old.waiting ++ out) rest

-- how the end of the input is served
abbrev pub IsFinished : Result (Unit {0}) RunError → Option (List ℕ) → Option (List ℕ) → Bool → State → Type 0
IsFinished (Ok done) before after mark old = IsLastReplied before after old [] × (mark ≡ false)
IsFinished (Err Write) before after mark old = ((left : List ℕ) × IsLastReplied before after old left) × (mark ≡ true)
IsFinished (Err Memory) before after mark old = ⊥
IsFinished (Err Read) before after mark old = ⊥
