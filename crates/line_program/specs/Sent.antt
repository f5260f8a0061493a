-- Bytes on their way to a writer.
use Rattle.std.specs.Prelude.{◌≡◌, ℕ, List, ◌++◌, Option, Result, Ok, Err, Bool, true, false}
use Rattle.std.specs.Io.KnownBytes.{Appends}
use Rattle.line_program.specs.declared.error.RunError.{RunError}
use Rattle.line_program.specs.declared.error.RunError.TheVariants.{Write}

-- the writer took a prefix of `bytes`, and `rest` is the rest of them
pub record Sends (before after : Option (List ℕ)) (bytes rest : List ℕ) : Type 0 where
  pub front : List ℕ
  pub taken : Appends before after front
  pub whole : bytes ≡ front ++ rest

-- a call that sends `bytes` leaves `rest` and no mark, or the writer failed within `bytes`
abbrev pub IsSent : Result (Unit {0}) RunError → Option (List ℕ) → Option (List ℕ) → Bool → List ℕ → List ℕ → Type 0
IsSent (Ok done) before after mark bytes rest = Sends before after bytes rest × (mark ≡ false)
IsSent (Err error) before after mark bytes rest = ((left : List ℕ) × Sends before after bytes left) × (mark ≡ true) × (error ≡ Write)
