-- The reply to one line.
use Rattle.std.specs.Prelude.{ℕ, List, ◌++◌, Option, Result, Bool}
use Rattle.line_program.specs.declared.error.RunError.{RunError}
use Rattle.line_program.specs.Results.{Pairs, Reply}
use Rattle.line_program.specs.Sent.{IsSent}

-- from old, the line has a reply that leaves new, and it was sent after what waited
pub record IsReplied (result : Result (Unit {0}) RunError) (before after : Option (List ℕ)) (mark : Bool) (old : Pairs) (line waited waiting : List ℕ) (new : Pairs) : Type 0 where
  pub out : List ℕ
  pub reply : Reply old line out new
  pub sent : IsSent result before after mark (waited ++ out) waiting
