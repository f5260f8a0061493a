-- What a clause reads of an end of a run.
use Rattle.std.specs.Prelude.{ℕ, List, Bool, true, ◌&&◌, not, ◌==◌, length, Result, Ok, Err}
use Rattle.line_program.specs.declared.watched.Watched.{Watched}

-- the reader or the writer
abbrev pub watched_inner : {T : Type 0} → Watched T → T
watched_inner w = w.inner

-- the mark: whether a call failed
abbrev pub watched_failed : {T : Type 0} → Watched T → Bool
watched_failed w = w.failed

-- whether a read returned an error, or no byte for a buffer that is not empty
abbrev pub watched_ended : {T : Type 0} → Watched T → Bool
watched_ended w = w.ended

-- whether a read came after such a read
abbrev pub watched_read_again : {T : Type 0} → Watched T → Bool
watched_read_again w = w.read_again

-- `read` or `write` of these bytes returned an error, or moved no byte though there are some
abbrev pub takes_nothing : {E : Type 0} → Result ℕ E → List ℕ → Bool
takes_nothing (Ok n) bytes = (n == 0) && not (length bytes == 0)
takes_nothing (Err e) bytes = true
