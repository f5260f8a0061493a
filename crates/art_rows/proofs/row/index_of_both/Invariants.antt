use Rattle.std.proofs.Common.{◌≢◌, ℕ, ◌<◌, get_or}
use Rattle.art_slots.specs.Words.{numbers as words}
use Rattle.art_rows.proofs.row.index_of_both.Given as goal

abbrev pub invariant-loop-index : goal.invariant-loop-index
invariant-loop-index l = (j : ℕ) → j < l.index → get_or (words l.low l.high) j 0 ≢ l.number
