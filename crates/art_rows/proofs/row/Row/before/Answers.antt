use Rattle.std.proofs.Common.{arith}
use Rattle.art_rows.proofs.RowNumbers.{row_len}
use Rattle.art_rows.proofs.row.Row.before.Goals as goal

pub at-requires : goal.at-requires
at-requires c = omega (arith, row_len c.self.invariant c.self.view_is)

pub at-requires-then-eq : goal.at-requires-then-eq
at-requires-then-eq c = omega (arith, row_len c.self.invariant c.self.view_is)
