use Rattle.std.proofs.Common.{sym}
use Rattle.art_rows.proofs.RowNumbers.{row_len}
use Rattle.art_rows.proofs.row.Row.len.Goals as goal

pub returns-clause-len : goal.returns-clause-len
returns-clause-len c = sym (row_len c.self.invariant c.self.view_is)
