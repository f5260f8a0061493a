use Rattle.std.proofs.Common.{arith}
use Rattle.art_rows.proofs.RowNumbers.{row_len}
use Rattle.art_rows.proofs.RowsLemmas.{nth-within}
use Rattle.art_rows.proofs.row.Row.has_at.Goals as goal

pub at-requires : goal.at-requires
at-requires c = omega (arith, row_len c.self.invariant c.self.view_is)

pub returns-else-index-self-clause-there : goal.returns-else-index-self-clause-there
returns-else-index-self-clause-there c e =
    let l = row_len c.self.invariant c.self.view_is in
    let w = nth-within c.args.self.now c.args.index c.args.number e in
    absurd (omega arith)
