use Rattle.std.proofs.Common.{sym}
use Rattle.art_rows.proofs.RowNumbers.{words-both, words-low}
use Rattle.art_rows.proofs.row.number_at.Goals as goal

pub returns-then-index-high : goal.returns-then-index-high
returns-then-index-high c = sym (words-both c.args.low.now c.args.high.now c.args.index c.requires c.if-index-high.true)

pub returns-else-index-high : goal.returns-else-index-high
returns-else-index-high c = sym (words-low c.args.low.now c.args.high.now c.args.index c.if-index-high.false)
