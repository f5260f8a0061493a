use Rattle.std.proofs.Common.{◌∙◌}
use Rattle.art_rows.proofs.RowNumbers.{low_after}
use Rattle.art_rows.proofs.row.Row.run_after.Goals as goal

pub returns : goal.returns
returns c = c.new.ensures ∙ low_after c.self.invariant c.self.view_is c.if-self-ne0.false c.args.index c.requires
