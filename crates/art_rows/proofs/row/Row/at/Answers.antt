use Rattle.std.proofs.Common.{◌∙◌}
use Rattle.art_rows.proofs.RowNumbers.{row_number}
use Rattle.art_rows.proofs.row.Row.at.Goals as goal

pub new-requires : goal.new-requires
new-requires c = (row_number c.self.invariant c.self.view_is c.args.index c.requires c.number_at.result c.number_at.ensures).0

pub returns : goal.returns
returns c = (row_number c.self.invariant c.self.view_is c.args.index c.requires c.new.result (c.new.ensures ∙ c.number_at.ensures)).1
