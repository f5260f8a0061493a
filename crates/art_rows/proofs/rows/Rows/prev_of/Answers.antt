use Rattle.std.proofs.Common.{ap, sym, ◌∙◌}
use Rattle.art_rows.specs.Numbers.{number_before}
use Rattle.art_rows.proofs.SeenRows.{before-rows}
use Rattle.art_rows.proofs.OwnedRows.{has_now}
use Rattle.art_rows.proofs.rows.Rows.prev_of.Goals as goal

pub prev_of-requires : goal.prev_of-requires
prev_of-requires c = has_now c.self.invariant c.self.view_is c.args.row c.requires

pub returns : goal.returns
returns c = c.prev_of.ensures ∙ sym (before-rows c.self.inside.cells c.self.inside.counts.pairs c.args.row) ∙ ap (λ v. number_before v.pairs c.args.row) c.self.view_is
