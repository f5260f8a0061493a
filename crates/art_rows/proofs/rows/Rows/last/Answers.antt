use Rattle.std.proofs.Common.{ap, sym, ◌∙◌}
use Rattle.art_rows.specs.Numbers.{last_number}
use Rattle.art_rows.proofs.SeenRows.{last-rows}
use Rattle.art_rows.proofs.rows.Rows.last.Goals as goal

pub returns : goal.returns
returns c = c.last.ensures ∙ sym (last-rows c.self.inside.cells c.self.inside.counts.pairs) ∙ ap (λ v. last_number v.pairs) c.self.view_is
