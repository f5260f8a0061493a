use Rattle.std.proofs.Common.{ap, sym, ◌∙◌}
use Rattle.art_rows.specs.Numbers.{number_after}
use Rattle.art_rows.proofs.SeenRows.{after-rows}
use Rattle.art_rows.proofs.OwnedRows.{has_now}
use Rattle.art_rows.proofs.rows.Rows.next_of.Goals as goal

pub next_of-requires : goal.next_of-requires
next_of-requires c = has_now c.self.invariant c.self.view_is c.args.row c.requires

pub returns : goal.returns
returns c = c.next_of.ensures ∙ sym (after-rows c.self.inside.cells c.self.inside.counts.pairs c.args.row) ∙ ap (λ v. number_after v.pairs c.args.row) c.self.view_is
