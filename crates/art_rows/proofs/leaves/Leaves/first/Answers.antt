use Rattle.std.proofs.Common.{sym, ap, ◌∙◌}
use Rattle.art_rows.specs.Rows.{position_at}
use Rattle.art_rows.proofs.FilingLemmas.{seen, none_there}
use Rattle.art_rows.proofs.RowsLemmas.{first_number-nth}
use Rattle.art_rows.proofs.leaves.Leaves.first.Goals as goal

pub returns-in-None : goal.returns-in-None
returns-in-None g c =
    let f = seen c.self.inside c.self.view_is c.self.invariant in
    sym (first_number-nth _ ∙ none_there f 0 (ap (λ t. position_at t.rows 0) c.self.view_is ∙ sym c.first_position.ensures ∙ c.in-None.is))
