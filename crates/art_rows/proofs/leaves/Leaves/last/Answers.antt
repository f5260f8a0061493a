use Rattle.std.proofs.Common.{◌-◌, length, sym, ap, ◌∙◌}
use Rattle.art_rows.specs.Rows.{position_at}
use Rattle.art_rows.proofs.FilingLemmas.{seen, none_there}
use Rattle.art_rows.proofs.RowsLemmas.{last_number-nth}
use Rattle.art_rows.proofs.leaves.Leaves.last.Goals as goal

pub returns-in-None : goal.returns-in-None
returns-in-None g c =
    let f = seen c.self.inside c.self.view_is c.self.invariant in
    sym (last_number-nth c.args.self.now.pairs ∙ none_there f _ (ap (λ t. position_at t.rows (length c.args.self.now.pairs - 1)) c.self.view_is ∙ sym c.last_position.ensures ∙ c.in-None.is))

pub returns-in-Some : goal.returns-in-Some
returns-in-Some g c = sym (last_number-nth c.args.self.now.pairs ∙ c.number.ensures _ (sym c.last_position.ensures ∙ c.in-Some.is))
