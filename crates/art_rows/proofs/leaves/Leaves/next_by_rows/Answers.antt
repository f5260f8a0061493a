use Rattle.std.proofs.Common.{◌+◌, sym, ap, ◌∙◌}
use Rattle.art_rows.specs.Rows.{position_at}
use Rattle.art_rows.proofs.FilingLemmas.{seen, none_there}
use Rattle.art_rows.specs.Leaves.{count_before}
use Rattle.art_rows.proofs.RowsLemmas.{number_after-nth}
use Rattle.art_rows.proofs.leaves.Leaves.next_by_rows.Goals as goal

pub returns-in-None : goal.returns-in-None
returns-in-None g c =
    let f = seen c.self.inside c.self.view_is c.self.invariant in
    sym (number_after-nth _ c.args.id c.requires ∙ none_there f _ (ap (λ t. position_at t.rows (count_before c.args.self.now.pairs c.args.id + 1)) c.self.view_is ∙ sym (c.forward.ensures _ c.position_near.ensures) ∙ c.in-None.is))

pub returns-in-Some : goal.returns-in-Some
returns-in-Some g c = sym (number_after-nth _ c.args.id c.requires ∙ c.number.ensures _ (sym (c.forward.ensures _ c.position_near.ensures) ∙ c.in-Some.is))
