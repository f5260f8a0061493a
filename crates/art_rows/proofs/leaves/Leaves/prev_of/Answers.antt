use Rattle.std.proofs.Common.{sym, ◌∙◌, None}
use Rattle.art_rows.proofs.FilingLemmas.{seen_rows, none_before}
use Rattle.art_rows.proofs.RowsLemmas.{number_before-nth, before_some}
use Rattle.art_rows.proofs.leaves.Leaves.prev_of.Goals as goal

pub number-requires : goal.number-requires
number-requires g c =
    let b = before_some c.args.self.now.rows c.backward.ensures.before c.backward.ensures.first c.position_of.ensures c.in-Some.is in
    (b.0, b.2)

pub returns-in-None : goal.returns-in-None
returns-in-None g c =
    let f = seen_rows c.self.inside c.self.view_is c.self.invariant in
    sym (none_before f c.args.id c.requires _ _ c.backward.ensures.before c.backward.ensures.first c.position_of.ensures c.in-None.is)

pub returns-in-Some : goal.returns-in-Some
returns-in-Some g c =
    let b = before_some c.args.self.now.rows c.backward.ensures.before c.backward.ensures.first c.position_of.ensures c.in-Some.is in
    sym (number_before-nth None c.args.self.now.pairs c.args.id b.0 c.requires b.1 ∙ c.number.ensures b.0 b.2)
