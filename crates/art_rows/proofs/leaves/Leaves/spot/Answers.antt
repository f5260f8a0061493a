use Rattle.std.proofs.Common.{sym, ap, ◌∙◌, arith}
use Rattle.art_rows.specs.Rows.{position_at}
use Rattle.art_rows.specs.Leaves.{count_before}
use Rattle.art_rows.proofs.FilingLemmas.{seen, index_below}
use Rattle.art_rows.proofs.RowChanges.{spot_first, first_none, spot_after}
use Rattle.art_rows.proofs.leaves.Leaves.spot.Goals as goal

pub overflow_add-result : goal.overflow_add-result
overflow_add-result g c =
    let f = seen c.self.inside c.self.view_is c.self.invariant in
    let w = index_below f c.in-Some.id c.position_near-position.result (rw c.in-Some.is at c.requires) (ap (λ t. position_at t.rows (count_before c.args.self.now.pairs c.in-Some.id)) c.self.view_is ∙ c.position_near-position.ensures) in
    omega (arith, w, c.used-used.ensures.count, c.used-used.ensures.small)

pub returns-in-None-clause-some : goal.returns-in-None-clause-some
returns-in-None-clause-some g c = rw c.in-None.is (spot_first c.args.self.now.rows c.first_position.result c.first_position.ensures)

pub returns-in-None-clause-none : goal.returns-in-None-clause-none
returns-in-None-clause-none g c =
    let f = seen c.self.inside c.self.view_is c.self.invariant in
    rw (← c.self.view_is) (first_none c.self.inside.rows.pairs f.filled c.first_position.result (c.first_position.ensures ∙ sym (ap (λ t. position_at t.rows 0) c.self.view_is)))

pub returns-in-Some-clause-some : goal.returns-in-Some-clause-some
returns-in-Some-clause-some g c = rw c.in-Some.is (spot_after c.args.self.now.rows _ c.position_near-position.result c.position_near-position.ensures)
