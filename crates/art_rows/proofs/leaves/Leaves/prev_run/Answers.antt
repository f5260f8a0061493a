use Rattle.std.proofs.Common.{sym, ap, subst, ◌∙◌, None}
use Rattle.art_rows.specs.Rows.{position_at, RunsBefore}
use Rattle.art_rows.proofs.FilingLemmas.{seen, seen_rows, none_before, has_row_at, index_at, number_there}
use Rattle.art_rows.proofs.RowsLemmas.{number_before-nth, before_some}
use Rattle.art_rows.proofs.Runs.{before_in_row, none_before_run}
use Rattle.art_rows.proofs.leaves.Leaves.prev_run.Goals as goal

pub returns-in_default-clause-prev : goal.returns-in_default-clause-prev
returns-in_default-clause-prev g c =
    let f = seen_rows c.self.inside c.self.view_is c.self.invariant in
    sym (none_before f c.args.id c.requires _ _ c.backward.ensures.before c.backward.ensures.first c.position_of.ensures c.in_default.is)

pub read-ids-requires : goal.read-ids-requires
read-ids-requires g c =
    let b = before_some c.args.self.now.rows c.backward.ensures.before c.backward.ensures.first c.position_of.ensures c.in-Some.is in
    has_row_at (seen c.self.inside c.self.view_is c.self.invariant) b.0 c.in-Some.position (ap (λ s. position_at s.rows b.0) c.self.view_is ∙ b.2)

pub at-prev-requires : goal.at-prev-requires
at-prev-requires g c =
    let b = before_some c.args.self.now.rows c.backward.ensures.before c.backward.ensures.first c.position_of.ensures c.in-Some.is in
    let at = ap (λ s. position_at s.rows b.0) c.self.view_is ∙ b.2 in
    (index_at (seen c.self.inside c.self.view_is c.self.invariant) b.0 c.in-Some.position at _ c.read-ids.ensures)

pub run_before-requires : goal.run_before-requires
run_before-requires g c =
    let b = before_some c.args.self.now.rows c.backward.ensures.before c.backward.ensures.first c.position_of.ensures c.in-Some.is in
    let at = ap (λ s. position_at s.rows b.0) c.self.view_is ∙ b.2 in
    (index_at (seen c.self.inside c.self.view_is c.self.invariant) b.0 c.in-Some.position at _ c.read-ids.ensures)

pub returns-in-None-clause-prev : goal.returns-in-None-clause-prev
returns-in-None-clause-prev g c =
    let f = seen c.self.inside c.self.view_is c.self.invariant in
    let b = before_some c.args.self.now.rows c.backward.ensures.before c.backward.ensures.first c.position_of.ensures c.in-Some.is in
    let there = number_there f b.0 c.in-Some.position (ap (λ s. position_at s.rows b.0) c.self.view_is ∙ b.2) _ c.read-ids.ensures in
    sym (number_before-nth None c.args.self.now.pairs c.args.id b.0 c.requires b.1 ∙ there ∙ c.at-prev.ensures)

pub returns-in-None-clause-runs : goal.returns-in-None-clause-runs
returns-in-None-clause-runs g c = rw c.empty-in-None.ensures (none_before_run c.args.self.now.pairs c.at-prev.result)

pub returns-in-Some-run_before-clause-prev : goal.returns-in-Some-run_before-clause-prev
returns-in-Some-run_before-clause-prev g c =
    let f = seen c.self.inside c.self.view_is c.self.invariant in
    let b = before_some c.args.self.now.rows c.backward.ensures.before c.backward.ensures.first c.position_of.ensures c.in-Some.is in
    let there = number_there f b.0 c.in-Some.position (ap (λ s. position_at s.rows b.0) c.self.view_is ∙ b.2) _ c.read-ids.ensures in
    sym (number_before-nth None c.args.self.now.pairs c.args.id b.0 c.requires b.1 ∙ there ∙ c.at-prev.ensures)

pub returns-in-Some-run_before-clause-runs : goal.returns-in-Some-run_before-clause-runs
returns-in-Some-run_before-clause-runs g c =
    let f = seen c.self.inside c.self.view_is c.self.invariant in
    let b = before_some c.args.self.now.rows c.backward.ensures.before c.backward.ensures.first c.position_of.ensures c.in-Some.is in
    let at = ap (λ s. position_at s.rows b.0) c.self.view_is ∙ b.2 in
    let runs = before_in_row f b.0 c.in-Some.position at _ c.read-ids.ensures c.at-prev.result c.at-prev.ensures in
    subst (RunsBefore c.args.self.now.pairs c.at-prev.result) (sym c.in-Some-run_before.ensures) runs
