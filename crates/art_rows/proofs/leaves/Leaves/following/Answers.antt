use Rattle.std.proofs.Common.{◌≡◌, ℕ, map, Some, None, sym, ap, ◌∙◌}
use Rattle.art_rows.specs.Leaves.{count_before}
use Rattle.art_rows.specs.Numbers.{leaf_in}
use Rattle.art_rows.specs.Rows.{nth, position_at}
use Rattle.art_rows.proofs.FilingLemmas.{seen, seen_rows, has_row_at, index_at, number_there}
use Rattle.art_rows.proofs.RowsLemmas.{among-numbers, nth-index}
use Rattle.art_rows.proofs.Runs.{following_there, unknown_follows, none_looked_up}
use Rattle.art_rows.proofs.leaves.Leaves.following.Goals as goal

pub read-requires : goal.read-requires
read-requires g c =
    let f = seen c.self.inside c.self.view_is c.self.invariant in
    has_row_at f _ c.position_of-position.result (ap (λ t. position_at t.rows (count_before c.args.self.now.pairs c.args.id)) c.self.view_is ∙ c.position_of-position.ensures)

pub run_after-requires : goal.run_after-requires
run_after-requires g c =
    let f = seen c.self.inside c.self.view_is c.self.invariant in
    index_at f _ c.position_of-position.result (ap (λ t. position_at t.rows (count_before c.args.self.now.pairs c.args.id)) c.self.view_is ∙ c.position_of-position.ensures) _ c.read.ensures

pub returns-in-None : goal.returns-in-None
returns-in-None g c = rw c.unknown.ensures (unknown_follows c.args.self.now.pairs c.args.self.now.rows c.args.id)

pub returns-in-Some : goal.returns-in-Some
returns-in-Some g c =
    let f = seen_rows c.self.inside c.self.view_is c.self.invariant in
    let ps = c.args.self.now.pairs in
    let k : ℕ = count_before ps c.args.id in
    let p = c.position_of-position.result in
    let is : leaf_in c.args.self.now.rows p.row ≡ Some c.read.result = rw (← ap (λ t. t.rows) c.self.view_is) c.read.ensures in
    let there : nth c.read.result p.index ≡ Some c.args.id = sym (number_there f k p c.position_of-position.ensures c.read.result is) ∙ nth-index (map (λ q. q.0) ps) c.args.id (among-numbers ps c.args.id c.requires) in
    following_there f k p c.position_of-position.ensures c.read.result is c.args.id there (record { run = c.in-Some.run'; row = c.row_after.result; first = None; rest = c.empty.result }) c.in-Some.ensures c.row_after.ensures.next (none_looked_up c.args.self.now.rows c.row_after.result)
