use Rattle.std.proofs.Common.{◌≡◌, Some, sym, ap, ◌∙◌}
use Rattle.art_rows.specs.Numbers.{leaf_in}
use Rattle.art_rows.specs.Leaves.{count_before}
use Rattle.art_rows.specs.Rows.{position_at}
use Rattle.art_rows.proofs.FilingLemmas.{seen, stands_there}
use Rattle.art_rows.proofs.leaves.Leaves.position_near.Goals as goal

pub returns-in-Some : goal.returns-in-Some
returns-in-Some g c =
    let f = seen c.self.inside c.self.view_is c.self.invariant in
    let there : leaf_in c.self.inside.rows.pairs c.args.seen.row ≡ Some c.in-Some.row = sym c.get.ensures ∙ c.in-Some.is in
    sym (ap (λ t. position_at t.rows (count_before c.args.self.now.pairs c.args.id)) c.self.view_is) ∙ stands_there f c.args.id c.args.seen c.in-Some.row there (c.has_at.ensures.here c.if-has_at.true)
