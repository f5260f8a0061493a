use Rattle.std.proofs.Common.{◌≡◌, ◌-◌, ◌<◌, Some, sym, ◌∙◌}
use Rattle.art_rows.specs.Numbers.{leaf_in, number_before}
use Rattle.art_rows.specs.Rows.{nth}
use Rattle.art_rows.proofs.FilingLemmas.{seen, before_there, if_some}
use Rattle.art_rows.proofs.leaves.Leaves.before_in_row.Goals as goal

pub returns-clause-before : goal.returns-clause-before
returns-clause-before g c =
    let p = c.args.seen in
    let ids = c.in_ok-row.row in
    let there : leaf_in c.self.inside.rows.pairs p.row ≡ Some ids = sym c.get.ensures ∙ c.in_ok-row.was in
    if_some c.before-2.result (λ n. (0 < p.index) × (nth ids p.index ≡ Some c.args.id) × (nth ids (p.index - 1) ≡ Some n)) (λ n. number_before c.args.self.now.pairs c.args.id ≡ Some n)
    (λ n h. before_there (seen c.self.inside c.self.view_is c.self.invariant) c.args.id n c.requires p ids there h.0 h.1 h.2) (c.before-2.ensures.some)
