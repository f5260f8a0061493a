use Rattle.std.proofs.Common.{◌≡◌, ◌+◌, ◌<◌, ◌≤◌, Some, sym, ◌∙◌, length, arith}
use Rattle.art_rows.specs.Numbers.{leaf_in, number_after}
use Rattle.art_rows.specs.Rows.{nth}
use Rattle.art_rows.proofs.FilingLemmas.{seen, after_there, if_some}
use Rattle.art_rows.proofs.RowsLemmas.{nth-within}
use Rattle.art_rows.proofs.leaves.Leaves.after_in_row.Goals as goal

pub returns-clause-after : goal.returns-clause-after
returns-clause-after g c =
    let p = c.args.seen in
    let ids = c.in_ok-row.row in
    let there : leaf_in c.self.inside.rows.pairs p.row ≡ Some ids = sym c.get.ensures ∙ c.in_ok-row.was in
    if_some c.after.result (λ n. (nth ids p.index ≡ Some c.args.id) × (nth ids (p.index + 1) ≡ Some n)) (λ n. number_after c.args.self.now.pairs c.args.id ≡ Some n)
    (λ n h. after_there (seen c.self.inside c.self.view_is c.self.invariant) c.args.id n c.requires p ids there h.0 h.1) (c.after.ensures.some)

pub returns-clause-within : goal.returns-clause-within
returns-clause-within g c =
    let p = c.args.seen in
    let ids = c.in_ok-row.row in
    if_some c.after.result (λ n. (nth ids p.index ≡ Some c.args.id) × (nth ids (p.index + 1) ≡ Some n)) (λ _. p.index < 64)
    (λ n h. let w : p.index < length ids = nth-within ids p.index c.args.id h.0 in let l : length ids ≤ 64 = c.len-len.ensures.fits in omega arith) (c.after.ensures.some)
