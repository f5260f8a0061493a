use Rattle.std.proofs.Common.{ap, arith}
use Rattle.art_rows.proofs.FilingLemmas.{seen, all_filed, pairs_are}
use Rattle.art_rows.proofs.Cuts.{cut_row}
use Rattle.art_rows.proofs.leaves.Leaves.cut.Goals as goal

pub cut-requires-clause-full : goal.cut-requires-clause-full
cut-requires-clause-full g c = rw (← ap (λ t. t.rows) c.self.view_is) at c.requires.full

pub invariant_of-self : goal.invariant_of-self
invariant_of-self g c =
    let f = seen c.self.inside c.self.view_is c.self.invariant in
    let full = rw (← ap (λ t. t.rows) c.self.view_is) at c.requires.full in
    let has = rw (← ap (λ t. t.rows) c.self.view_is) at c.requires.has in
    (all_filed c.self.inside.records (cut_row f c.args.row c.cut.result has full c.cut.ensures.unused c.cut.new.self.pairs c.cut.ensures.rows), omega (arith, c.self.invariant.1, c.cut.ensures.top))

pub returns-clause-pairs : goal.returns-clause-pairs
returns-clause-pairs g c =
    let f = seen c.self.inside c.self.view_is c.self.invariant in
    let full = rw (← ap (λ t. t.rows) c.self.view_is) at c.requires.full in
    let has = rw (← ap (λ t. t.rows) c.self.view_is) at c.requires.has in
    pairs_are c.self.inside.records (cut_row f c.args.row c.cut.result has full c.cut.ensures.unused c.cut.new.self.pairs c.cut.ensures.rows)
