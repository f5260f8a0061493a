use Rattle.std.proofs.Common.{ap, arith}
use Rattle.art_rows.proofs.FilingLemmas.{seen, in_rows, row_has, row_filled, located, in_own_row, stands_there}
use Rattle.art_rows.proofs.leaves.Leaves.position_of.Goals as goal

pub row_of-row-requires : goal.row_of-row-requires
row_of-row-requires g c = in_rows (seen c.self.inside c.self.view_is c.self.invariant) c.args.id c.requires

pub read-ids-requires : goal.read-ids-requires
read-ids-requires g c = rw c.row_of-row.ensures (row_has (seen c.self.inside c.self.view_is c.self.invariant) c.args.id c.requires)

pub overflow_sub-last : goal.overflow_sub-last
overflow_sub-last g c =
    let w = row_filled (seen c.self.inside c.self.view_is c.self.invariant) _ _ c.read-ids.ensures in
    omega (arith, w, c.len-last.ensures.len)

pub returns-then-has_at : goal.returns-then-has_at
returns-then-has_at g c =
    rw (← ap (λ t. t.rows) c.self.view_is) (stands_there (seen c.self.inside c.self.view_is c.self.invariant) c.args.id _ _ c.read-ids.ensures (c.has_at.ensures.here c.if-has_at.true))

pub index_of-index-requires : goal.index_of-index-requires
index_of-index-requires g c =
    let f = seen c.self.inside c.self.view_is c.self.invariant in
    in_own_row f c.args.id c.requires _ (rw c.row_of-row.ensures at c.read-ids.ensures)

pub returns : goal.returns
returns g c =
    let f = seen c.self.inside c.self.view_is c.self.invariant in
    rw (← ap (λ t. t.rows) c.self.view_is, c.index_of-index.ensures, c.row_of-row.ensures) (located f c.args.id c.requires _ (rw c.row_of-row.ensures at c.read-ids.ensures))
