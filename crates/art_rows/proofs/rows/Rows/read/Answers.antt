use Rattle.std.proofs.Common.{Some, sym, ap, ◌∙◌, arith}
use Rattle.art_rows.proofs.OwnedCells.{own_once}
use Rattle.art_rows.proofs.OwnedRows.{has_now, row_now, row_inside}
use Rattle.art_rows.proofs.rows.Rows.read.Goals as goal

pub read-requires : goal.read-requires
read-requires c = has_now c.self.invariant c.self.view_is c.args.row c.requires

pub row_at-requires-clause-once : goal.row_at-requires-clause-once
row_at-requires-clause-once c = own_once c.self.invariant.have c.args.row (row_inside c.self.invariant c.self.view_is c.args.row c.read.result.now c.read.ensures)

pub row_at-requires-clause-small : goal.row_at-requires-clause-small
row_at-requires-clause-small c n t =
    let o = c.self.invariant.have.own c.args.row n (row_inside c.self.invariant c.self.view_is c.args.row c.read.result.now c.read.ensures) t in
    omega (arith, o.below, c.self.invariant.have.long, c.len-len.ensures.len, c.len-len.ensures.small)

pub returns : goal.returns
returns c = row_now c.self.invariant c.self.view_is c.args.row c.read.result.now c.read.ensures ∙ ap Some (sym c.row_at.ensures)
