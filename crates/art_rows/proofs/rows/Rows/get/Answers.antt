use Rattle.std.proofs.Common.{Some, sym, ap, ◌∙◌, arith}
use Rattle.art_rows.proofs.OwnedCells.{own_once}
use Rattle.art_rows.proofs.OwnedRows.{unused_now, row_now, row_inside}
use Rattle.art_rows.proofs.rows.Rows.get.Goals as goal

pub returns-in_err-count : goal.returns-in_err-count
returns-in_err-count c = c.from_residual.ensures ∙ sym (unused_now c.self.invariant c.self.view_is c.args.row (sym c.in_err-count.ensures))

pub row_at-requires-clause-once : goal.row_at-requires-clause-once
row_at-requires-clause-once c = own_once c.self.invariant.have c.args.row (row_inside c.self.invariant c.self.view_is c.args.row c.in_ok-count.field-0.now (sym c.in_ok-count.ensures))

pub row_at-requires-clause-small : goal.row_at-requires-clause-small
row_at-requires-clause-small c n t =
    let o = c.self.invariant.have.own c.args.row n (row_inside c.self.invariant c.self.view_is c.args.row c.in_ok-count.field-0.now (sym c.in_ok-count.ensures)) t in
    omega (arith, o.below, c.self.invariant.have.long, c.len-len.ensures.len, c.len-len.ensures.small)

pub returns : goal.returns
returns c = ap Some c.row_at.ensures ∙ sym (row_now c.self.invariant c.self.view_is c.args.row c.in_ok-count.field-0.now (sym c.in_ok-count.ensures))
