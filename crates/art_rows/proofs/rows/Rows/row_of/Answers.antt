use Rattle.std.proofs.Common.{get_or, ap, ◌∙◌, arith}
use Rattle.art_rows.proofs.OwnedRows.{owner_now}
use Rattle.art_rows.proofs.rows.Rows.row_of.Goals as goal

pub read-requires : goal.read-requires
read-requires c =
    let w = owner_now c.self.invariant c.self.view_is c.args.cell c.requires in
    omega (arith, w.below, c.self.invariant.have.wide)

pub returns : goal.returns
returns c =
    let w = owner_now c.self.invariant c.self.view_is c.args.cell c.requires in
    c.read.ensures ∙ ap (λ n. get_or c.self.inside.owners n 0) c.number.ensures.value ∙ w.owner
