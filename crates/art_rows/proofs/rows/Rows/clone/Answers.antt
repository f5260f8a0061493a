use Rattle.art_rows.specs.Cells.{HaveCells}
use Rattle.art_rows.proofs.OwnedRows.{owned_copied}
use Rattle.art_rows.proofs.rows.Rows.clone.Goals as goal

pub invariant_of-result : goal.invariant_of-result
invariant_of-result c =
    let h : HaveCells c.in_ok-clone-2.field-0 c.in_ok-clone-3.field-0 c.self.inside.ready = rw (c.in_ok-clone-2.ensures, c.in_ok-clone-3.ensures) c.self.invariant.have in
    owned_copied c.self.invariant c.in_ok-clone-2.field-0 c.in_ok-clone-3.field-0 h c.in_ok-clone.field-0 c.in_ok-clone.ensures.same c.in_ok-clone.ensures.top
