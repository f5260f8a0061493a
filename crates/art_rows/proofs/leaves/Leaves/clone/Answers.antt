use Rattle.std.proofs.Common.{ap, ◌∙◌, arith}
use Rattle.art_slots.specs.Store.{slot_at, used_count}
use Rattle.art_rows.specs.Rows.{numbers}
use Rattle.art_rows.proofs.Copies.{gather-copies, files-copies}
use Rattle.art_rows.proofs.leaves.Leaves.clone.Goals as goal

pub invariant_of-result : goal.invariant_of-result
invariant_of-result g c =
    let bound = c.self.invariant.1 in
    (rw (c.in_ok-clone-2.ensures.same) (files-copies g.K.Clone.is_clone g.V.Clone.is_clone (slot_at c.self.inside.records) (slot_at c.in_ok-clone.field-0) c.in_ok-clone.ensures.cloned c.self.inside.rows.pairs (used_count c.self.inside.records) (used_count c.in_ok-clone.field-0) c.in_ok-clone.ensures.used c.self.invariant.0), omega (arith, c.in_ok-clone-2.ensures.top, c.in_ok-clone.ensures.len))

pub returns : goal.returns
returns g c = record {
  cloned = rw (← c.self.view_is, c.in_ok-clone-2.ensures.same) (gather-copies g.K.Clone.is_clone g.V.Clone.is_clone (slot_at c.self.inside.records) (slot_at c.in_ok-clone.field-0) c.in_ok-clone.ensures.cloned (numbers c.self.inside.rows.pairs));
  rows = c.in_ok-clone-2.ensures.same ∙ ap (λ t. t.rows) c.self.view_is;
  spare_rows = c.in_ok-clone-2.ensures.spare ∙ ap (λ t. t.spare_rows) c.self.view_is;
}
