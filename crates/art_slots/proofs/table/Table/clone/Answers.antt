use Rattle.std.proofs.Common.{map, ◌∙◌, sym, arith}
use Rattle.std.proofs.lemmas.List.Elements.{length_all_zip}
use Rattle.art_slots.specs.Table.{held}
use Rattle.art_slots.proofs.Cells.{copies-held}
use Rattle.art_slots.proofs.Copies.{at-copy, count-copies}
use Rattle.art_slots.proofs.table.Table.clone.Goals as goal

pub invariant_of-result : goal.invariant_of-result
invariant_of-result g c =
    let copies = copies-held g.T.Clone.is_clone c.self.inside.cells.items c.in_ok-clone.field-0.items c.in_ok-clone.ensures in
    (c.self.invariant.0 ∙ sym (count-copies g.T.Clone.is_clone (map held c.self.inside.cells.items) (map held c.in_ok-clone.field-0.items) copies), (let n = c.self.invariant.1 in omega (arith, length_all_zip _ _ _ c.in_ok-clone.ensures)))

pub returns-clause-cloned : goal.returns-clause-cloned
returns-clause-cloned g c j =
    let copies = copies-held g.T.Clone.is_clone c.self.inside.cells.items c.in_ok-clone.field-0.items c.in_ok-clone.ensures in
    rw (← c.self.view_is) (at-copy g.T.Clone.is_clone (map held c.self.inside.cells.items) (map held c.in_ok-clone.field-0.items) copies j)

pub returns-clause-used : goal.returns-clause-used
returns-clause-used g c =
    let copies = copies-held g.T.Clone.is_clone c.self.inside.cells.items c.in_ok-clone.field-0.items c.in_ok-clone.ensures in
    rw (← c.self.view_is) (count-copies g.T.Clone.is_clone (map held c.self.inside.cells.items) (map held c.in_ok-clone.field-0.items) copies)
