use Rattle.std.proofs.Common.{◌≡◌, Some, None, get_or, map, refl, ap, ◌∙◌, arith}
use Rattle.std.proofs.lemmas.List.{map-set, length-set}
use Rattle.art_slots.specs.Table.{held}
use Rattle.art_slots.specs.declared.table.Cell.TheVariants.{Full}
use Rattle.art_slots.proofs.StoreSlots.{one}
use Rattle.art_slots.proofs.Cells.{has_cell, at-held, count-cell}
use Rattle.art_slots.proofs.table.Table.get_mut.Goals as goal

pub invariant_of-self-lent : goal.invariant_of-self-lent
invariant_of-self-lent g c w =
    let xs = c.self.inside.cells.items in
    let l = has_cell xs c.args.id (rw (← c.self.view_is) at c.requires) in
    let was : get_or (map held xs) c.args.id None ≡ Some c.record_mut.result.now = at-held xs c.args.id c.get_mut.result.now l c.get_mut.ensures.value ∙ c.record_mut.ensures.value in
    let k = count-cell xs c.args.id l (Full w) in
    let z : one (get_or (map held xs) c.args.id None) ≡ 1 = ap one was in
    let u = c.self.invariant.0 in
    (omega arith, (let n = c.self.invariant.1 in omega (arith, length-set xs c.args.id (Full w))))

pub returns : goal.returns
returns g c =
    let xs = c.self.inside.cells.items in
    let l = has_cell xs c.args.id (rw (← c.self.view_is) at c.requires) in
    ((refl, λ w. rw (← c.self.view_is, map-set, length-set) refl), record { writes_back = tt; value = rw (← c.self.view_is) (at-held xs c.args.id c.get_mut.result.now l c.get_mut.ensures.value ∙ c.record_mut.ensures.value) })
