use Rattle.std.proofs.Common.{◌≡◌, None, get_or, map, ap, arith}
use Rattle.std.proofs.lemmas.List.{length-set}
use Rattle.art_slots.specs.Table.{held}
use Rattle.art_slots.specs.declared.table.Cell.TheVariants.{Full}
use Rattle.art_slots.proofs.StoreSlots.{one}
use Rattle.art_slots.proofs.Cells.{cell_below, now-cell, others-cell, count-cell}
use Rattle.art_slots.proofs.table.Table.put.Goals as goal

pub invariant_of-self : goal.invariant_of-self
invariant_of-self g c =
    let xs = c.self.inside.cells.items in
    let l = cell_below xs c.args.id (rw (← c.self.view_is) at c.requires.within) in
    let none : get_or (map held xs) c.args.id None ≡ None = rw (← c.self.view_is) at c.requires.empty in
    let k = count-cell xs c.args.id l (Full c.args.fresh) in
    let z : one (get_or (map held xs) c.args.id None) ≡ 0 = ap one none in
    let u = c.self.invariant.0 in
    (omega arith, (let n = c.self.invariant.1 in omega (arith, length-set xs c.args.id (Full c.args.fresh))))

pub returns-clause-now : goal.returns-clause-now
returns-clause-now g c = now-cell c.self.inside.cells.items c.args.id (cell_below c.self.inside.cells.items c.args.id (rw (← c.self.view_is) at c.requires.within)) (Full c.args.fresh)

pub returns-clause-others : goal.returns-clause-others
returns-clause-others g c = rw (← c.self.view_is) (others-cell c.self.inside.cells.items c.args.id (cell_below c.self.inside.cells.items c.args.id (rw (← c.self.view_is) at c.requires.within)) (Full c.args.fresh))

pub returns-clause-used : goal.returns-clause-used
returns-clause-used g c =
    let xs = c.self.inside.cells.items in
    let l = cell_below xs c.args.id (rw (← c.self.view_is) at c.requires.within) in
    let none : get_or (map held xs) c.args.id None ≡ None = rw (← c.self.view_is) at c.requires.empty in
    let k = count-cell xs c.args.id l (Full c.args.fresh) in
    let z : one (get_or (map held xs) c.args.id None) ≡ 0 = ap one none in
    rw (← c.self.view_is) (omega arith)
