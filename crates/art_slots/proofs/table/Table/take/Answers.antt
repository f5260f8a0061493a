use Rattle.std.proofs.Common.{◌≡◌, Some, None, get_or, map, ap, sym, ◌∙◌, arith}
use Rattle.std.proofs.lemmas.List.{length-set}
use Rattle.art_slots.specs.Table.{held}
use Rattle.art_slots.specs.declared.table.Cell.TheVariants.{Empty}
use Rattle.art_slots.proofs.StoreSlots.{one}
use Rattle.art_slots.proofs.Cells.{has_cell, at-held, now-cell, others-cell, count-cell}
use Rattle.art_slots.proofs.table.Table.take.Goals as goal

pub invariant_of-self : goal.invariant_of-self
invariant_of-self g c =
    let xs = c.self.inside.cells.items in
    let l = has_cell xs c.args.id (rw (← c.self.view_is) at c.requires) in
    let was : get_or (map held xs) c.args.id None ≡ Some c.in-Full.record = at-held xs c.args.id c.get_mut.result.now l c.get_mut.ensures.value ∙ ap held (sym c.replace.ensures.value ∙ c.in-Full.is) in
    let k = count-cell xs c.args.id l Empty in
    let z : one (get_or (map held xs) c.args.id None) ≡ 1 = ap one was in
    let u = c.self.invariant.0 in
    rw c.replace.ensures.after (omega arith, (let n = c.self.invariant.1 in omega (arith, length-set xs c.args.id Empty)))

pub returns-clause-gone : goal.returns-clause-gone
returns-clause-gone g c =
    let l = has_cell c.self.inside.cells.items c.args.id (rw (← c.self.view_is) at c.requires) in
    rw c.replace.ensures.after (now-cell c.self.inside.cells.items c.args.id l Empty)

pub returns-clause-others : goal.returns-clause-others
returns-clause-others g c =
    let l = has_cell c.self.inside.cells.items c.args.id (rw (← c.self.view_is) at c.requires) in
    rw (← c.self.view_is) (others-cell c.self.inside.cells.items c.args.id l c.replace.new.dest)

pub returns-clause-used : goal.returns-clause-used
returns-clause-used g c =
    let xs = c.self.inside.cells.items in
    let l = has_cell xs c.args.id (rw (← c.self.view_is) at c.requires) in
    let was : get_or (map held xs) c.args.id None ≡ Some c.in-Full.record = at-held xs c.args.id c.get_mut.result.now l c.get_mut.ensures.value ∙ ap held (sym c.replace.ensures.value ∙ c.in-Full.is) in
    let k = count-cell xs c.args.id l Empty in
    let z : one (get_or (map held xs) c.args.id None) ≡ 1 = ap one was in
    rw (← c.self.view_is, c.replace.ensures.after) (omega arith)
