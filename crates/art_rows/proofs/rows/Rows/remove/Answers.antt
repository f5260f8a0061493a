use Rattle.std.proofs.Common.{◌-◌, ◌<◌, length, ap, sym, ◌∙◌, arith}
use Rattle.art_rows.proofs.OwnedCells.{own_moved}
use Rattle.art_rows.proofs.OwnedRows.{has_now, row_length, from_now, to_now, remove_now, without_now, owned_counted, owned_removed}
use Rattle.art_rows.proofs.rows.Rows.remove.Goals as goal

pub read-count-requires : goal.read-count-requires
read-count-requires c = has_now c.self.invariant c.self.view_is c.args.row c.requires.has

pub invariant_of-self : goal.invariant_of-self
invariant_of-self c = owned_removed c.self.invariant c.self.inside.cells c.self.inside.owners c.self.invariant.have c.remove.new.self c.args.row c.remove.ensures.rest c.remove.ensures.top

pub overflow_sub-count : goal.overflow_sub-count
overflow_sub-count c =
    let n = c.read-count.result.now in
    let p = from_now c.self.invariant c.self.view_is c.args.row n c.read-count.ensures (λ ids. c.args.index < length ids) c.requires.within in
    omega (arith, row_length c.self.invariant c.self.view_is c.args.row n c.read-count.ensures)

pub move_up-requires-clause-order : goal.move_up-requires-clause-order
move_up-requires-clause-order c =
    let n = c.read-count.result.now in
    let p = from_now c.self.invariant c.self.view_is c.args.row n c.read-count.ensures (λ ids. c.args.index < length ids) c.requires.within in
    omega (arith, row_length c.self.invariant c.self.view_is c.args.row n c.read-count.ensures)

pub overflow_sub-count-else-count-eq1 : goal.overflow_sub-count-else-count-eq1
overflow_sub-count-else-count-eq1 c =
    let n = c.read-count.result.now in
    let p = from_now c.self.invariant c.self.view_is c.args.row n c.read-count.ensures (λ ids. c.args.index < length ids) c.requires.within in
    omega (arith, row_length c.self.invariant c.self.view_is c.args.row n c.read-count.ensures)

pub invariant_of-self-else-count-eq1 : goal.invariant_of-self-else-count-eq1
invariant_of-self-else-count-eq1 c =
    let n = c.read-count.result.now in
    let k = c.self.invariant.counted c.args.row n c.read-count.ensures in
    let h = own_moved c.self.inside.cells c.move_up.new.self c.self.inside.owners c.self.inside.ready c.args.row c.self.invariant.have c.move_up.ensures.len c.move_up.ensures.same c.move_up.ensures.others in
    owned_counted c.self.invariant c.move_up.new.self c.self.inside.owners h c.args.row (n - 1) (omega arith)

pub returns-then-count-eq1-clause-one : goal.returns-then-count-eq1-clause-one
returns-then-count-eq1-clause-one c =
    let n = c.read-count.result.now in
    to_now c.self.invariant c.self.view_is c.args.row n c.read-count.ensures _ (λ e. without_now c.self.invariant c.self.view_is c.remove.new.self.pairs c.args.row c.remove.ensures.rest)

pub returns-then-count-eq1-clause-more : goal.returns-then-count-eq1-clause-more
returns-then-count-eq1-clause-more c =
    let n = c.read-count.result.now in
    to_now c.self.invariant c.self.view_is c.args.row n c.read-count.ensures _ (λ ne. absurd (ne (row_length c.self.invariant c.self.view_is c.args.row n c.read-count.ensures ∙ c.if-count-eq1.true)))

pub returns-else-count-eq1-clause-one : goal.returns-else-count-eq1-clause-one
returns-else-count-eq1-clause-one c =
    let n = c.read-count.result.now in
    to_now c.self.invariant c.self.view_is c.args.row n c.read-count.ensures _ (λ e. absurd (c.if-count-eq1.false (sym (row_length c.self.invariant c.self.view_is c.args.row n c.read-count.ensures) ∙ e)))

pub returns-else-count-eq1-clause-more : goal.returns-else-count-eq1-clause-more
returns-else-count-eq1-clause-more c =
    let n = c.read-count.result.now in
    let p = from_now c.self.invariant c.self.view_is c.args.row n c.read-count.ensures (λ ids. c.args.index < length ids) c.requires.within in
    let l = row_length c.self.invariant c.self.view_is c.args.row n c.read-count.ensures in
    to_now c.self.invariant c.self.view_is c.args.row n c.read-count.ensures _ (λ ne. remove_now c.self.invariant c.self.view_is c.args.row n c.read-count.ensures c.move_up.new.self c.args.index (omega arith) c.move_up.ensures.moved c.move_up.ensures.others)

pub returns-else-count-eq1-clause-gains : goal.returns-else-count-eq1-clause-gains
returns-else-count-eq1-clause-gains c =
    let n = c.read-count.result.now in
    to_now c.self.invariant c.self.view_is c.args.row n c.read-count.ensures _ (λ e. absurd (c.if-count-eq1.false (sym (row_length c.self.invariant c.self.view_is c.args.row n c.read-count.ensures) ∙ e)))

pub returns-then-count-eq1-clause-keeps : goal.returns-then-count-eq1-clause-keeps
returns-then-count-eq1-clause-keeps c =
    let n = c.read-count.result.now in
    to_now c.self.invariant c.self.view_is c.args.row n c.read-count.ensures _ (λ ne. absurd (ne (row_length c.self.invariant c.self.view_is c.args.row n c.read-count.ensures ∙ c.if-count-eq1.true)))

pub returns-else-count-eq1-clause-keeps : goal.returns-else-count-eq1-clause-keeps
returns-else-count-eq1-clause-keeps c =
    let n = c.read-count.result.now in
    to_now c.self.invariant c.self.view_is c.args.row n c.read-count.ensures _ (λ ne. ap (λ t. t.spare) c.self.view_is)
