use Rattle.std.proofs.Common.{◌≡◌, ◌+◌, ◌<◌, ◌≤◌, length, Some, sym, ◌∙◌, arith}
use Rattle.art_rows.proofs.OwnedCells.{own_at, own_moved}
use Rattle.art_rows.proofs.OwnedRows.{has_now, row_inside, row_within, row_length, from_now, to_now, insert_now, fresh_now, lies_now, owned_counted}
use Rattle.art_rows.proofs.rows.Rows.insert.Goals as goal

pub read-count-requires : goal.read-count-requires
read-count-requires c = has_now c.self.invariant c.self.view_is c.args.row c.requires.has

pub read-requires : goal.read-requires
read-requires c =
    let n = c.read-count.result.now in
    let m = from_now c.self.invariant c.self.view_is c.args.row n c.read-count.ensures (λ ids. length ids < 64) c.requires.room in
    omega (arith, row_within c.self.invariant c.self.view_is c.args.row n c.read-count.ensures, row_length c.self.invariant c.self.view_is c.args.row n c.read-count.ensures)

pub new-cell-requires : goal.new-cell-requires
new-cell-requires c =
    let n = c.read-count.result.now in
    let m = from_now c.self.invariant c.self.view_is c.args.row n c.read-count.ensures (λ ids. length ids < 64) c.requires.room in
    let k : n < 64 = omega (arith, row_length c.self.invariant c.self.view_is c.args.row n c.read-count.ensures) in
    let s = own_at c.self.invariant.have c.args.row n (row_inside c.self.invariant c.self.view_is c.args.row n c.read-count.ensures) k in
    let o = rw (← c.read.ensures) at s in
    omega (arith, o.below, c.self.invariant.have.long, c.len-len.ensures.len, c.len-len.ensures.small)

pub move_down-requires-clause-order : goal.move_down-requires-clause-order
move_down-requires-clause-order c =
    let n = c.read-count.result.now in
    let m = from_now c.self.invariant c.self.view_is c.args.row n c.read-count.ensures (λ ids. c.args.index ≤ length ids) c.requires.index in
    omega (arith, row_length c.self.invariant c.self.view_is c.args.row n c.read-count.ensures)

pub move_down-requires-clause-within : goal.move_down-requires-clause-within
move_down-requires-clause-within c =
    let n = c.read-count.result.now in
    let m = from_now c.self.invariant c.self.view_is c.args.row n c.read-count.ensures (λ ids. length ids < 64) c.requires.room in
    omega (arith, row_length c.self.invariant c.self.view_is c.args.row n c.read-count.ensures)

pub invariant_of-self : goal.invariant_of-self
invariant_of-self c =
    let n = c.read-count.result.now in
    let m = from_now c.self.invariant c.self.view_is c.args.row n c.read-count.ensures (λ ids. length ids < 64) c.requires.room in
    let k : n + 1 ≤ 64 = omega (arith, row_length c.self.invariant c.self.view_is c.args.row n c.read-count.ensures) in
    let h = own_moved c.self.inside.cells c.move_down.new.self c.self.inside.owners c.self.inside.ready c.args.row c.self.invariant.have c.move_down.ensures.len c.move_down.ensures.same c.move_down.ensures.others in
    owned_counted c.self.invariant c.move_down.new.self c.self.inside.owners h c.args.row (n + 1) k

pub returns-clause-rows : goal.returns-clause-rows
returns-clause-rows c =
    let n = c.read-count.result.now in
    let m = from_now c.self.invariant c.self.view_is c.args.row n c.read-count.ensures (λ ids. length ids < 64) c.requires.room in
    let p = from_now c.self.invariant c.self.view_is c.args.row n c.read-count.ensures (λ ids. c.args.index ≤ length ids) c.requires.index in
    let l = row_length c.self.invariant c.self.view_is c.args.row n c.read-count.ensures in
    to_now c.self.invariant c.self.view_is c.args.row n c.read-count.ensures _
    (insert_now c.self.invariant c.self.view_is c.args.row n c.read-count.ensures c.move_down.new.self c.args.index c.new-cell.result (omega arith) (omega arith) (c.new-cell.ensures ∙ c.read.ensures) c.move_down.ensures.moved c.move_down.ensures.others)

pub returns-clause-fresh : goal.returns-clause-fresh
returns-clause-fresh c =
    let n = c.read-count.result.now in
    let m = from_now c.self.invariant c.self.view_is c.args.row n c.read-count.ensures (λ ids. length ids < 64) c.requires.room in
    let l = row_length c.self.invariant c.self.view_is c.args.row n c.read-count.ensures in
    fresh_now c.self.invariant c.self.view_is c.args.row n c.new-cell.result (row_inside c.self.invariant c.self.view_is c.args.row n c.read-count.ensures) (omega arith) (λ q f. (let g : Some n ≡ Some q = sym c.read-count.ensures ∙ f in let e : n ≡ q = cc in omega arith)) (c.new-cell.ensures ∙ c.read.ensures)

pub returns-clause-lies : goal.returns-clause-lies
returns-clause-lies c =
    let n = c.read-count.result.now in
    let m = from_now c.self.invariant c.self.view_is c.args.row n c.read-count.ensures (λ ids. length ids < 64) c.requires.room in
    let l = row_length c.self.invariant c.self.view_is c.args.row n c.read-count.ensures in
    lies_now c.self.invariant c.self.view_is c.args.row n c.new-cell.result (row_inside c.self.invariant c.self.view_is c.args.row n c.read-count.ensures) (omega arith) (c.new-cell.ensures ∙ c.read.ensures)
