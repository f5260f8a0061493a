use Rattle.std.proofs.Common.{◌≡◌, ◌<◌, ◌+◌, ◌*◌, get_or, Some, None, sym, ap, ◌∙◌, arith}
use Rattle.art_rows.proofs.OwnedCells.{own_at}
use Rattle.art_rows.proofs.OwnedRows.{prev_now, unused_now, fresh_now, lies_now, owned_placed, begin_now}
use Rattle.art_rows.proofs.rows.Rows.begin.Goals as goal

pub insert-row-requires-clause-prev : goal.insert-row-requires-clause-prev
insert-row-requires-clause-prev c = prev_now c.self.invariant c.self.view_is c.args.prev c.requires.prev

pub new-requires : goal.new-requires
new-requires c =
    let l : c.insert-row.result < c.self.inside.ready = omega (arith, c.insert-row.ensures.below, c.self.invariant.top) in
    let z : 64 * c.insert-row.result ≡ 64 * c.insert-row.result + 0 = omega arith in
    let e : c.read.result ≡ get_or c.self.inside.cells (64 * c.insert-row.result + 0) 0 = c.read.ensures ∙ ap (λ i. get_or c.self.inside.cells i 0) z in
    let s = own_at c.self.invariant.have c.insert-row.result 0 l (omega arith) in
    let o = rw (← e) at s in
    omega (arith, o.below, c.self.invariant.have.long, c.len-len.ensures.len, c.len-len.ensures.small)

pub invariant_of-self : goal.invariant_of-self
invariant_of-self c =
    let l : c.insert-row.result < c.self.inside.ready = omega (arith, c.insert-row.ensures.below, c.self.invariant.top) in
    owned_placed c.self.invariant c.self.inside.cells c.self.inside.owners c.self.invariant.have c.insert-row.new.self c.args.prev c.insert-row.result 1 (prev_now c.self.invariant c.self.view_is c.args.prev c.requires.prev) c.insert-row.ensures.fresh l (omega arith) c.insert-row.ensures.placed c.insert-row.ensures.top

pub returns-clause-rows : goal.returns-clause-rows
returns-clause-rows c =
    let l : c.insert-row.result < c.self.inside.ready = omega (arith, c.insert-row.ensures.below, c.self.invariant.top) in
    let z : 64 * c.insert-row.result ≡ 64 * c.insert-row.result + 0 = omega arith in
    let e : c.new.result ≡ get_or c.self.inside.cells (64 * c.insert-row.result + 0) 0 = c.new.ensures ∙ c.read.ensures ∙ ap (λ i. get_or c.self.inside.cells i 0) z in
    begin_now c.self.invariant c.self.view_is c.insert-row.new.self.pairs c.args.prev c.insert-row.result c.new.result c.insert-row.ensures.placed l e

pub returns-clause-unused : goal.returns-clause-unused
returns-clause-unused c = unused_now c.self.invariant c.self.view_is c.insert-row.result c.insert-row.ensures.fresh

pub returns-clause-fresh : goal.returns-clause-fresh
returns-clause-fresh c =
    let l : c.insert-row.result < c.self.inside.ready = omega (arith, c.insert-row.ensures.below, c.self.invariant.top) in
    let z : 64 * c.insert-row.result ≡ 64 * c.insert-row.result + 0 = omega arith in
    let e : c.new.result ≡ get_or c.self.inside.cells (64 * c.insert-row.result + 0) 0 = c.new.ensures ∙ c.read.ensures ∙ ap (λ i. get_or c.self.inside.cells i 0) z in
    fresh_now c.self.invariant c.self.view_is c.insert-row.result 0 c.new.result l (omega arith) (λ m f. (let g : None ≡ Some m = sym c.insert-row.ensures.fresh ∙ f in absurd cc)) e

pub returns-clause-lies : goal.returns-clause-lies
returns-clause-lies c =
    let l : c.insert-row.result < c.self.inside.ready = omega (arith, c.insert-row.ensures.below, c.self.invariant.top) in
    let z : 64 * c.insert-row.result ≡ 64 * c.insert-row.result + 0 = omega arith in
    let e : c.new.result ≡ get_or c.self.inside.cells (64 * c.insert-row.result + 0) 0 = c.new.ensures ∙ c.read.ensures ∙ ap (λ i. get_or c.self.inside.cells i 0) z in
    lies_now c.self.invariant c.self.view_is c.insert-row.result 0 c.new.result l (omega arith) e
