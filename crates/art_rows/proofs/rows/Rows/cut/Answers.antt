use Rattle.std.proofs.Common.{◌≡◌, ◌<◌, Some, length, map, ap, ◌∙◌, arith}
use Rattle.art_rows.specs.Numbers.{with_pair}
use Rattle.art_rows.specs.Cells.{cells_of}
use Rattle.art_rows.proofs.OwnedRows.{has_now, count_of, has_placed, has_not_none, unused_now, row_length, from_now, to_now, cut_now, owned_placed, owned_counted}
use Rattle.art_rows.proofs.rows.Rows.cut.Goals as goal

pub insert-new-requires-clause-prev : goal.insert-new-requires-clause-prev
insert-new-requires-clause-prev c = has_now c.self.invariant c.self.view_is c.args.row c.requires.has

pub get_mut-requires : goal.get_mut-requires
get_mut-requires c =
    let h = has_now c.self.invariant c.self.view_is c.args.row c.requires.has in
    has_placed c.self.inside.counts.pairs c.insert-new.new.self.pairs (Some c.args.row) (c.insert-new.result, 32) c.args.row c.insert-new.ensures.placed h c.insert-new.ensures.fresh h

pub exchange_halves-requires-clause-other : goal.exchange_halves-requires-clause-other
exchange_halves-requires-clause-other c = has_not_none c.self.inside.counts.pairs c.args.row c.insert-new.result (has_now c.self.invariant c.self.view_is c.args.row c.requires.has) c.insert-new.ensures.fresh

pub invariant_of-self : goal.invariant_of-self
invariant_of-self c =
    let v = c.self.invariant in
    let i = c.self.inside in
    let h = has_now v c.self.view_is c.args.row c.requires.has in
    let l : c.insert-new.result < i.ready = omega (arith, c.insert-new.ensures.below, v.top) in
    let o = owned_placed v i.cells i.owners v.have c.insert-new.new.self (Some c.args.row) c.insert-new.result 32 h c.insert-new.ensures.fresh l (omega arith) c.insert-new.ensures.placed c.insert-new.ensures.top in
    let g = c.exchange_halves.ensures.own i.ready (v.inside c.args.row h) l v.have in
    owned_counted o c.exchange_halves.new.cells c.exchange_halves.new.owners g c.args.row 32 (omega arith)

pub returns-clause-rows : goal.returns-clause-rows
returns-clause-rows c =
    let v = c.self.invariant in
    let i = c.self.inside in
    let w = c.self.view_is in
    let r = c.args.row in
    let n = count_of i.counts.pairs r (has_now v w r c.requires.has) in
    let f = from_now v w r n.0 n.1 (λ ids. length ids ≡ 64) c.requires.full in
    let k = row_length v w r n.0 n.1 in
    to_now v w r n.0 n.1 _
    (ap (λ ps. map (cells_of c.exchange_halves.new.cells) (with_pair ps r 32)) c.insert-new.ensures.placed
    ∙ cut_now v w r n.0 n.1 c.exchange_halves.new.cells c.insert-new.result (omega arith) c.insert-new.ensures.fresh c.exchange_halves.ensures.row c.exchange_halves.ensures.new c.exchange_halves.ensures.rows)

pub returns-clause-unused : goal.returns-clause-unused
returns-clause-unused c = unused_now c.self.invariant c.self.view_is c.insert-new.result c.insert-new.ensures.fresh
