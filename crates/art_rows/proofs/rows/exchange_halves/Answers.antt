use Rattle.std.proofs.Common.{◌≡◌, ◌+◌, ◌-◌, ◌*◌, ◌++◌, length, take, drop, refl, sym, ap, ◌∙◌, arith}
use Rattle.std.proofs.lemmas.List.{length-set, length-drop, length-take-le, take-append-drop, take_all}
use Rattle.art_slots.specs.Words.{block_at}
use Rattle.art_slots.proofs.BlocksOf.{length-block}
use Rattle.art_rows.proofs.OwnedCells.{own_long}
use Rattle.art_rows.proofs.Exchanges.{index_below, mixed_all, step_own, step_rows, step_row, step_new}
use Rattle.art_rows.proofs.rows.exchange_halves.Goals as goal

pub loop-index-init : goal.loop-index-init
loop-index-init c = record { row = sym (take-append-drop 32 (block_at c.args.cells.now c.args.row)); new = refl; rows = λ j a b. refl; own = λ ready a b h. h }

pub read-moves-requires : goal.read-moves-requires
read-moves-requires c =
    let o = c.requires.own in
    let h = c.loop-index.invariant.own o.0 o.1 o.2 o.3 in
    omega (arith, own_long h c.args.row o.1)

pub read-other-requires : goal.read-other-requires
read-other-requires c =
    let o = c.requires.own in
    let h = c.loop-index.invariant.own o.0 o.1 o.2 o.3 in
    omega (arith, own_long h c.args.new o.2)

pub write-requires-clause-within : goal.write-requires-clause-within
write-requires-clause-within c =
    let o = c.requires.own in
    let h = c.loop-index.invariant.own o.0 o.1 o.2 o.3 in
    omega (arith, own_long h c.args.row o.1)

pub write-requires-clause-small : goal.write-requires-clause-small
write-requires-clause-small c =
    let o = c.requires.own in
    let h = c.loop-index.invariant.own o.0 o.1 o.2 o.3 in
    omega (arith, h.long, index_below h c.args.new c.loop-index.index (64 * c.args.new + c.loop-index.index) c.read-other.result o.2 (omega arith) refl c.read-other.ensures)

pub write-requires-in-loop-index-clause-within : goal.write-requires-in-loop-index-clause-within
write-requires-in-loop-index-clause-within c =
    let o = c.requires.own in
    let h = c.loop-index.invariant.own o.0 o.1 o.2 o.3 in
    let l : length c.write.new.self ≡ length c.loop-index.cells = ap length c.write.ensures ∙ length-set c.loop-index.cells _ _ in
    omega (arith, own_long h c.args.new o.2)

pub write-requires-in-loop-index-clause-small : goal.write-requires-in-loop-index-clause-small
write-requires-in-loop-index-clause-small c =
    let o = c.requires.own in
    let h = c.loop-index.invariant.own o.0 o.1 o.2 o.3 in
    let l : length c.write.new.self ≡ length c.loop-index.cells = ap length c.write.ensures ∙ length-set c.loop-index.cells _ _ in
    omega (arith, h.long, index_below h c.args.row (32 + c.loop-index.index) (64 * c.args.row + 32 + c.loop-index.index) c.read-moves.result o.1 (omega arith) (omega arith) c.read-moves.ensures)

pub write-requires-in-loop-index-2-clause-within : goal.write-requires-in-loop-index-2-clause-within
write-requires-in-loop-index-2-clause-within c =
    let o = c.requires.own in
    let h = c.loop-index.invariant.own o.0 o.1 o.2 o.3 in
    omega (arith, h.wide, index_below h c.args.row (32 + c.loop-index.index) (64 * c.args.row + 32 + c.loop-index.index) c.read-moves.result o.1 (omega arith) (omega arith) c.read-moves.ensures)

pub write-requires-in-loop-index-2-clause-small : goal.write-requires-in-loop-index-2-clause-small
write-requires-in-loop-index-2-clause-small c =
    let o = c.requires.own in
    let h = c.loop-index.invariant.own o.0 o.1 o.2 o.3 in
    omega (arith, h.wide, o.2)

pub write-requires-in-loop-index-3-clause-within : goal.write-requires-in-loop-index-3-clause-within
write-requires-in-loop-index-3-clause-within c =
    let o = c.requires.own in
    let h = c.loop-index.invariant.own o.0 o.1 o.2 o.3 in
    let l : length c.write-in-loop-index-2.new.self ≡ length c.loop-index.owners = ap length c.write-in-loop-index-2.ensures ∙ length-set c.loop-index.owners _ _ in
    omega (arith, h.wide, index_below h c.args.new c.loop-index.index (64 * c.args.new + c.loop-index.index) c.read-other.result o.2 (omega arith) refl c.read-other.ensures)

pub write-requires-in-loop-index-3-clause-small : goal.write-requires-in-loop-index-3-clause-small
write-requires-in-loop-index-3-clause-small c =
    let o = c.requires.own in
    let h = c.loop-index.invariant.own o.0 o.1 o.2 o.3 in
    let l : length c.write-in-loop-index-2.new.self ≡ length c.loop-index.owners = ap length c.write-in-loop-index-2.ensures ∙ length-set c.loop-index.owners _ _ in
    omega (arith, h.wide, o.1)

pub loop-index-preserved : goal.loop-index-preserved
loop-index-preserved c =
    let o = c.requires.own in
    let i = c.loop-index.invariant in
    let h = i.own o.0 o.1 o.2 o.3 in
    let b = block_at c.args.cells.now c.args.row in
    let ns = block_at c.args.cells.now c.args.new in
    let bl = length-block c.args.cells.now c.args.row (own_long o.3 c.args.row o.1) in
    let nl = length-block c.args.cells.now c.args.new (own_long o.3 c.args.new o.2) in
    let ul : length (drop 32 b) ≡ length b - 32 = length-drop 32 b in
    let fl : length (take 32 b) ≡ 32 = length-take-le 32 b (omega arith) in
    record {
      row = step_row c.loop-index.cells c.loop-index.owners o.0 c.args.row c.args.new c.loop-index.index h o.1 o.2 c.requires.other (omega arith) c.read-moves.result c.read-other.result c.read-moves.ensures c.read-other.ensures c.write.new.self c.write-in-loop-index.new.self c.write-in-loop-index-2.new.self c.write-in-loop-index-3.new.self c.write.ensures c.write-in-loop-index.ensures c.write-in-loop-index-2.ensures c.write-in-loop-index-3.ensures (take 32 b) (drop 32 b) ns fl (omega arith) (omega arith) i.row i.new;
      new = step_new c.loop-index.cells c.loop-index.owners o.0 c.args.row c.args.new c.loop-index.index h o.1 o.2 c.requires.other (omega arith) c.read-moves.result c.read-other.result c.read-moves.ensures c.read-other.ensures c.write.new.self c.write-in-loop-index.new.self c.write-in-loop-index-2.new.self c.write-in-loop-index-3.new.self c.write.ensures c.write-in-loop-index.ensures c.write-in-loop-index-2.ensures c.write-in-loop-index-3.ensures (take 32 b) (drop 32 b) ns fl (omega arith) (omega arith) i.row i.new;
      rows = λ j p q. step_rows c.loop-index.cells c.loop-index.owners o.0 c.args.row c.args.new c.loop-index.index h o.1 o.2 c.requires.other (omega arith) c.read-moves.result c.read-other.result c.read-moves.ensures c.read-other.ensures c.write.new.self c.write-in-loop-index.new.self c.write-in-loop-index-2.new.self c.write-in-loop-index-3.new.self c.write.ensures c.write-in-loop-index.ensures c.write-in-loop-index-2.ensures c.write-in-loop-index-3.ensures j p q ∙ i.rows j p q;
      own = λ ready p q g. step_own c.loop-index.cells c.loop-index.owners ready c.args.row c.args.new c.loop-index.index (i.own ready p q g) p q c.requires.other (omega arith) c.read-moves.result c.read-other.result c.read-moves.ensures c.read-other.ensures c.write.new.self c.write-in-loop-index.new.self c.write-in-loop-index-2.new.self c.write-in-loop-index-3.new.self c.write.ensures c.write-in-loop-index.ensures c.write-in-loop-index-2.ensures c.write-in-loop-index-3.ensures;
    }

pub returns-clause-row : goal.returns-clause-row
returns-clause-row c =
    let o = c.requires.own in
    let b = block_at c.args.cells.now c.args.row in
    let bl = length-block c.args.cells.now c.args.row (own_long o.3 c.args.row o.1) in
    let ul : length (drop 32 b) ≡ length b - 32 = length-drop 32 b in
    c.loop-index.invariant.row ∙ ap (λ l. take 32 b ++ l) (mixed_all (block_at c.args.cells.now c.args.new) (drop 32 b) c.loop-index.index 32 (omega arith) (omega arith))

pub returns-clause-new : goal.returns-clause-new
returns-clause-new c =
    let o = c.requires.own in
    let b = block_at c.args.cells.now c.args.row in
    let bl = length-block c.args.cells.now c.args.row (own_long o.3 c.args.row o.1) in
    let ul : length (drop 32 b) ≡ length b - 32 = length-drop 32 b in
    let e : c.loop-index.index ≡ 32 = omega arith in
    c.loop-index.invariant.new ∙ rw (e, take_all 32 (drop 32 b) (omega arith)) refl
