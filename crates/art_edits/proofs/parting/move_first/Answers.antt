use Rattle.std.proofs.Common.{◌≡◌, ◌<◌, ◌+◌, List, [], ◌∷◌, ◌++◌, length, length-append, lit<, arith, sym, ap, ◌∙◌, append_assoc}
use Rattle.blart_keys.specs.Steps.{bytes}
use Rattle.blart_keys.proofs.Mapped.{content_map}
use Rattle.art_tree.specs.Content.{room}
use Rattle.art_tree.specs.Pairs.{pairs_of}
use Rattle.art_tree.proofs.CallerLemmas.{length-without_number, Has-first, no_first}
use Rattle.art_edits.proofs.Placed.Inserting.{alone_no_conflict, alone_absent}
use Rattle.art_edits.proofs.Moved.Moving.{first_moved, after_unrelated, put_back}
use Rattle.art_edits.proofs.parting.move_first.Goals as goal

pub unreachable-requires : goal.unreachable-requires
unreachable-requires g c =
    let none = ap (λ (l : List _). length l) (no_first c.loop.from.pairs (sym c.in_default.ensures)) in
    absurd (omega (arith, none, c.loop.invariant.enough, c.loop-test.true))

pub remove-key-requires : goal.remove-key-requires
remove-key-requires g c = (lit< tt, Has-first c.loop.from.pairs c.in-Some.id (sym c.in-Some.ensures))

pub place_reserved-requires : goal.place_reserved-requires
place_reserved-requires g c =
    let kb = g.K.AsBytes.bytes in
    let ps = c.loop.from.pairs in
    let rest = pairs_of c.remove-key.new.self.pairs in
    let moved = pairs_of c.loop.to.pairs in
    let x = c.remove-key.result in
    let step = first_moved (bytes kb) (pairs_of c.args.from.now.pairs) moved ps c.remove-key.new.self.pairs c.in-Some.id x (content_map (λ p. p.1) (bytes kb) c.args.from.now.pairs c.law.ensures.content) c.loop.invariant.whole (sym c.in-Some.ensures) c.remove-key.ensures.value c.remove-key.ensures.rest in
    let alone = after_unrelated (bytes kb) moved rest x step.1 in
    let room : 0 < room c.loop.to = omega (arith, c.loop.invariant.room, c.loop-test.true) in
    (lit< tt, (alone_absent (bytes kb) moved (kb x.0) alone, (alone_no_conflict (bytes kb) moved (kb x.0) alone, room)))

pub loop-preserved : goal.loop-preserved
loop-preserved g c =
    let kb = g.K.AsBytes.bytes in
    let ps = c.loop.from.pairs in
    let rest = pairs_of c.remove-key.new.self.pairs in
    let moved = pairs_of c.loop.to.pairs in
    let x = c.remove-key.result in
    let step = first_moved (bytes kb) (pairs_of c.args.from.now.pairs) moved ps c.remove-key.new.self.pairs c.in-Some.id x (content_map (λ p. p.1) (bytes kb) c.args.from.now.pairs c.law.ensures.content) c.loop.invariant.whole (sym c.in-Some.ensures) c.remove-key.ensures.value c.remove-key.ensures.rest in
    let back : pairs_of c.place_reserved.new.tree.pairs ≡ moved ++ x ∷ [] = put_back (bytes kb) moved rest x step.1 (pairs_of c.place_reserved.new.tree.pairs) c.place_reserved.ensures.put in
    let one : length (pairs_of c.place_reserved.new.tree.pairs) ≡ length moved + 1 = ap (λ (l : List _). length l) back ∙ length-append moved (x ∷ []) in
    let less : length c.remove-key.new.self.pairs + 1 ≡ length ps = ap (λ (l : List _). length l + 1) c.remove-key.ensures.rest ∙ length-without_number ps c.in-Some.id (Has-first ps c.in-Some.id (sym c.in-Some.ensures)) in
    record {
      whole = step.0 ∙ sym (append_assoc moved (x ∷ []) rest) ∙ ap (λ l. l ++ rest) (sym back);
      moved = omega (arith, one, c.loop.invariant.moved);
      enough = omega (arith, less, c.loop.invariant.enough);
      room = omega (arith, c.place_reserved.ensures.room, c.loop.invariant.room);
    }
