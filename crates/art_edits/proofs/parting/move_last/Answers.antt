use Rattle.std.proofs.Common.{◌≡◌, ◌<◌, ◌+◌, suc, List, [], ◌∷◌, ◌++◌, length, lit<, arith, sym, ap, ◌∙◌, subst, append_assoc}
use Rattle.blart_keys.specs.Content.{IsContent}
use Rattle.blart_keys.specs.Steps.{bytes}
use Rattle.blart_keys.proofs.Mapped.{content_map}
use Rattle.art_tree.specs.Content.{room}
use Rattle.art_tree.specs.Pairs.{pairs_of}
use Rattle.art_tree.proofs.CallerLemmas.{length-without_number, Has-last, no_last}
use Rattle.art_edits.proofs.Placed.Inserting.{alone_no_conflict, alone_absent}
use Rattle.art_edits.proofs.Moved.Moving.{before_unrelated, put_front}
use Rattle.art_edits.proofs.Numbers.{last_pair}
use Rattle.art_edits.proofs.parting.move_last.Goals as goal

pub unreachable-requires : goal.unreachable-requires
unreachable-requires g c =
    let none = ap (λ (l : List _). length l) (no_last c.loop.from.pairs (sym c.in_default.ensures)) in
    absurd (omega (arith, none, c.loop.invariant.enough, c.loop-test.true))

pub remove-key-requires : goal.remove-key-requires
remove-key-requires g c = (lit< tt, Has-last c.loop.from.pairs c.in-Some.id (sym c.in-Some.ensures))

pub place_reserved-requires : goal.place_reserved-requires
place_reserved-requires g c =
    let kb = g.K.AsBytes.bytes in
    let ps = c.loop.from.pairs in
    let rest = pairs_of c.remove-key.new.self.pairs in
    let moved = pairs_of c.loop.to.pairs in
    let x = c.remove-key.result in
    let last = last_pair ps c.in-Some.id x c.law-in-loop.ensures.distinct (sym c.in-Some.ensures) c.remove-key.ensures.value ∙ ap (λ l. pairs_of l ++ x ∷ []) (sym c.remove-key.ensures.rest) in
    let whole = c.loop.invariant.whole ∙ ap (λ l. l ++ moved) last ∙ append_assoc rest (x ∷ []) moved in
    let content = subst (IsContent (bytes kb)) whole (content_map (λ p. p.1) (bytes kb) c.args.from.now.pairs c.law.ensures.content) in
    let alone = before_unrelated (bytes kb) rest moved x content in
    let room : 0 < room c.loop.to = omega (arith, c.loop.invariant.room, c.loop-test.true) in
    (lit< tt, (alone_absent (bytes kb) moved (kb x.0) alone, (alone_no_conflict (bytes kb) moved (kb x.0) alone, room)))

pub loop-preserved : goal.loop-preserved
loop-preserved g c =
    let kb = g.K.AsBytes.bytes in
    let ps = c.loop.from.pairs in
    let rest = pairs_of c.remove-key.new.self.pairs in
    let moved = pairs_of c.loop.to.pairs in
    let x = c.remove-key.result in
    let last = last_pair ps c.in-Some.id x c.law-in-loop.ensures.distinct (sym c.in-Some.ensures) c.remove-key.ensures.value ∙ ap (λ l. pairs_of l ++ x ∷ []) (sym c.remove-key.ensures.rest) in
    let whole = c.loop.invariant.whole ∙ ap (λ l. l ++ moved) last ∙ append_assoc rest (x ∷ []) moved in
    let content = subst (IsContent (bytes kb)) whole (content_map (λ p. p.1) (bytes kb) c.args.from.now.pairs c.law.ensures.content) in
    let front : pairs_of c.place_reserved.new.tree.pairs ≡ x ∷ moved = put_front (bytes kb) rest moved x content (pairs_of c.place_reserved.new.tree.pairs) c.place_reserved.ensures.put in
    let one : length (pairs_of c.place_reserved.new.tree.pairs) ≡ suc (length moved) = ap (λ (l : List _). length l) front in
    let less : length c.remove-key.new.self.pairs + 1 ≡ length ps = ap (λ (l : List _). length l + 1) c.remove-key.ensures.rest ∙ length-without_number ps c.in-Some.id (Has-last ps c.in-Some.id (sym c.in-Some.ensures)) in
    record {
      whole = whole ∙ ap (λ l. rest ++ l) (sym front);
      moved = omega (arith, one, c.loop.invariant.moved);
      enough = omega (arith, less, c.loop.invariant.enough);
      room = omega (arith, c.place_reserved.ensures.room, c.loop.invariant.room);
    }
