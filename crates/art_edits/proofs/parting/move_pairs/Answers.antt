use Rattle.std.proofs.Common.{◌≡◌, ◌+◌, suc, List, [], ◌∷◌, ◌++◌, length, length-append, arith, sym, ap, ◌∙◌, append_assoc}
use Rattle.art_edits.proofs.parting.move_pairs.Goals as goal

pub unreachable-requires : goal.unreachable-requires
unreachable-requires g c =
    let none = ap (λ (l : List _). length l) c.in_default.ensures.0 in
    absurd (omega (arith, none, c.loop.invariant.enough, c.loop-test.true))

pub loop-preserved : goal.loop-preserved
loop-preserved g c =
    let i = c.loop.invariant in
    let rest = c.take_first.new.self.pairs in
    let moved = c.loop.to.pairs in
    let x : g.row.K.Denot × g.row.V.Denot = (c.in-Some.key, c.in-Some.value) in
    let taken = c.in-Some.ensures in
    let back = c.push.ensures.pushed in
    let one : length c.push.new.self.pairs ≡ length moved + 1 = ap (λ (l : List _). length l) back ∙ length-append moved (x ∷ []) in
    let less : length c.loop.from.pairs ≡ suc (length rest) = ap (λ (l : List _). length l) taken in
    record {
      whole = i.whole ∙ ap (λ l. moved ++ l) taken ∙ sym (append_assoc moved (x ∷ []) rest) ∙ ap (λ l. l ++ rest) (sym back);
      moved = omega (arith, one, i.moved);
      enough = omega (arith, less, i.enough);
      room = omega (arith, c.push.ensures.room, i.room);
    }
