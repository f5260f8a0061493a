use Rattle.std.proofs.Common.{◌≡◌, List, [], ◌∷◌, length, suc, refl, ap, arith}
use Rattle.blart.specs.Words.{Numbered, pairs, leaves_left}
use Rattle.caller_tests.proofs.visits.sum_within.Goals as goal

-- there are as many pairs without their ids
length_pairs : {K V : Type 0} (left : List (Numbered K V)) → length (pairs left) ≡ length left
unfolding pairs
length_pairs [] = refl
length_pairs (p ∷ left) = ap suc (length_pairs left)

pub returns : goal.returns
returns g c =
    let opened = c.cursor_counted-cursor in
    let same = length_pairs (leaves_left opened.result c.args.store.now) in
    omega (arith, same, ap length opened.ensures.left, opened.ensures.counted, c.in_default.ensures.counted)
