use Rattle.std.proofs.Common.{◌≡◌, ℕ, suc, List, [], ◌∷◌, ◌++◌, ◌+◌, ◌-◌, ◌<◌, ◌≤◌, length, take, drop, set, refl, ap, sym, append_assoc, ◌∙◌, arith}
use Rattle.std.proofs.Math.Seq.{take-append-add}
use Rattle.std.proofs.lemmas.List.{take-take, length-take-le, length-set, length-drop, take_more_set}
use Rattle.std.proofs.lemmas.Slice.{take-put_mid}
use borrow.Rule.Slice.PartMut.{put_mid}
use Rattle.art_kinds.proofs.records.nodes.append.Goals as goal

take_after : (xs ys : List ℕ) (a n : ℕ) → length xs ≡ a → take (a + n) (xs ++ ys) ≡ xs ++ take n ys
take_after xs ys a n e = ap (λ (k : ℕ). take (k + n) (xs ++ ys)) (sym e) ∙ take-append-add xs ys n

-- a byte was written after the first `used` bytes, and other bytes after it
written : (to ys rest : List ℕ) (used n b k : ℕ) → used < length to → n ≤ length ys → take n ys ≡ take (length to - (used + 1)) rest → take (used + 1 + n) (put_mid (used + 1) k (set to used b) ys) ≡ take (length to) (take used to ++ b ∷ rest)
written to ys rest used n b k lt le e =
    let xs : List ℕ = set to used b in
    let l : length (set to used b) ≡ length to = length-set to used b in
    let m : used + suc (length to - (used + 1)) ≡ length to = omega arith in
    let front : take (used + 1) (set to used b) ≡ take used to ++ b ∷ [] = take_more_set to used b lt in
    sym (take-take (used + 1 + n) (used + 1 + length ys) (put_mid (used + 1) k (set to used b) ys) (omega arith))
    ∙ ap (λ (t : List ℕ). take (used + 1 + n) t) (take-put_mid (used + 1) k (set to used b) ys (used + 1 + length ys) refl (omega arith))
    ∙ take_after (take (used + 1) (set to used b)) ys (used + 1) n (length-take-le (used + 1) (set to used b) (omega arith))
    ∙ ap (λ (t : List ℕ). t ++ take n ys) front
    ∙ append_assoc (take used to) (b ∷ []) (take n ys)
    ∙ ap (λ (t : List ℕ). take used to ++ b ∷ t) e
    ∙ sym (ap (λ (i : ℕ). take i (take used to ++ b ∷ rest)) (sym m) ∙ take_after (take used to) (b ∷ rest) used (suc (length to - (used + 1))) (length-take-le used to (omega arith)))

pub returns-clause-appended : goal.returns-clause-appended
returns-clause-appended c =
    let to = c.args.to.now in
    let i = c.args.used in
    let xs = set to i c.args.byte in
    let lt : i < length to = omega (arith, c.if-used-to.false, c.requires) in
    let l : length xs ≡ length to = length-set to i c.args.byte in
    let d : length (drop (i + 1) xs) ≡ length xs - (i + 1) = length-drop (i + 1) xs in
    let w : length (take (length xs - (i + 1)) (drop (i + 1) xs)) ≡ length to - (i + 1) = length-take-le (length xs - (i + 1)) (drop (i + 1) xs) (omega arith) ∙ ap (λ (n : ℕ). n - (i + 1)) l in
    written to c.copy_front.new.to c.args.rest.now i c.copy_front.result c.args.byte _ lt (omega (arith, c.copy_front.ensures.within, c.copy_front.auto.to))
    (c.copy_front.ensures.copied ∙ ap (λ (n : ℕ). take n c.args.rest.now) w)
