-- A number that is moved within a list, and the numbers between its places.
use Rattle.std.proofs.Common.{◌≡◌, ℕ, suc, ◌+◌, ◌-◌, ◌*◌, ◌^◌, ◌<◌, ◌≤◌, List, [], ◌∷◌, ◌++◌, length, take, drop, get_or, eqb, cond, sum_by, refl, sym, ap, ◌∙◌, append_assoc, arith}
use Rattle.std.proofs.lemmas.List.{take_at, drop_at, take-take, take-append-drop, drop-take, drop-drop, drop_more, take_more, get_or-drop, length-take-le, length-drop, length-append}
use Rattle.std.proofs.lemmas.List.Folds.{drop_split}
use Rattle.std.proofs.lemmas.List.Sums.{sum_by-append}
use borrow.Rule.Slice.PartMut.{put_mid, mid_of}
use Rattle.art_slots.specs.Words.{numbers, block_at, times, moved_down, moved_up}
use Rattle.art_slots.proofs.Numbers.{length-numbers, at-both, numbers-low, numbers-take, numbers-drop, numbers-block, numbers-append}
use Rattle.art_slots.proofs.Blocks.{block-past}
use Rattle.art_slots.proofs.BlocksOf.{length-block}

-- the numbers between two places, counted from the first of them
between_places : (ns : List ℕ) (a b : ℕ) → a ≤ b → drop a (take b ns) ≡ take (b - a) (drop a ns)
between_places ns a b le =
    let e : a + (b - a) ≡ b = omega arith in
    ap (λ n. drop a (take n ns)) (sym e) ∙ drop-take a (b - a) ns

-- how many numbers are between two places
length-between : (ns : List ℕ) (a b : ℕ) → a ≤ b → b ≤ length ns → length (drop a (take b ns)) ≡ b - a
length-between ns a b le within =
    let t : length (take b ns) ≡ b = length-take-le b ns within in
    length-drop a (take b ns) ∙ ap (λ n. n - a) t

-- a sum over a list does not change if an item changes places with the items after it
exchange : (f : ℕ → ℕ) (ps qs ds : List ℕ) (y : ℕ) → sum_by f (ps ++ (y ∷ (qs ++ ds))) ≡ sum_by f (ps ++ (qs ++ (y ∷ ds)))
exchange f ps qs ds y =
    let e = sum_by-append f (y ∷ []) (qs ++ ds) in
    let d = sum_by-append f (y ∷ []) ds in
    let p = sum_by-append f ps (y ∷ (qs ++ ds)) in
    let q = sum_by-append f qs ds in
    let r = sum_by-append f ps (qs ++ (y ∷ ds)) in
    let s = sum_by-append f qs (y ∷ ds) in
    omega arith

module _ (ns : List ℕ) (from to : ℕ) (order : to ≤ from) (within : from < length ns) where
  -- the list, in parts
  parts_down : ns ≡ take to ns ++ (drop to (take from ns) ++ (get_or ns from 0 ∷ drop (from + 1) ns))
  parts_down =
      let first : take from ns ≡ take to ns ++ drop to (take from ns) =
      sym (take-append-drop to (take from ns)) ∙ ap (λ l. l ++ drop to (take from ns)) (take-take to from ns order) in
      sym (take-append-drop from ns) ∙ ap (λ l. l ++ drop from ns) first
      ∙ ap (λ l. (take to ns ++ drop to (take from ns)) ++ l) (drop_more ns from 0 within)
      ∙ append_assoc (take to ns) (drop to (take from ns)) (get_or ns from 0 ∷ drop (from + 1) ns)

  -- each number is in the list as often as before
  pub times-moved_down : (n : ℕ) → times (moved_down ns from to) n ≡ times ns n
  times-moved_down n =
      exchange (λ m. cond (eqb m n) 1 0) (take to ns) (drop to (take from ns)) (drop (from + 1) ns) (get_or ns from 0)
      ∙ ap (λ l. times l n) (sym parts_down)

  -- the first numbers, up to the place that the number had
  pub take-moved_down : take (from + 1) (moved_down ns from to) ≡ take to ns ++ (get_or ns from 0 ∷ drop to (take from ns))
  take-moved_down =
      let y : ℕ = get_or ns from 0 in
      let q : List ℕ = drop to (take from ns) in
      let a : length (take to ns) ≡ to = length-take-le to ns (omega arith) in
      let b : length q ≡ from - to = length-between ns to from order (omega arith) in
      let k : length (y ∷ q) ≡ suc (length q) = refl in
      let l : length (take to ns ++ (y ∷ q)) ≡ from + 1 = omega (arith, length-append (take to ns) (y ∷ q)) in
      ap (take (from + 1)) (sym (append_assoc (take to ns) (y ∷ q) (drop (from + 1) ns)))
      ∙ take_at (take to ns ++ (y ∷ q)) (drop (from + 1) ns) (from + 1) l

  -- a part of the list was rotated by one place to the right
  pub rotates_down : (ys : List ℕ) → ys ≡ drop (length (mid_of to (from + 1 - to) ns) - 1) (mid_of to (from + 1 - to) ns) ++ take (length (mid_of to (from + 1 - to) ns) - 1) (mid_of to (from + 1 - to) ns) → put_mid to (from + 1 - to) ns ys ≡ moved_down ns from to
  rotates_down ys e =
      let m : List ℕ = mid_of to (from + 1 - to) ns in
      let y : ℕ = get_or ns from 0 in
      let q : List ℕ = drop to (take from ns) in
      let b : length q ≡ from - to = length-between ns to from order (omega arith) in
      let n : from + 1 - to ≡ (from - to) + 1 = omega arith in
      let i : to + (from - to) ≡ from = omega arith in
      let d : length (drop to ns) ≡ length ns - to = length-drop to ns in
      let last : get_or (drop to ns) (from - to) 0 ≡ y = get_or-drop to ns (from - to) 0 ∙ ap (λ j. get_or ns j 0) i in
      let mq : m ≡ q ++ (y ∷ []) =
      ap (λ j. take j (drop to ns)) n ∙ take_more (drop to ns) (from - to) 0 (omega arith)
      ∙ ap (λ z. take (from - to) (drop to ns) ++ (z ∷ [])) last ∙ ap (λ l. l ++ (y ∷ [])) (sym (between_places ns to from order)) in
      let k : length m - 1 ≡ from - to =
      ap (λ l. length l - 1) mq ∙ (let z : length (q ++ (y ∷ [])) ≡ length q + 1 = length-append q (y ∷ []) in omega arith) in
      let v : ys ≡ y ∷ q =
      e ∙ ap (λ j. drop j m ++ take j m) k ∙ ap (λ l. drop (from - to) l ++ take (from - to) l) mq
      ∙ rw (drop_at q (y ∷ []) (from - to) b, take_at q (y ∷ []) (from - to) b) refl in
      let j : to + (from + 1 - to) ≡ from + 1 = omega arith in
      let rest : drop (from + 1 - to) (drop to ns) ≡ drop (from + 1) ns = drop-drop (from + 1 - to) to ns ∙ ap (λ z. drop z ns) j in
      ap (λ l. take to ns ++ (l ++ drop (from + 1 - to) (drop to ns))) v ∙ ap (λ l. take to ns ++ ((y ∷ q) ++ l)) rest

module _ (ns : List ℕ) (from to : ℕ) (order : from ≤ to) (within : to < length ns) where
  -- the list, in parts
  parts_up : ns ≡ take from ns ++ (get_or ns from 0 ∷ (drop (from + 1) (take (to + 1) ns) ++ drop (to + 1) ns))
  parts_up =
      let rest : drop (from + 1) ns ≡ drop (from + 1) (take (to + 1) ns) ++ drop (to + 1) ns =
      drop_split ns (from + 1) (to + 1) (omega arith) ∙ ap (λ l. l ++ drop (to + 1) ns) (sym (between_places ns (from + 1) (to + 1) (omega arith))) in
      sym (take-append-drop from ns) ∙ ap (λ l. take from ns ++ l) (drop_more ns from 0 (omega arith))
      ∙ ap (λ l. take from ns ++ (get_or ns from 0 ∷ l)) rest

  -- each number is in the list as often as before
  pub times-moved_up : (n : ℕ) → times (moved_up ns from to) n ≡ times ns n
  times-moved_up n =
      sym (exchange (λ m. cond (eqb m n) 1 0) (take from ns) (drop (from + 1) (take (to + 1) ns)) (drop (to + 1) ns) (get_or ns from 0))
      ∙ ap (λ l. times l n) (sym parts_up)

  -- the first numbers, up to the new place of the number
  pub take-moved_up : take to (moved_up ns from to) ≡ take from ns ++ drop (from + 1) (take (to + 1) ns)
  take-moved_up =
      let q : List ℕ = drop (from + 1) (take (to + 1) ns) in
      let rest : List ℕ = get_or ns from 0 ∷ drop (to + 1) ns in
      let a : length (take from ns) ≡ from = length-take-le from ns (omega arith) in
      let b : length q ≡ to + 1 - (from + 1) = length-between ns (from + 1) (to + 1) (omega arith) (omega arith) in
      let l : length (take from ns ++ q) ≡ to = omega (arith, length-append (take from ns) q) in
      ap (take to) (sym (append_assoc (take from ns) q rest)) ∙ take_at (take from ns ++ q) rest to l

  -- a part of the list was rotated by one place to the left
  pub rotates_up : (ys : List ℕ) → ys ≡ drop 1 (mid_of from (to + 1 - from) ns) ++ take 1 (mid_of from (to + 1 - from) ns) → put_mid from (to + 1 - from) ns ys ≡ moved_up ns from to
  rotates_up ys e =
      let m : List ℕ = mid_of from (to + 1 - from) ns in
      let y : ℕ = get_or ns from 0 in
      let q : List ℕ = drop (from + 1) (take (to + 1) ns) in
      let n : to + 1 - from ≡ suc (to - from) = omega arith in
      let i : to + 1 - (from + 1) ≡ to - from = omega arith in
      let mq : m ≡ y ∷ q =
      ap (λ l. take (to + 1 - from) l) (drop_more ns from 0 (omega arith)) ∙ ap (λ j. take j (y ∷ drop (from + 1) ns)) n
      ∙ ap (λ j. y ∷ take j (drop (from + 1) ns)) (sym i) ∙ ap (λ l. y ∷ l) (sym (between_places ns (from + 1) (to + 1) (omega arith))) in
      let v : ys ≡ q ++ (y ∷ []) = e ∙ ap (λ l. drop 1 l ++ take 1 l) mq in
      let j : from + (to + 1 - from) ≡ to + 1 = omega arith in
      let rest : drop (to + 1 - from) (drop from ns) ≡ drop (to + 1) ns = drop-drop (to + 1 - from) from ns ∙ ap (λ z. drop z ns) j in
      ap (λ l. take from ns ++ (l ++ drop (to + 1 - from) (drop from ns))) v ∙ ap (λ l. take from ns ++ ((q ++ (y ∷ [])) ++ l)) rest
      ∙ ap (λ l. take from ns ++ l) (append_assoc q (y ∷ []) (drop (to + 1) ns))

-- the numbers between two places are those of the halves between them
pub numbers-between : (low high : List ℕ) (a b : ℕ) → numbers (drop a (take b low)) (drop a (take b high)) ≡ drop a (take b (numbers low high))
numbers-between low high a b = numbers-drop (take b low) (take b high) a ∙ ap (drop a) (numbers-take low high b)

module _ (low high : List ℕ) (same : length low ≡ length high) (a b : ℕ) where
  same-take : (n : ℕ) → n ≤ length low → length (take n low) ≡ length (take n high)
  same-take n le = length-take-le n low le ∙ sym (length-take-le n high (omega arith))

  same-between : a ≤ b → b ≤ length low → length (drop a (take b low)) ≡ length (drop a (take b high))
  same-between le within = length-between low a b le within ∙ sym (length-between high a b le (omega arith))

module _ (low high : List ℕ) (same : length low ≡ length high) (from to : ℕ) where
  abbrev y : ℕ
  y = get_or (numbers low high) from 0

  both : from < length low → get_or low from 0 + get_or high from 0 * 2 ^ 32 ≡ y
  both l = sym (at-both low high from l (omega arith))

  -- a move of both halves is a move of the number
  pub numbers-moved_down : to ≤ from → from < length low → numbers (moved_down low from to) (moved_down high from to) ≡ moved_down (numbers low high) from to
  numbers-moved_down order within =
      let ql : List ℕ = drop to (take from low) in
      let qh : List ℕ = drop to (take from high) in
      numbers-append (take to low) (get_or low from 0 ∷ (ql ++ drop (from + 1) low)) (take to high) (get_or high from 0 ∷ (qh ++ drop (from + 1) high)) (same-take low high same to from to (omega arith))
      ∙ rw (numbers-take low high to, both within, numbers-append ql (drop (from + 1) low) qh (drop (from + 1) high) (same-between low high same to from order (omega arith)), numbers-between low high to from, numbers-drop low high (from + 1)) refl

  pub numbers-moved_up : from ≤ to → to < length low → numbers (moved_up low from to) (moved_up high from to) ≡ moved_up (numbers low high) from to
  numbers-moved_up order within =
      let ql : List ℕ = drop (from + 1) (take (to + 1) low) in
      let qh : List ℕ = drop (from + 1) (take (to + 1) high) in
      numbers-append (take from low) (ql ++ (get_or low from 0 ∷ drop (to + 1) low)) (take from high) (qh ++ (get_or high from 0 ∷ drop (to + 1) high)) (same-take low high same from to from (omega arith))
      ∙ rw (numbers-take low high from, numbers-append ql (get_or low from 0 ∷ drop (to + 1) low) qh (get_or high from 0 ∷ drop (to + 1) high) (same-between low high same (from + 1) (to + 1) (omega arith) (omega arith)), numbers-between low high (from + 1) (to + 1), both (omega arith), numbers-drop low high (to + 1)) refl

-- a block with no high halves has its low halves as its numbers
pub block-low : (low high : List ℕ) (i : ℕ) → length high ≤ 64 * i → block_at (numbers low high) i ≡ block_at low i
block-low low high i le =
    sym (numbers-block low high i) ∙ ap (λ hs. numbers (block_at low i) hs) (block-past high i le) ∙ numbers-low (block_at low i)

-- a block whose halves are unchanged is unchanged
pub block-same : (low low' high high' : List ℕ) (i : ℕ) → block_at low' i ≡ block_at low i → block_at high' i ≡ block_at high i → block_at (numbers low' high') i ≡ block_at (numbers low high) i
block-same low low' high high' i l h =
    sym (numbers-block low' high' i) ∙ ap (λ ns. numbers ns (block_at high' i)) l ∙ ap (λ ns. numbers (block_at low i) ns) h ∙ numbers-block low high i

module _ (low low' high : List ℕ) (i from to : ℕ) (past : length high ≤ 64 * i) where
  -- a move in a block with no high halves is a move of the number
  pub low-moves_down : block_at low' i ≡ moved_down (block_at low i) from to → block_at (numbers low' high) i ≡ moved_down (block_at (numbers low high) i) from to
  low-moves_down e = block-low low' high i past ∙ e ∙ ap (λ ns. moved_down ns from to) (sym (block-low low high i past))

  pub low-moves_up : block_at low' i ≡ moved_up (block_at low i) from to → block_at (numbers low' high) i ≡ moved_up (block_at (numbers low high) i) from to
  low-moves_up e = block-low low' high i past ∙ e ∙ ap (λ ns. moved_up ns from to) (sym (block-low low high i past))

module _ (low low' high high' : List ℕ) (i from to : ℕ) (here : 64 * i + 64 ≤ length low) (high_here : 64 * i + 64 ≤ length high) where
  ls : length (block_at low i) ≡ 64
  ls = length-block low i here

  same_size : length (block_at low i) ≡ length (block_at high i)
  same_size = ls ∙ sym (length-block high i high_here)

  -- a move in both blocks of halves is a move of the number
  pub both-move_down : to ≤ from → from < 64 → block_at low' i ≡ moved_down (block_at low i) from to → block_at high' i ≡ moved_down (block_at high i) from to → block_at (numbers low' high') i ≡ moved_down (block_at (numbers low high) i) from to
  both-move_down order within l h =
      sym (numbers-block low' high' i) ∙ ap (λ ns. numbers ns (block_at high' i)) l ∙ ap (λ ns. numbers (moved_down (block_at low i) from to) ns) h
      ∙ numbers-moved_down (block_at low i) (block_at high i) same_size from to order (omega (arith, ls))
      ∙ ap (λ ns. moved_down ns from to) (numbers-block low high i)

  pub both-move_up : from ≤ to → to < 64 → block_at low' i ≡ moved_up (block_at low i) from to → block_at high' i ≡ moved_up (block_at high i) from to → block_at (numbers low' high') i ≡ moved_up (block_at (numbers low high) i) from to
  both-move_up order within l h =
      sym (numbers-block low' high' i) ∙ ap (λ ns. numbers ns (block_at high' i)) l ∙ ap (λ ns. numbers (moved_up (block_at low i) from to) ns) h
      ∙ numbers-moved_up (block_at low i) (block_at high i) same_size from to order (omega (arith, ls))
      ∙ ap (λ ns. moved_up ns from to) (numbers-block low high i)

-- a block of the list is one of the low halves
pub low_here : (low high : List ℕ) (i : ℕ) → 64 * i + 64 ≤ length (numbers low high) → 64 * i + 64 ≤ length low
low_here low high i le = omega (arith, length-numbers low high)

-- the place of a number is within its block
pub within_block : (ns : List ℕ) (i p : ℕ) → 64 * i + 64 ≤ length ns → p < 64 → p < length (block_at ns i)
within_block ns i p le lt = omega (arith, length-block ns i le)

-- there are as many numbers if there are as many low halves
pub same-length : (low low' high high' : List ℕ) → length low' ≡ length low → length (numbers low' high') ≡ length (numbers low high)
same-length low low' high high' e = length-numbers low' high' ∙ e ∙ sym (length-numbers low high)
