-- The exchange of the halves of two rows, number by number.
use Rattle.std.proofs.Common.{◌≡◌, ◌≢◌, ℕ, ◌+◌, ◌-◌, ◌*◌, ◌<◌, ◌≤◌, List, [], ◌∷◌, ◌++◌, length, take, drop, get_or, set, sym, ap, ◌∙◌, append_assoc, append-nil, arith}
use Rattle.std.proofs.lemmas.List.{length-take-le, set_at, get_or_at, drop_more, drop_all, take_more, set-append_right, get_or-append_right}
use Rattle.art_slots.specs.Words.{block_at}
use Rattle.art_slots.proofs.BlocksOf.{at_block}
use Rattle.art_rows.specs.Cells.{HaveCells}
use Rattle.art_rows.proofs.OwnedCells.{own_at, exchanged-row, exchanged-new, exchanged-rows, own_exchanged}

-- ---- two lists, exchanged up to an index

-- the front of one list and the rest of another: the next number of the second is replaced
mixed-set : (xs ys : List ℕ) (k : ℕ) → k < length xs → k < length ys → set (take k xs ++ drop k ys) k (get_or xs k 0) ≡ take (k + 1) xs ++ drop (k + 1) ys
mixed-set xs ys k lx ly =
    let t : length (take k xs) ≡ k = length-take-le k xs (omega arith) in
    ap (λ l. set (take k xs ++ l) k (get_or xs k 0)) (drop_more ys k 0 ly) ∙ set_at (take k xs) (get_or ys k 0) (drop (k + 1) ys) (get_or xs k 0) k t ∙ sym (append_assoc (take k xs) (get_or xs k 0 ∷ []) (drop (k + 1) ys)) ∙ ap (λ l. l ++ drop (k + 1) ys) (sym (take_more xs k 0 lx))

-- the number at the index is the next of the second
mixed-get_or : (xs ys : List ℕ) (k : ℕ) → k < length xs → k < length ys → get_or (take k xs ++ drop k ys) k 0 ≡ get_or ys k 0
mixed-get_or xs ys k lx ly =
    let t : length (take k xs) ≡ k = length-take-le k xs (omega arith) in
    ap (λ l. get_or (take k xs ++ l) k 0) (drop_more ys k 0 ly) ∙ get_or_at (take k xs) (get_or ys k 0) (drop (k + 1) ys) 0 k t

-- once all numbers of a list are exchanged, its front remains of the other
pub mixed_all : (xs ys : List ℕ) (k n : ℕ) → k ≡ n → length ys ≤ n → take k xs ++ drop k ys ≡ take n xs
mixed_all xs ys k n e l =
    let d : drop n ys ≡ [] = drop_all n ys l in
    rw (e, d) (append-nil (take n xs))

-- ---- one exchange

-- the number at an index of a row is less than 64 times the number of rows
pub index_below : {cells owners : List ℕ} {ready : ℕ} → HaveCells cells owners ready → (r k i n : ℕ) → r < ready → k < 64 → i ≡ 64 * r + k → n ≡ get_or cells i 0 → n < 64 * ready
index_below {cells = cells} h r k i n l lt e f =
    let g : n ≡ get_or cells (64 * r + k) 0 = f ∙ ap (λ j. get_or cells j 0) e in
    rw g (own_at h r k l lt).below

-- the number at index 32 + k of a row is exchanged for the number at index k of a new row
module _ (cells owners : List ℕ) (ready row new k : ℕ) (h : HaveCells cells owners ready) (rl : row < ready) (nl : new < ready) (ne : row ≢ new) (kl : k < 32) (moves other : ℕ) (em : moves ≡ get_or cells (64 * row + 32 + k) 0) (eo : other ≡ get_or cells (64 * new + k) 0) where
  same : 64 * row + 32 + k ≡ 64 * row + (32 + k)
  same = omega arith

  il : 32 + k < 64
  il = omega arith

  kl64 : k < 64
  kl64 = omega arith

  moves_are : moves ≡ get_or cells (64 * row + (32 + k)) 0
  moves_are = em ∙ ap (λ i. get_or cells i 0) same

  module _ (cells1 cells2 owners1 owners2 : List ℕ) (e1 : cells1 ≡ set cells (64 * row + 32 + k) other) (e2 : cells2 ≡ set cells1 (64 * new + k) moves) (f1 : owners1 ≡ set owners moves new) (f2 : owners2 ≡ set owners1 other row) where
    cells_are : cells2 ≡ set (set cells (64 * row + (32 + k)) other) (64 * new + k) moves
    cells_are = e2 ∙ ap (λ l. set l (64 * new + k) moves) (e1 ∙ ap (λ i. set cells i other) same)

    owners_are : owners2 ≡ set (set owners moves new) other row
    owners_are = f2 ∙ ap (λ l. set l other row) f1

    -- the rows still have cells of their own
    pub step_own : HaveCells cells2 owners2 ready
    step_own = rw (cells_are, owners_are) (own_exchanged cells owners ready row new (32 + k) k h rl nl ne il kl64 moves other moves_are eo)

    -- the blocks of other rows are unchanged
    pub step_rows : (j : ℕ) → j ≢ row → j ≢ new → block_at cells2 j ≡ block_at cells j
    step_rows j a b = ap (λ l. block_at l j) cells_are ∙ exchanged-rows cells owners ready row new (32 + k) k h rl nl ne il kl64 moves other moves_are eo j a b

    -- f and u are the halves that the row had, and ns the numbers that the new row had. They are
    -- exchanged up to index k
    module _ (f u ns : List ℕ) (fl : length f ≡ 32) (ul : k < length u) (nsl : k < length ns) (br : block_at cells row ≡ f ++ (take k ns ++ drop k u)) (bn : block_at cells new ≡ take k u ++ drop k ns) where
      -- one more number of the row is exchanged
      pub step_row : block_at cells2 row ≡ f ++ (take (k + 1) ns ++ drop (k + 1) u)
      step_row =
          let o : other ≡ get_or ns k 0 = eo ∙ sym (at_block cells new k kl64) ∙ ap (λ l. get_or l k 0) bn ∙ mixed-get_or u ns k ul nsl in
          let s : 32 + k - 32 ≡ k = omega arith in
          ap (λ l. block_at l row) cells_are ∙ exchanged-row cells owners ready row new (32 + k) k h rl nl ne il kl64 moves other moves_are eo
          ∙ ap (λ l. set l (32 + k) other) br ∙ set-append_right f (take k ns ++ drop k u) 32 (32 + k) other fl (omega arith)
          ∙ ap (λ i. f ++ set (take k ns ++ drop k u) i other) s ∙ ap (λ x. f ++ set (take k ns ++ drop k u) k x) o ∙ ap (λ l. f ++ l) (mixed-set ns u k nsl ul)

      -- one more number of the new row is exchanged
      pub step_new : block_at cells2 new ≡ take (k + 1) u ++ drop (k + 1) ns
      step_new =
          let s : 32 + k - 32 ≡ k = omega arith in
          let m : moves ≡ get_or u k 0 = moves_are ∙ sym (at_block cells row (32 + k) il) ∙ ap (λ l. get_or l (32 + k) 0) br ∙ get_or-append_right f (take k ns ++ drop k u) 32 (32 + k) 0 fl (omega arith) ∙ ap (λ i. get_or (take k ns ++ drop k u) i 0) s ∙ mixed-get_or ns u k nsl ul in
          ap (λ l. block_at l new) cells_are ∙ exchanged-new cells owners ready row new (32 + k) k h rl nl ne il kl64 moves other moves_are eo
          ∙ ap (λ l. set l k moves) bn ∙ ap (λ x. set (take k u ++ drop k ns) k x) m ∙ mixed-set u ns k ul nsl
