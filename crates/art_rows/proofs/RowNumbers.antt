-- The numbers of a row, and their low and high halves.
use Rattle.std.proofs.Common.{◌≡◌, ℕ, zero, suc, ◌+◌, ◌-◌, ◌*◌, ◌^◌, ◌<◌, ◌≤◌, List, [], ◌∷◌, length, take, drop, get_or, refl, sym, ap, ◌∙◌, Some, true, false, inl, inr, arith}
use Rattle.std.proofs.lemmas.Bool.Decides.{eqb_tells}
use Rattle.std.proofs.lemmas.List.{get_or-take, length-take-le, take-append-drop, drop-take, nil_from_length}
use Rattle.art_slots.specs.Words.{times, numbers as words}
use Rattle.art_rows.specs.Cells.{IsRow}
use Rattle.art_rows.specs.Rows.{among, index_in, nth}
use Rattle.art_rows.proofs.Blocks.{times-take, next_there, times-among}
use Rattle.art_rows.proofs.RowsLemmas.{index_in-append_in}

-- there are as many numbers as low halves
pub length-words : (low high : List ℕ) → length (words low high) ≡ length low
length-words [] high = refl
length-words (l ∷ low) [] = refl
length-words (l ∷ low) (h ∷ high) = ap suc (length-words low high)

-- with no high halves the numbers are the low halves
pub words-none : (low : List ℕ) → words low [] ≡ low
words-none [] = refl
words-none (l ∷ low) = refl

-- a number with a high half
pub words-both : (low high : List ℕ) (k : ℕ) → k < length low → k < length high → get_or (words low high) k 0 ≡ get_or low k 0 + get_or high k 0 * 2 ^ 32
words-both [] high k l h = absurd (omega arith)
words-both (x ∷ low) [] k l h = absurd (omega arith)
words-both (x ∷ low) (y ∷ high) zero l h = refl
words-both (x ∷ low) (y ∷ high) (suc k) l h = words-both low high k (omega arith) (omega arith)

-- a number with no high half
pub words-low : (low high : List ℕ) (k : ℕ) → length high ≤ k → get_or (words low high) k 0 ≡ get_or low k 0
words-low [] high k h = refl
words-low (x ∷ low) [] k h = refl
words-low (x ∷ low) (y ∷ high) zero h = absurd (omega arith)
words-low (x ∷ low) (y ∷ high) (suc k) h = words-low low high k (omega arith)

-- the number at an index of a list
pub nth-get_or : (ns : List ℕ) (k d : ℕ) → k < length ns → nth ns k ≡ Some (get_or ns k d)
nth-get_or [] k d l = absurd (omega arith)
nth-get_or (n ∷ ns) zero d l = refl
nth-get_or (n ∷ ns) (suc k) d l = nth-get_or ns k d (omega arith)

-- the number at the index of a number is that number
pub at_index : (ns : List ℕ) (n d : ℕ) → among ns n ≡ true → get_or ns (index_in ns n) d ≡ n
at_index [] n d h = (let f : false ≡ true = h in absurd cc)
at_index (m ∷ ns) n d h = elim (eqb_tells m n) [
  | inl t ↦ rw t.0 t.1
  | inr t ↦ rw t.0 (at_index ns n d (rw t.0 at h))
]

-- the first numbers have the same index among all
pub index_in-take : (ns : List ℕ) (k n : ℕ) → among (take k ns) n ≡ true → index_in ns n ≡ index_in (take k ns) n
index_in-take ns k n h =
    ap (λ l. index_in l n) (sym (take-append-drop k ns)) ∙ index_in-append_in (take k ns) (drop k ns) n h

module _ {low high : List ℕ} {count : ℕ} {ns : List ℕ} (r : IsRow low high count) (v : take count (words low high) ≡ ns) where
  -- the number of cells in use is the length of the list that a contract sees
  pub row_len : length ns ≡ count
  row_len =
      let w = length-words low high in
      let l : length (take count (words low high)) ≡ count = length-take-le count (words low high) (omega (arith, r.long, r.within)) in
      sym (ap length v) ∙ l

  -- the number at an index is small, and a contract sees it there
  pub row_number : (k : ℕ) → k < length ns → (n : ℕ) → n ≡ get_or (words low high) k 0 → (n < 2 ^ 61) × (nth ns k ≡ Some n)
  row_number k l n e =
      let w = length-words low high in
      let c = row_len in
      let s = r.small (get_or (words low high) k 0) (next_there (words low high) k 0 (omega (arith, r.long, r.within))) in
      let g : get_or (take count (words low high)) k 0 ≡ get_or (words low high) k 0 = get_or-take count (words low high) k 0 (omega arith) in
      let f : get_or ns k 0 ≡ n = ap (λ l. get_or l k 0) (sym v) ∙ g ∙ sym e in
      (omega arith, nth-get_or ns k 0 l ∙ ap Some f)

  -- a number that a contract sees is at one index of the row
  pub row_once : (n : ℕ) → among ns n ≡ true → times (words low high) n ≡ 1
  row_once n h =
      let a : among (take count (words low high)) n ≡ true = ap (λ l. among l n) v ∙ h in
      let p = times-among (take count (words low high)) n a in
      let t = times-take (words low high) count n in
      let o = r.once n in
      omega arith

  -- its index among all numbers is its index in the list that a contract sees
  pub row_index : (n : ℕ) → among ns n ≡ true → index_in (words low high) n ≡ index_in ns n
  row_index n h =
      let a : among (take count (words low high)) n ≡ true = ap (λ l. among l n) v ∙ h in
      index_in-take (words low high) count n a ∙ ap (λ l. index_in l n) v

-- with no high halves, the numbers in use are the first low halves
module _ {low high : List ℕ} {count : ℕ} {ns : List ℕ} (r : IsRow low high count) (v : take count (words low high) ≡ ns) (z : length high ≡ 0) where
  low_words : words low high ≡ low
  low_words = ap (words low) (nil_from_length high z) ∙ words-none low

  -- a number that a contract sees is at one index of the low halves
  pub low_once : (n : ℕ) → among ns n ≡ true → times low n ≡ 1
  low_once n h = ap (λ l. times l n) (sym low_words) ∙ row_once r v n h

  -- its index among the low halves is its index in the list that a contract sees
  pub low_index : (n : ℕ) → among ns n ≡ true → index_in low n ≡ index_in ns n
  low_index n h = ap (λ l. index_in l n) (sym low_words) ∙ row_index r v n h

  -- the numbers after an index
  pub low_after : (k : ℕ) → k < length ns → take (count - (k + 1)) (drop (k + 1) low) ≡ drop (k + 1) ns
  low_after k h =
      let c = row_len r v in
      let e : (k + 1) + (count - (k + 1)) ≡ count = omega arith in
      sym (drop-take (k + 1) (count - (k + 1)) low) ∙ ap (λ n. drop (k + 1) (take n low)) e ∙ ap (λ l. drop (k + 1) (take count l)) (sym low_words) ∙ ap (drop (k + 1)) v
