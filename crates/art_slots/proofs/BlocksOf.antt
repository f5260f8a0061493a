-- The blocks of 64 numbers of a list: a read, a write and a longer list, as seen in a block.
use Rattle.std.proofs.Common.{◌≡◌, ◌≢◌, ℕ, ◌+◌, ◌-◌, ◌*◌, ◌<◌, ◌≤◌, List, ◌++◌, length, take, drop, get_or, set, inl, inr, sym, ap, ◌∙◌, arith}
use Rattle.std.proofs.Math.Seq.{take-set-lt}
use Rattle.std.proofs.lemmas.Bool.{cases_lt}
use Rattle.std.proofs.lemmas.List.{get_or-take, get_or-drop, length-take-le, length-drop, drop-set-add, drop-set-lt, take-set-le, take-append-drop, drop-append-le, take-append-le}
use Rattle.art_slots.specs.Words.{block_at}

-- the number at a place of a block is the number at its index in the list
pub at_block : (ns : List ℕ) (i p : ℕ) → p < 64 → get_or (block_at ns i) p 0 ≡ get_or ns (64 * i + p) 0
at_block ns i p lt = get_or-take 64 (drop (64 * i) ns) p 0 lt ∙ get_or-drop (64 * i) ns p 0

-- a block within the list has 64 numbers
pub length-block : (ns : List ℕ) (i : ℕ) → 64 * i + 64 ≤ length ns → length (block_at ns i) ≡ 64
length-block ns i le =
    let d : length (drop (64 * i) ns) ≡ length ns - 64 * i = length-drop (64 * i) ns in
    length-take-le 64 (drop (64 * i) ns) (omega arith)

-- a write in a block is a write in the list
pub block-set-same : (ns : List ℕ) (i p v : ℕ) → p < 64 → block_at (set ns (64 * i + p) v) i ≡ set (block_at ns i) p v
block-set-same ns i p v lt = ap (take 64) (drop-set-add (64 * i) ns p v) ∙ take-set-lt 64 (drop (64 * i) ns) p v lt

-- a write in a block leaves the other blocks unchanged
pub block-set-other : (ns : List ℕ) (i j p v : ℕ) → p < 64 → j ≢ i → block_at (set ns (64 * i + p) v) j ≡ block_at ns j
block-set-other ns i j p v lt ne =
    elim (cases_lt j i) [
      | inl before ↦
          let q : ℕ = 64 * i + p - 64 * j in
          let e : 64 * i + p ≡ 64 * j + q = omega arith in
          ap (λ n. block_at (set ns n v) j) e ∙ ap (take 64) (drop-set-add (64 * j) ns q v) ∙ take-set-le 64 (drop (64 * j) ns) q v (omega arith)
      | inr after ↦ ap (take 64) (drop-set-lt (64 * j) ns (64 * i + p) v (omega arith))
    ]

-- more numbers at the end of a list leave its blocks unchanged
pub block-take : (ns ms : List ℕ) (i : ℕ) → 64 * i + 64 ≤ length ns → take (length ns) ms ≡ ns → block_at ms i ≡ block_at ns i
block-take ns ms i le same =
    let more : List ℕ = drop (length ns) ms in
    let whole : ms ≡ ns ++ more = sym (take-append-drop (length ns) ms) ∙ ap (λ l. l ++ more) same in
    let d : length (drop (64 * i) ns) ≡ length ns - 64 * i = length-drop (64 * i) ns in
    ap (λ l. block_at l i) whole ∙ ap (take 64) (drop-append-le (64 * i) ns more (omega arith)) ∙ take-append-le 64 (drop (64 * i) ns) more (omega arith)
