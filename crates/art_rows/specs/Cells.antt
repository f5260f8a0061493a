-- The cells of rows. Each row has 64, in use or not, and the row of each cell is stored.
use Rattle.std.specs.Prelude.{◌≡◌, ℕ, ◌*◌, ◌^◌, ◌<◌, ◌≤◌, List, length, map, take, Some, slice_index_or}
use Rattle.art_slots.specs.Words.{block_at, times, numbers as words}
use Rattle.art_rows.specs.Numbers.{Numbered, Numbers, leaf_in, Has, AreDistinct}
use Rattle.art_rows.specs.declared.row.TheConstants.{ROW}

-- there are 64 numbers, the first `count` of them in use, and none comes twice
pub record IsRow (low high : List ℕ) (count : ℕ) : Type 0 where
  pub long : length low ≡ ROW
  pub within : count ≤ ROW
  pub once : (n : ℕ) → times (words low high) n ≤ 1
  pub small : (n : ℕ) → 0 < times (words low high) n → n < 2 ^ 61

-- a row's number, and the first numbers of its block: as many as its count
abbrev pub cells_of : List ℕ → Numbered ℕ → Numbered (List ℕ)
cells_of cells r = (r.0, take r.1 (block_at cells r.0))

-- what a contract sees of rows: each with the numbers of its cells in use
abbrev pub rows_of : Numbers ℕ → List ℕ → ℕ → Numbers (List ℕ)
rows_of counts cells ready = record { pairs = map (cells_of cells) counts.pairs; spare = counts.spare; room = counts.room; top = ready; next = counts.next }

-- the number n is once in the block of row r, is less than 64 * ready, and its cell has the row r
pub record IsOwned (cells owners : List ℕ) (ready r n : ℕ) : Type 0 where
  pub once : times (block_at cells r) n ≤ 1
  pub below : n < ROW * ready
  pub owner : slice_index_or owners n 0 ≡ r

-- each of the first `ready` rows has 64 cells of its own
pub record HaveCells (cells owners : List ℕ) (ready : ℕ) : Type 0 where
  pub long : ROW * ready ≤ length cells
  pub wide : ROW * ready ≤ length owners
  pub own : (r n : ℕ) → r < ready → 0 < times (block_at cells r) n → IsOwned cells owners ready r n

-- each of the first `ready` rows has cells, and each row in use is one of them
pub record AreOwned (counts : Numbers ℕ) (cells owners : List ℕ) (ready : ℕ) : Type 0 where
  pub distinct : AreDistinct counts.pairs
  pub top : counts.top ≤ ready
  pub inside : (r : ℕ) → Has counts.pairs r → r < ready
  pub counted : (r count : ℕ) → leaf_in counts.pairs r ≡ Some count → count ≤ ROW
  pub have : HaveCells cells owners ready
