-- For how many more numbers there surely is room in rows, if a full row is cut in half before a
-- number is placed between its numbers.
use Rattle.std.specs.Prelude.{◌≡◌, ℕ, ◌+◌, ◌-◌, ◌*◌, ◌/◌, min, max, List, [], ◌∷◌}
use Rattle.art_rows.specs.declared.row.TheConstants.{ROW, HALF}

-- twice the count of the numbers that a row has after its first 32
abbrev pub excess : ℕ → ℕ
excess n = 2 * (min n ROW - HALF)

-- what a row at an end adds to the load: twice the count of its numbers after the first, at most 62
abbrev pub cap : ℕ → ℕ
cap n = 2 * min (n - 1) (HALF - 1)

-- what the last row adds to the load, or the most that a row can add if there is none
abbrev pub last_cap : List ℕ → ℕ
last_cap [] = 2 * (HALF - 1)
last_cap (n ∷ []) = cap n
last_cap (n ∷ m ∷ ns) = last_cap (m ∷ ns)

-- the sum of the excess of rows
abbrev pub total_excess : List ℕ → ℕ
total_excess [] = 0
total_excess (n ∷ ns) = excess n + total_excess ns

-- how near rows of these lengths are to being cut. A placement raises it by 2 at most, and each
-- spare row that is used lowers it by 62 at least
abbrev pub load : List ℕ → ℕ
load [] = 4 * (HALF - 1)
load (n ∷ ns) = excess n + total_excess ns + cap n + last_cap ns

-- for how many placements the spare rows are enough, by the load alone
abbrev pub turns : List ℕ → ℕ → ℕ
turns lens spare = (ROW * spare + ROW + 1 - load lens) / 2

-- for how many placements spare rows are surely enough: one for each spare row, or more
abbrev pub row_room : List ℕ → ℕ → ℕ
row_room lens spare = max spare (turns lens spare)

-- the first row is full, or there is none
abbrev pub StartsFull : List ℕ → Type 0
StartsFull [] = Unit {0}
StartsFull (n ∷ ns) = n ≡ ROW

-- for how many more numbers the last row has room, or 0 if there is no row
abbrev pub row_end_room : List ℕ → ℕ
row_end_room [] = 0
row_end_room (n ∷ []) = ROW - n
row_end_room (n ∷ m ∷ ns) = row_end_room (m ∷ ns)
