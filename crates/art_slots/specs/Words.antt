-- Lists of numbers that are stored as two lists, of their low and of their high halves.
use Rattle.std.specs.Prelude.{◌≤◌, ◌+◌, ◌*◌, ◌^◌, ◌⊎◌, ℕ, List, [], ◌∷◌, ◌++◌, length, take, drop, slice_index_or, eqb, count_by}

-- the numbers with these low and high halves; a number with no high half is its low half
abbrev pub numbers : List ℕ → List ℕ → List ℕ
numbers [] high = []
numbers (l ∷ low) [] = l ∷ low
numbers (l ∷ low) (h ∷ high) = (l + h * 2 ^ 32) ∷ numbers low high

-- each number has a high half if there are more than 2^32 of them
abbrev pub HasHighHalves : List ℕ → List ℕ → Type 0
HasHighHalves low high = (length low ≤ 2 ^ 32) ⊎ (length low ≤ length high)

-- the 64 numbers of a block, each block after the one before it
abbrev pub block_at : List ℕ → ℕ → List ℕ
block_at ns i = take 64 (drop (64 * i) ns)

-- how often a number is in a list
abbrev pub times : List ℕ → ℕ → ℕ
times ns n = count_by (λ m. eqb m n) ns

-- the list after the number at a place was moved to an earlier place
abbrev pub moved_down : List ℕ → (from to : ℕ) → List ℕ
moved_down ns from to =
    take to ns ++ (slice_index_or ns from 0 ∷ (drop to (take from ns) ++ drop (from + 1) ns))

-- the list after the number at a place was moved to a later place
abbrev pub moved_up : List ℕ → (from to : ℕ) → List ℕ
moved_up ns from to =
    take from ns
    ++ (drop (from + 1) (take (to + 1) ns) ++ (slice_index_or ns from 0 ∷ drop (to + 1) ns))
