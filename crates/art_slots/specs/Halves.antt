-- How a list of 32-bit numbers is stored in blocks.
use Rattle.std.specs.Prelude.{◌≡◌, ◌≤◌, ◌+◌, ◌-◌, ℕ, List, ◌++◌, length, replicate, flat_map, All}
use Rattle.art_slots.specs.declared.halves.Block.{Block}

-- the numbers of blocks, in order
abbrev pub joined : List Block → List ℕ
joined blocks = flat_map (λ b. b.halves) blocks

-- the block has 64 numbers
abbrev pub IsWhole : Block → Type 0
IsWhole block = length block.halves ≡ 64

-- every block has 64 numbers
abbrev pub AreWhole : List Block → Type 0
AreWhole blocks = All IsWhole blocks

-- there are up to `count` more blocks, of zeros, after the others
pub record AddsZeros (old new : List Block) (count : ℕ) : Type 0 where
  pub added : new ≡ old ++ replicate (length new - length old) (record { halves = replicate 64 0 })
  pub grows : length old ≤ length new
  pub most : length new ≤ length old + count
