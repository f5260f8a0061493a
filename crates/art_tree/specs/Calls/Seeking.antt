-- Where some bytes are among the keys of a tree.
use Rattle.std.specs.Prelude.{◌≡◌, ℕ, Bool, true, false, List, Option, Some, Result, Ok, Err}
use Rattle.art_tree.specs.Begins.{Bytes}
use Rattle.art_tree.specs.Gaps.{IsLeafBefore}
use Rattle.art_tree.specs.Leaves.{Numbered, next_number}

-- the leaf has the bytes q, or no leaf has them and this is the leaf before them
abbrev pub IsAtOrBefore : (ℕ → Option Bytes) → Bytes → Result ℕ (Option ℕ) → Type 0
IsAtOrBefore keys q (Ok i) = keys i ≡ Some q
IsAtOrBefore keys q (Err prev) = IsLeafBefore keys q prev × ((j : ℕ) → keys j ≡ Some q → ⊥)

-- the number after `prev`, or `prev`
abbrev pub beside : {K V : Type 0} → Option ℕ → List (Numbered K V) → Bool → Option ℕ
beside prev ps true = next_number prev ps
beside prev ps false = prev
