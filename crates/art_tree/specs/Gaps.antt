-- A gap for a key, and the leaves beside it.
use Rattle.std.specs.Prelude.{◌≡◌, ℕ, List, [], ◌∷◌, ◌++◌, ◌<◌, length, take, Option, Some, None, true, false, ◌⊎◌, slice_index_or}
use Rattle.blart_keys.specs.Bytes.{less}
use Rattle.art_tree.specs.Begins.{Bytes, Begins}
use Rattle.art_tree.specs.Leaves.{Numbered, number_before}
use Rattle.art_tree.specs.declared.tree.point.Neighbour.{Neighbour}
use Rattle.art_tree.specs.declared.tree.point.Neighbour.TheVariants.{AfterLeaf, BeforeLeaf}

-- q and the key of `nearest` share their first `depth` bytes, and no key shares one more with q
pub record LeavesNearest (keys : ℕ → Option Bytes) (nearest depth : ℕ) (q : Bytes) : Type 0 where
  pub nearest_key : Bytes
  pub nearest_is : keys nearest ≡ Some nearest_key
  pub along : take depth nearest_key ≡ take depth q
  pub longer : depth < length q
  pub nearest_longer : depth < length nearest_key
  pub alone : (j : ℕ) (l : Bytes) → keys j ≡ Some l → Begins (take depth q ++ slice_index_or q depth 0 ∷ []) l → ⊥

-- the leaf has the greatest key less than q
pub record LastBefore (keys : ℕ → Option Bytes) (q : Bytes) (i : ℕ) : Type 0 where
  pub key : Bytes
  pub is : keys i ≡ Some key
  pub before : less key q ≡ true
  pub last : (j : ℕ) (k : Bytes) → keys j ≡ Some k → less k q ≡ true → (j ≡ i) ⊎ (less k key ≡ true)

-- the leaf has the least key greater than q
pub record FirstAfter (keys : ℕ → Option Bytes) (q : Bytes) (i : ℕ) : Type 0 where
  pub key : Bytes
  pub is : keys i ≡ Some key
  pub after : less q key ≡ true
  pub first : (j : ℕ) (k : Bytes) → keys j ≡ Some k → less q k ≡ true → (j ≡ i) ⊎ (less key k ≡ true)

-- the leaf before q, or none if no key is less
abbrev pub IsLeafBefore : (ℕ → Option Bytes) → Bytes → Option ℕ → Type 0
IsLeafBefore keys q None = (j : ℕ) (k : Bytes) → keys j ≡ Some k → less k q ≡ false
IsLeafBefore keys q (Some i) = LastBefore keys q i

-- the gap of q is after the leaf, or before it
abbrev pub IsBeside : (ℕ → Option Bytes) → Bytes → Neighbour → Type 0
IsBeside keys q (AfterLeaf i) = LastBefore keys q i
IsBeside keys q (BeforeLeaf i) = FirstAfter keys q i

-- the leaf beside a gap
abbrev pub neighbour : Neighbour → ℕ
neighbour (AfterLeaf i) = i
neighbour (BeforeLeaf i) = i

-- the leaf before a gap
abbrev pub number_before_gap : {K V : Type 0} → List (Numbered K V) → Neighbour → Option ℕ
number_before_gap ps (AfterLeaf i) = Some i
number_before_gap ps (BeforeLeaf i) = number_before ps i
