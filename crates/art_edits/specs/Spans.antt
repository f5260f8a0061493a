-- The leaves whose keys are related to some bytes.
use Rattle.std.specs.Prelude.{◌≡◌, ◌↔◌, ℕ, Bool, true, false, if◌then◌else◌, eqb, List, filter, Option, Some, None}
use Rattle.blart_keys.specs.Bytes.{related}
use Rattle.blart_keys.specs.Content.{subtree}
use Rattle.art_tree.specs.Leaves.{Numbered, leaf_in, first_number, last_number, bytes}

-- the option has this number
abbrev pub is_number : Option ℕ → ℕ → Bool
is_number None i = false
is_number (Some j) i = eqb j i

module _ {K V : Type 0} (key_bytes : K → List ℕ) where
  -- `first` and `last` are the first and the last leaf of the pairs related to q
  pub record Spans (pairs : List (Numbered K V)) (q : List ℕ) (first last : ℕ) : Type 0 where
    pub first_is : first_number (subtree (bytes key_bytes) pairs q) ≡ Some first
    pub last_is : last_number (subtree (bytes key_bytes) pairs q) ≡ Some last

  -- whether `first` and `last` are the first and the last leaf of the pairs related to q
  abbrev pub spans : List (Numbered K V) → List ℕ → ℕ → ℕ → Bool
  spans pairs q first last = if is_number (first_number (subtree (bytes key_bytes) pairs q)) first then is_number (last_number (subtree (bytes key_bytes) pairs q)) last else false

  -- the pairs that are not related to q are unchanged, under the same numbers
  abbrev pub UnrelatedStand : List (Numbered K V) → List ℕ → List (Numbered K V) → Type 0
  UnrelatedStand old q new = (j : ℕ) (x : K × V) → related (key_bytes x.0) q ≡ false → (leaf_in new j ≡ Some x) ↔ (leaf_in old j ≡ Some x)

  -- the pairs without those related to q, except for the pair with this number
  abbrev pub thinned : List (Numbered K V) → List ℕ → ℕ → List (Numbered K V)
  thinned pairs q id = filter (λ p. if related (key_bytes p.1.0) q then eqb p.0 id else true) pairs

  -- of the pairs related to q only the pair with this number remains, and the others are unchanged
  pub record LeavesOne (old : List (Numbered K V)) (q : List ℕ) (id : ℕ) (new : List (Numbered K V)) : Type 0 where
    pub one : Spans new q id id
    pub others : UnrelatedStand old q new
    pub exact : new ≡ thinned old q id
