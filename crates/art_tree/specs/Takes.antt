-- The keys that may replace the key of a leaf.
use Rattle.std.specs.Prelude.{◌≡◌, ◌≢◌, ℕ, true, false, List, Some, Contains}
use Rattle.blart_keys.specs.Bytes.{related}
use Rattle.art_tree.specs.Leaves.{Numbered, leaf_in, bytes}

module _ {K V : Type 0} (key_bytes : K → List ℕ) (pairs : List (Numbered K V)) where
  -- the bytes q are related to the key of this leaf, and to the key of no other leaf
  pub record MayTake (id : ℕ) (q : List ℕ) : Type 0 where
    pub own : (x : K × V) → leaf_in pairs id ≡ Some x → related (key_bytes x.0) q ≡ true
    pub others : (p : Numbered K V) → Contains pairs p → p.0 ≢ id → related (bytes key_bytes p) q ≡ false
