-- The points that are good for some bytes.
use Rattle.std.specs.Prelude.{◌≡◌, ℕ, true, List, [], Some}
use Rattle.blart_keys.specs.Content.{at, conflict, subtree}
use Rattle.art_tree.specs.Gaps.{LeavesNearest, IsBeside, neighbour}
use Rattle.art_tree.specs.Leaves.{Numbered, first_number, last_number, keys_in, bytes}
use Rattle.art_tree.specs.declared.tree.point.Gap.{Gap}
use Rattle.art_tree.specs.declared.tree.point.Point.{Point}
use Rattle.art_tree.specs.declared.tree.point.Point.TheVariants.{Empty, Exact, Related, Free}

module _ {K V : Type 0} (key_bytes : K → List ℕ) (pairs : List (Numbered K V)) where
  -- the gap is for q, and beside its nearest leaf
  pub record IsFree (gap : Gap) (q : List ℕ) : Type 0 where
    pub leaves : LeavesNearest (keys_in key_bytes pairs) gap.nearest gap.depth q
    pub beside : IsBeside (keys_in key_bytes pairs) q gap.beside
    pub same : neighbour gap.beside ≡ gap.nearest

  -- the point says where q is in the pairs, or where it would be placed
  abbrev pub IsGood : Point → List ℕ → Type 0
  IsGood Empty q = pairs ≡ []
  IsGood (Exact id) q = (x : K × V) × (at (bytes key_bytes) pairs q ≡ Some (id, x))
  IsGood (Related first last) q =
      (conflict (bytes key_bytes) pairs q ≡ true)
      × (first_number (subtree (bytes key_bytes) pairs q) ≡ Some first)
      × (last_number (subtree (bytes key_bytes) pairs q) ≡ Some last)
  IsGood (Free gap) q = IsFree gap q
