-- What a cursor over a map has passed, and what it keeps if a pair is removed.
use Rattle.std.specs.Prelude.{◌≡◌, ℕ, List, [], ◌∷◌, ◌++◌, Some}
use Rattle.art_tree.specs.Leaves.{Numbered}
use Rattle.art_walk.specs.declared.cursor.Cursor.{Cursor}
pub use Rattle.art_tree.specs.Leaves.{leaf_in, Has, Lacks, without_number}
pub use Rattle.art_walk.specs.Cursor.{leaves_left, FitsIn, PassesFirst, PassesLast}

module _ {K V : Type 0} (S : List (Numbered K V)) where
  -- the pair with this number was the first that the cursor had left, and is not left any more
  pub record WasFirst (old : Cursor) (id : ℕ) (new : Cursor) : Type 0 where
    pub pair : K × V
    pub named : leaf_in S id ≡ Some pair
    pub splits : leaves_left old S ≡ (id, pair) ∷ leaves_left new S
    pub passed : Lacks (leaves_left new S) id

  -- the same for the last
  pub record WasLast (old : Cursor) (id : ℕ) (new : Cursor) : Type 0 where
    pub pair : K × V
    pub named : leaf_in S id ≡ Some pair
    pub splits : leaves_left old S ≡ leaves_left new S ++ (id, pair) ∷ []
    pub passed : Lacks (leaves_left new S) id

  -- a cursor that has not the pair with this number left fits T, and has the same pairs left in T
  abbrev pub StaysLeft : ℕ → List (Numbered K V) → Type 0
  StaysLeft id T = (c : Cursor) → FitsIn c S → Lacks (leaves_left c S) id → FitsIn c T × (leaves_left c T ≡ leaves_left c S)
