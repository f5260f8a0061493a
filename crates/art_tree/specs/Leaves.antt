-- What a contract sees of the leaves: the pairs in order, each under its leaf's id.
use Rattle.std.specs.Prelude.{ℕ, List, option_map, Option}
-- the definitions on lists of numbered pairs
pub use Rattle.art_rows.specs.Numbers.{leaf_in, Has, first_number, last_number, number_after, number_before, number_before_from, next_number, with_pair_after, without_number, with_pair, Lacks, AreDistinct, OthersStand}
-- the leaves, with the rows of their ids, and the number of spare rows
pub use Rattle.art_rows.specs.Leaves.{Leaves, with_value, room, end_room}
-- a position that is not known, and what is beside a leaf in its row
pub use Rattle.art_rows.specs.declared.following.Following.{Following}
pub use Rattle.art_rows.specs.Rows.{nowhere, RunsBefore, StandsAfter}

-- a leaf's id, and its key and value
abbrev pub Numbered : Type 0 → Type 0 → Type 0
Numbered K V = ℕ × (K × V)

module _ {K V : Type 0} (key_bytes : K → List ℕ) where
  -- the bytes of a numbered pair are its key's
  abbrev pub bytes : Numbered K V → List ℕ
  bytes p = key_bytes p.1.0

  -- the bytes of the key of a leaf
  abbrev pub keys_in : List (Numbered K V) → ℕ → Option (List ℕ)
  keys_in ps i = option_map (λ (x : K × V). key_bytes x.0) (leaf_in ps i)
