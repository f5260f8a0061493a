-- The cells of a table.
use Rattle.std.specs.Prelude.{◌≡◌, ◌≤◌, ◌+◌, ℕ, List, length, map, Option, Some, None, is_some, count_by, slice_index_or}
use Rattle.art_slots.specs.declared.table.Cell.{Cell}
use Rattle.art_slots.specs.declared.table.Cell.TheVariants.{Full, Empty}

module _ {T : Type 0} where
  -- the record in a cell, if it has one
  abbrev pub held : Cell T → Option T
  held (Full x) = Some x
  held Empty = None

  -- the second cell is like the first, with a clone of its record
  abbrev pub IsCopy : (T → T → Type 0) → Cell T → Cell T → Type 0
  IsCopy is_clone (Full x) copy = (y : T) × (copy ≡ Full y) × is_clone x y
  IsCopy is_clone Empty copy = copy ≡ Empty

  -- the same records are at the same numbers, and there are up to `count` more cells
  pub record AddsEmpty (old new : List (Cell T)) (count : ℕ) : Type 0 where
    pub same : (j : ℕ) → slice_index_or (map held new) j None ≡ slice_index_or (map held old) j None
    pub used : count_by is_some (map held new) ≡ count_by is_some (map held old)
    pub grows : length old ≤ length new
    pub most : length new ≤ length old + count
