-- The pairs of a list of numbered pairs that a cursor has left.
use Rattle.std.specs.Prelude.{◌≡◌, ℕ, List, [], ◌∷◌, ◌++◌, Option, Some, None}
use Rattle.art_tree.specs.Leaves.{Numbered, nowhere}
use Rattle.art_walk.specs.declared.cursor.Cursor.{Cursor}
-- the pairs from one number through another
pub use Rattle.art_tree.specs.Spans.{from_number, through_number, span_of, IsSpan, ends_left, EndsFit}

-- a cursor with no pairs left
abbrev pub nothing_left : Cursor
nothing_left = record { ends = None; first_at = nowhere; last_at = nowhere }

-- a cursor from one number through another
abbrev pub left_between : ℕ → ℕ → Cursor
left_between first last = record { ends = Some (first, last); first_at = nowhere; last_at = nowhere }

module _ {K V : Type 0} where
  -- the pairs that are left
  abbrev pub leaves_left : Cursor → List (Numbered K V) → List (Numbered K V)
  leaves_left c ps = ends_left c.ends ps

  -- the ends are in the list, the first not after the last
  abbrev pub FitsIn : Cursor → List (Numbered K V) → Type 0
  FitsIn c ps = EndsFit c.ends ps

  -- the first pair is passed, if there is one, and this is its number
  abbrev pub PassesFirst : List (Numbered K V) → Option ℕ → List (Numbered K V) → Type 0
  PassesFirst old None new = (old ≡ []) × (new ≡ [])
  PassesFirst old (Some id) new = (x : K × V) × (old ≡ (id, x) ∷ new)

  -- the last pair is passed, if there is one, and this is its number
  abbrev pub PassesLast : List (Numbered K V) → Option ℕ → List (Numbered K V) → Type 0
  PassesLast old None new = (old ≡ []) × (new ≡ [])
  PassesLast old (Some id) new = (x : K × V) × (old ≡ new ++ (id, x) ∷ [])
