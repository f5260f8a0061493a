-- Many pairs at once.
use Rattle.std.specs.Prelude.{List, [], ◌∷◌, ◌++◌, Option, Result, Ok, Err}
use Rattle.std.specs.Iterator.{Yields, Drains}
-- each pair is a clone of the pair at its place
pub use Rattle.art_tree.specs.Clones.{IsPairClone, AreClones}
-- the first, if there is one, or else the second
pub use Rattle.art_edits.specs.Bulk.{or_else}

module _ {I A E : Type 0} (steps : I → Option A → I → Type 0) (items : I) where
  -- all items are put; or those before one with new bytes, for which it fails to allocate
  abbrev pub TakesItems : Result (Unit {0}) E → (List A → Type 0) → (A → Type 0) → Type 0
  TakesItems (Ok done) Put New = (xs : List A) × Drains steps items xs × Put xs
  TakesItems (Err e) Put New = (xs : List A) × (x : A) × (rest : I) × Yields steps items (xs ++ x ∷ []) rest × Put xs × New x
