-- The pairs from one number through another in a list of numbered pairs.
use Rattle.std.specs.Prelude.{◌≢◌, ℕ, List, [], ◌∷◌, Option, Some, None, if◌then◌else◌, eqb}
use Rattle.art_tree.specs.Leaves.{Following, Numbered, Has, RunsBefore, StandsAfter}

module _ {K V : Type 0} where
  -- the pairs from the pair with this number on
  abbrev pub from_number : List (Numbered K V) → ℕ → List (Numbered K V)
  from_number [] i = []
  from_number (p ∷ ps) i = if eqb p.0 i then p ∷ ps else from_number ps i

  -- the pairs up to the pair with this number, and that pair
  abbrev pub through_number : List (Numbered K V) → ℕ → List (Numbered K V)
  through_number [] i = []
  through_number (p ∷ ps) i = p ∷ (if eqb p.0 i then [] else through_number ps i)

  -- the pairs from one number through another
  abbrev pub span_of : List (Numbered K V) → ℕ → ℕ → List (Numbered K V)
  span_of ps first last = through_number (from_number ps first) last

  -- both numbers are in the list, the first not after the last
  abbrev pub IsSpan : List (Numbered K V) → ℕ → ℕ → Type 0
  IsSpan ps first last = Has (from_number ps first) last

  -- the pairs from the first number through the last, if there are ends
  abbrev pub ends_left : Option (ℕ × ℕ) → List (Numbered K V) → List (Numbered K V)
  ends_left None ps = []
  ends_left (Some e) ps = span_of ps e.0 e.1

  -- the ends, if there are any, are in the list, the first not after the last
  abbrev pub EndsFit : Option (ℕ × ℕ) → List (Numbered K V) → Type 0
  EndsFit None ps = Unit {0}
  EndsFit (Some e) ps = IsSpan ps e.0 e.1

  -- `before` is directly before the last end; `following` directly after the first, if they differ
  abbrev pub StandsBeside : Option (ℕ × ℕ) → Following → List ℕ → List (Numbered K V) → List (ℕ × List ℕ) → Type 0
  StandsBeside None following before ps rows = Unit {0}
  StandsBeside (Some e) following before ps rows = (e.0 ≢ e.1 → StandsAfter ps rows e.0 following) × RunsBefore ps e.1 before
