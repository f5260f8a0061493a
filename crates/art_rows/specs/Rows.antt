-- Rows of numbers: the row and the index of a number, and the numbers of all rows in order.
use Rattle.std.specs.Prelude.{◌≡◌, ◌≤◌, ℕ, zero, suc, ◌+◌, ◌-◌, ◌<◌, List, [], ◌∷◌, ◌++◌, length, map, Option, Some, None, IfSome, Bool, true, false, if◌then◌else◌, eqb, ltb}
use Rattle.art_rows.specs.Numbers.{Numbered, leaf_in}
use Rattle.art_rows.specs.declared.following.Following.{Following}
use Rattle.art_rows.specs.declared.row.Position.{Position}

-- the number is in the list
abbrev pub among : List ℕ → ℕ → Bool
among [] i = false
among (n ∷ ns) i = if eqb n i then true else among ns i

-- how many numbers come before this one
abbrev pub index_in : List ℕ → ℕ → ℕ
index_in [] i = 0
index_in (n ∷ ns) i = if eqb n i then 0 else suc (index_in ns i)

-- the item at an index, if there is one
abbrev pub nth : {X : Type 0} → List X → ℕ → Option X
nth [] k = None
nth (n ∷ ns) zero = Some n
nth (n ∷ ns) (suc k) = nth ns k

-- the numbers of the rows, in order
abbrev pub numbers : List (Numbered (List ℕ)) → List ℕ
numbers [] = []
numbers (r ∷ rs) = r.1 ++ numbers rs

-- the row that has a number
abbrev pub row_with : List (Numbered (List ℕ)) → ℕ → ℕ
row_with [] i = 0
row_with (r ∷ rs) i = if among r.1 i then r.0 else row_with rs i

-- the row and the index of the number with k numbers before it
abbrev pub position_at : List (Numbered (List ℕ)) → ℕ → Option Position
position_at [] k = None
position_at (r ∷ rs) k = if ltb k (length r.1) then Some (record { row = r.0; index = k }) else position_at rs (k - length r.1)

-- no row is empty
abbrev pub AreFilled : List (Numbered (List ℕ)) → Type 0
AreFilled [] = Unit {0}
AreFilled (r ∷ rs) = (0 < length r.1) × AreFilled rs

-- a position, or the end of a row, with k numbers before it
pub record IsSpot (rows : List (Numbered (List ℕ))) (p : Position) (k : ℕ) : Type 0 where
  pub before : List (Numbered (List ℕ))
  pub ids : List ℕ
  pub after : List (Numbered (List ℕ))
  pub is : rows ≡ before ++ (p.row, ids) ∷ after
  pub index : k ≡ length (numbers before) + p.index
  pub within : p.index ≤ length ids

-- how many numbers a row and the rows before it have, or 0 if no row is named
abbrev pub row_end : Option ℕ → List (Numbered (List ℕ)) → ℕ
row_end None rows = 0
row_end (Some r) [] = 0
row_end (Some r) (q ∷ qs) = length q.1 + (if eqb q.0 r then 0 else row_end (Some r) qs)

-- how many numbers each row has
abbrev pub lengths : List (Numbered (List ℕ)) → List ℕ
lengths rows = map (λ r. length r.1) rows

-- the start of a row
abbrev pub start_of : ℕ → Position
start_of r = record { row = r; index = 0 }

-- the position of a leaf whose position is not known
abbrev pub nowhere : Position
nowhere = record { row = 0; index = 0 }

-- what follows a leaf if nothing was looked up after it
abbrev pub nothing_follows : Following
nothing_follows = record { run = []; row = None; first = None; rest = [] }

-- the row r has this first number, if there is one, and the others after it
abbrev pub IsLookedUp : List (Numbered (List ℕ)) → Option ℕ → List ℕ → ℕ → Type 0
IsLookedUp rows first rest r = IfSome first (λ n. leaf_in rows r ≡ Some (n ∷ rest))

module _ {X : Type 0} where
  -- the numbers of a run come directly after i, in this order
  abbrev pub RunsAfter : List (Numbered X) → ℕ → List ℕ → Type 0
  RunsAfter ps i run = (j n : ℕ) → nth run j ≡ Some n → nth (map (λ p. p.0) ps) (index_in (map (λ p. p.0) ps) i + 1 + j) ≡ Some n

  -- the numbers of a run come directly before i, in this order
  abbrev pub RunsBefore : List (Numbered X) → ℕ → List ℕ → Type 0
  RunsBefore ps i run = (length run ≤ index_in (map (λ p. p.0) ps) i) × ((j n : ℕ) → nth run j ≡ Some n → nth (map (λ p. p.0) ps) (index_in (map (λ p. p.0) ps) i + j - length run) ≡ Some n)

  -- the run comes directly after i, and then the start of the row, if one is named
  pub record StandsAfter (ps : List (Numbered X)) (rows : List (Numbered (List ℕ))) (i : ℕ) (following : Following) : Type 0 where
    pub run : RunsAfter ps i following.run
    pub row : IfSome following.row (λ r. position_at rows (index_in (map (λ p. p.0) ps) i + 1 + length following.run) ≡ Some (start_of r))
    pub ahead : IfSome following.row (IsLookedUp rows following.first following.rest)
