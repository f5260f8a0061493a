-- Full rows, and the end of all rows.
use Rattle.std.proofs.Common.{◌≡◌, ℕ, ◌+◌, ◌-◌, ◌<◌, ◌≤◌, List, [], length, map, sym, ap, ◌∙◌, refl, Option, Some, None, arith}
use Rattle.std.specs.Prelude.{IfSome}
use Rattle.art_rows.specs.Numbers.{Numbered}
use Rattle.art_rows.specs.Rows.{position_at, nth, numbers, row_end}
use Rattle.art_rows.specs.Leaves.{count_before, spot_index}
use Rattle.art_rows.specs.Filing.{Files}
use Rattle.art_rows.specs.declared.leaves.Leaf.{Leaf}
use Rattle.art_rows.specs.declared.row.Position.{Position}
use Rattle.art_rows.proofs.Ends.{last_index, last_none}
use Rattle.art_rows.proofs.FilingLemmas.{how_many, none_there}
use Rattle.art_rows.proofs.Rooms.{no_rows, IsLast, is_last, last_end}

-- a row with at least 64 numbers is full
pub is_full : (o : Option (List ℕ)) (n : ℕ) → IfSome o (λ ids. n ≡ length ids) → n ≤ 64 → 64 ≤ n → IfSome o (λ ids. length ids ≡ 64)
is_full None n len most least = len
is_full (Some ids) n len most least = omega arith

-- at index 0 there is no leaf before, so no pairs come before it
pub in_front : {X Y : Type 0} (prev : Option ℕ) (ps : List (Numbered (X × Y))) (index : ℕ) → IfSome prev (λ _. 0 < index) → index ≡ 0 → spot_index prev ps ≡ 0
in_front None ps index later z = refl
in_front (Some i) ps index later z = absurd (omega arith)

-- ---- the end of all rows

module _ {K V : Type 0} {leaves : ℕ → Option (Leaf K V)} {rows : List (Numbered (List ℕ))} {count : ℕ} {ps : List (Numbered (K × V))} (f : Files leaves rows count ps) where
  -- if there is no last position, there are no pairs and no rows
  pub nothing_there : position_at rows (length ps - 1) ≡ None → (ps ≡ []) × (rows ≡ [])
  nothing_there e =
      let none = last_none ps (none_there f (length ps - 1) e) in
      let n : length (numbers rows) ≡ 0 = how_many f ∙ ap length none in
      (none, no_rows rows f.filled n)

  module _ (p : Position) (at : position_at rows (length ps - 1) ≡ Some p) where
    -- the last position is at the end of the last row
    pub at_last : IsLast rows p
    at_last = is_last rows f.filled (length ps - 1) p at (ap (λ n. n - 1) (sym (how_many f)))

    -- the index after the last leaf is the end of that row
    pub last_leaf_end : (i : ℕ) → nth (map (λ q. q.0) ps) (length ps - 1) ≡ Some i → count_before ps i + 1 ≡ row_end (Some p.row) rows
    last_leaf_end i is = ap (λ n. n + 1) (last_index ps i f.distinct is) ∙ last_end at_last f.apart (length ps - 1) (ap (λ n. n - 1) (sym (how_many f)))
