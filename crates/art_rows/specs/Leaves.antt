-- What a contract sees of leaves in rows.
use Rattle.std.specs.Prelude.{◌≡◌, ◌+◌, ◌*◌, ℕ, List, [], ◌∷◌, ◌++◌, map, Option, Some, None, refl, if◌then◌else◌, eqb}
use Rattle.std.specs.Coded.{Coded, code_by, coded×, coded_ℕ, coded_list}
use Rattle.std.specs.List.{AllZip}
use Rattle.art_rows.specs.Numbers.{Numbered}
use Rattle.art_rows.specs.Rows.{index_in, lengths}
use Rattle.art_rows.specs.RowRoom.{row_room, row_end_room}
use Rattle.art_rows.specs.declared.row.TheConstants.{ROW}

-- the pairs in order, each under its id, the rows of their ids, and the number of spare rows
pub record Leaves (K V : Type 0) : Type 0 where
  pub pairs : List (Numbered (K × V))
  pub rows : List (Numbered (List ℕ))
  pub spare_rows : ℕ

abbrev pub leaves_code : {K V : Type 0} → Coded K → Coded V → Coded (Leaves K V)
leaves_code {K} {V} k v =
    code_by
    (List (ℕ × (K × V)) × (List (ℕ × List ℕ) × ℕ))
    (coded× (coded_list (coded× coded_ℕ (coded× k v))) (coded× (coded_list (coded× coded_ℕ (coded_list coded_ℕ))) coded_ℕ))
    (λ s. (s.pairs, (s.rows, s.spare_rows)))
    (λ p. record { pairs = p.0; rows = p.1.0; spare_rows = p.1.1 })
    (λ _. refl)

module _ {K V : Type 0} where
  -- for how many more leaves there surely is room
  abbrev pub room : Leaves K V → ℕ
  room l = row_room (lengths l.rows) l.spare_rows

  -- for how many more leaves there is room after all others
  abbrev pub end_room : Leaves K V → ℕ
  end_room l = ROW * l.spare_rows + row_end_room (lengths l.rows)

  -- how many pairs come before the pair of a number
  abbrev pub count_before : List (Numbered (K × V)) → ℕ → ℕ
  count_before ps i = index_in (map (λ p. p.0) ps) i

  -- how many pairs come before a spot, which is after a number or before all pairs
  abbrev pub spot_index : Option ℕ → List (Numbered (K × V)) → ℕ
  spot_index None ps = 0
  spot_index (Some i) ps = count_before ps i + 1

  -- the pairs, with another value under a number
  abbrev pub with_value : List (Numbered (K × V)) → ℕ → V → List (Numbered (K × V))
  with_value [] i v = []
  with_value (p ∷ ps) i v = if eqb p.0 i then (p.0, (p.1.0, v)) ∷ ps else p ∷ with_value ps i v

  -- the first pair is removed, if there is one
  abbrev pub TakesFirst : List (Numbered (K × V)) → Option (K × V) → List (Numbered (K × V)) → Type 0
  TakesFirst old None new = (old ≡ []) × (new ≡ [])
  TakesFirst old (Some x) new = (id : ℕ) × (old ≡ (id, x) ∷ new)

  -- the last pair is removed, if there is one
  abbrev pub TakesLast : List (Numbered (K × V)) → Option (K × V) → List (Numbered (K × V)) → Type 0
  TakesLast old None new = (old ≡ []) × (new ≡ [])
  TakesLast old (Some x) new = (id : ℕ) × (old ≡ new ++ (id, x) ∷ [])

module _ {K V : Type 0} (is_key : K → K → Type 0) (is_value : V → V → Type 0) where
  -- the number is the same, and the key and the value are clones
  pub record IsCopy (old new : Numbered (K × V)) : Type 0 where
    pub number : new.0 ≡ old.0
    pub key : is_key old.1.0 new.1.0
    pub value : is_value old.1.1 new.1.1

  -- each pair is a copy of the pair at the same index
  abbrev pub AreCopies : List (Numbered (K × V)) → List (Numbered (K × V)) → Type 0
  AreCopies ps qs = AllZip IsCopy ps qs
