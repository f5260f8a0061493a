-- The cells of a table: the records after a write of one cell.
use Rattle.std.proofs.Common.{◌≡◌, ◌≢◌, ℕ, ◌+◌, ◌<◌, List, [], ◌∷◌, map, length, get_or, set, Option, Some, None, is_some, IsSome, count_by, refl, sym, ap, subst, ◌∙◌, arith, true≢false}
use Rattle.std.specs.List.{AllZip}
use Rattle.std.proofs.lemmas.List.{map-set, length-map, get_or-map, get_or-set_same, get_or-set_other}
use Rattle.slab.specs.Slab.{IsSlotClone}
use Rattle.art_slots.specs.Table.{held, IsCopy}
use Rattle.art_slots.specs.declared.table.Cell.{Cell}
use Rattle.art_slots.specs.declared.table.Cell.TheVariants.{Full, Empty}
use Rattle.art_slots.proofs.StoreSlots.{one, within, count-set}

module _ {T : Type 0} where
  -- a number with a record is the number of a cell
  pub has_cell : (xs : List (Cell T)) (i : ℕ) → IsSome (get_or (map held xs) i None) → i < length xs
  has_cell xs i h = by_cell (get_or (map held xs) i None) refl h
    where
      by_cell : (o : Option T) → get_or (map held xs) i None ≡ o → IsSome o → i < length xs
      by_cell None e s = absurd (true≢false (sym s))
      by_cell (Some x) e s = (let w = within (map held xs) i x e in omega (arith, length-map xs (held {T = T})))

  -- a number less than the length of the list of records is the number of a cell
  pub cell_below : (xs : List (Cell T)) (i : ℕ) → i < length (map held xs) → i < length xs
  cell_below xs i l = omega (arith, length-map xs (held {T = T}))

  -- the record at a number is the record in its cell
  pub at-held : (xs : List (Cell T)) (i : ℕ) (c : Cell T) → i < length xs → c ≡ get_or xs i c → get_or (map held xs) i None ≡ held c
  at-held xs i c l e = get_or-map held xs i c None l ∙ ap held (sym e)

  module _ (xs : List (Cell T)) (i : ℕ) (l : i < length xs) (new : Cell T) where
    -- the record at a number after its cell was written
    pub now-cell : get_or (map held (set xs i new)) i None ≡ held new
    now-cell = ap (λ ys. get_or ys i None) (map-set held xs i new) ∙ get_or-set_same (map held xs) i (held new) None (omega (arith, length-map xs (held {T = T})))

    -- the record at each other number is unchanged
    pub others-cell : (j : ℕ) → j ≢ i → get_or (map held (set xs i new)) j None ≡ get_or (map held xs) j None
    others-cell j h = ap (λ ys. get_or ys j None) (map-set held xs i new) ∙ get_or-set_other (map held xs) i j (held new) None h

    -- how many records there are then
    pub count-cell : count_by is_some (map held (set xs i new)) + one (get_or (map held xs) i None) ≡ count_by is_some (map held xs) + one (held new)
    count-cell = rw (map-set held xs i new) (count-set (map held xs) i (held new) (omega (arith, length-map xs (held {T = T}))))

module _ {T : Type 0} (is_clone : T → T → Type 0) where
  -- the record in a copy of a cell is a clone
  copy-held : (x y : Cell T) → IsCopy is_clone x y → IsSlotClone is_clone (held x) (held y)
  copy-held (Full x) y (z, e, c) = subst (λ (d : Cell T). IsSlotClone is_clone (Some x) (held d)) (sym e) c
  copy-held Empty y e = ap held e

  -- the records in copies of cells are clones
  pub copies-held : (xs ys : List (Cell T)) → AllZip (IsCopy is_clone) xs ys → AllZip (IsSlotClone is_clone) (map held xs) (map held ys)
  copies-held [] [] h = tt
  copies-held [] (y ∷ ys) h = absurd h
  copies-held (x ∷ xs) [] h = absurd h
  copies-held (x ∷ xs) (y ∷ ys) h = (copy-held x y h.0, copies-held xs ys h.1)
