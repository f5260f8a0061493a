-- How the records of a chain are linked.
use Rattle.std.specs.Prelude.{◌≡◌, ℕ, zero, suc, List, [], ◌∷◌, length, Option, option_map, Some, None, Bool, false, if◌then◌else◌, eqb}
use Rattle.art_slots.specs.Slots.{Slots}
use Rattle.art_slots.specs.Store.{Store, slot_at as at, used_count}
use Rattle.art_rows.specs.Numbers.{Numbered as Pair, Numbers as Content, leaf_in, first_number, last_number, number_after, number_before, AreDistinct}
use Rattle.art_rows.specs.declared.chain.Link.{Link}

-- the option has this number
abbrev pub is_at : Option ℕ → ℕ → Bool
is_at None j = false
is_at (Some i) j = eqb i j

-- an end of the list: the new one if no record is beyond the link, or else the old one
abbrev pub end_with : Option ℕ → Option ℕ → Option ℕ → Option ℕ
end_with None to old = to
end_with (Some i) to old = old

module _ {X : Type 0} where
  -- the pair of this record, and then the pairs to which its link leads
  abbrev pub step : (Option ℕ → List (Pair X)) → ℕ → Option (Link X) → List (Pair X)
  step rest i None = []
  step rest i (Some x) = (i, x.item) ∷ rest x.next

  -- the pairs to which the links lead, at most n of them
  abbrev pub follow : (ℕ → Option (Link X)) → ℕ → Option ℕ → List (Pair X)
  follow leaves zero start = []
  follow leaves (suc n) None = []
  follow leaves (suc n) (Some i) = step (follow leaves n) i (leaves i)

  -- the record under a number: its item, linked to its neighbours
  abbrev pub linked : List (Pair X) → ℕ → Option (Link X)
  linked ps i =
      option_map
      (λ (x : X). record { item = x; prev = number_before ps i; next = number_after ps i })
      (leaf_in ps i)

  -- the records are those of the pairs, each linked to its neighbours
  pub record Links (leaves : ℕ → Option (Link X)) (first last : Option ℕ) (count : ℕ) (pairs : List (Pair X)) : Type 0 where
    pub distinct : AreDistinct pairs
    pub each : (i : ℕ) → leaves i ≡ linked pairs i
    pub starts : first ≡ first_number pairs
    pub ends : last ≡ last_number pairs
    pub counted : count ≡ length pairs

  -- the pairs of a store of records
  abbrev pub pairs_in : Store (Link X) → Option ℕ → List (Pair X)
  pairs_in leaves first = follow (at leaves) (used_count leaves) first

  -- the links lead to all records, and each record is linked to its neighbours
  abbrev pub AllLinked : Store (Link X) → Option ℕ → Option ℕ → Type 0
  AllLinked leaves first last = Links (at leaves) first last (used_count leaves) (pairs_in leaves first)

  -- what a contract sees of linked records
  abbrev pub content : Slots (Link X) → Option ℕ → Content X
  content leaves first = record { pairs = pairs_in leaves.store first; spare = leaves.store.spare; room = leaves.room; top = leaves.top; next = leaves.next }

  -- the records, with the record i, if there is one, linked to `to` as the next
  abbrev pub with_next : (ℕ → Option (Link X)) → Option ℕ → Option ℕ → ℕ → Option (Link X)
  with_next leaves i to j = if is_at i j then option_map (λ (x : Link X). record x { next = to }) (leaves j) else leaves j

  -- the records, with the record i, if there is one, linked to `to` as the previous
  abbrev pub with_prev : (ℕ → Option (Link X)) → Option ℕ → Option ℕ → ℕ → Option (Link X)
  with_prev leaves i to j = if is_at i j then option_map (λ (x : Link X). record x { prev = to }) (leaves j) else leaves j
