-- What the contracts of a map with room for some pairs cite.
use Rattle.std.specs.Prelude.{◌≡◌, ℕ, List, Result}
use Rattle.std.specs.Borrow.{Fml, RattleType, MutBor, RestsIfErr}
use Rattle.blart_keys.specs.declared.AsBytes.{Ghosts}
use Rattle.blart_map.specs.Content.{Numbered, pairs}
use Rattle.blart_map.specs.contracts.map.TreeMap as tree_map
use Rattle.blart_map.specs.declared.reserved.Room.{Room}
use Rattle.blart_map.specs.declared.reserved.Reserved.{Reserved}
-- the result of an insertion here, and the number of pairs that it added
pub use Rattle.art_edits.specs.Reserved.{as_tried, added, added_ok}

-- the reference to the map or set that the guard holds
abbrev pub reserved_map : {M R : Type 0} → Reserved M R → MutBor M
reserved_map s = s.map

-- what the guard holds until it ends
abbrev pub reserved_room : {M R : Type 0} → Reserved M R → R
reserved_room s = s.room

module _ {K V : Type 0} {P : ℕ} {g : Ghosts K} where
  -- the pairs, each under its leaf's number
  abbrev pub room_leaves : Room K V P g → List (Numbered K V)
  room_leaves r = r.tree.pairs

  -- the pairs without the numbers
  abbrev pub room_pairs : Room K V P g → List (K × V)
  room_pairs r = pairs (room_leaves r)

  -- the number of pairs for which there is room
  abbrev pub room_count : Room K V P g → ℕ
  room_count r = r.left

  -- the pairs that the map has once the guard ends
  abbrev pub held : {M : Type 0} → Reserved M (Room K V P g) → List (K × V)
  held s = room_pairs s.room

  -- the number of pairs for which the guard has room
  abbrev pub room_left : {M : Type 0} → Reserved M (Room K V P g) → ℕ
  room_left s = s.room.left

module _ (K V P : RattleType) (g : Ghosts K.Denot) where
  -- if r has no guard, the map is unchanged
  abbrev pub rests_if_full : {R E : Type 0} → MutBor (List (Numbered K.Denot V.Denot)) → Result (Reserved (List (Numbered K.Denot V.Denot)) R) E → Fml
  rests_if_full s r = RestsIfErr (tree_map.the_row K V P g) s (λ o. o.map.ghost_name) r (λ n. n ≡ s.now)
