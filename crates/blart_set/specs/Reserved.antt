-- What the contracts of a set with room for some elements cite.
use Rattle.std.specs.Prelude.{◌≡◌, ℕ, List, Bool, true, false, Result, Ok, Err}
use Rattle.std.specs.Borrow.{Fml, RattleType, MutBor, RestsIfErr}
use Rattle.blart_keys.specs.declared.AsBytes.{Ghosts}
use Rattle.blart_map.specs.Reserved.{room_leaves, room_count}
use Rattle.blart_map.specs.declared.reserved.Room.{Room}
use Rattle.blart_set.specs.Elements.{Numbered, elements}
use Rattle.blart_set.specs.contracts.set.TreeSet as tree_set
use Rattle.blart_set.specs.declared.reserved.Reserved.{Reserved}

-- the reference to the set that the guard holds
abbrev pub reserved_set : {S R : Type 0} → Reserved S R → MutBor S
reserved_set s = s.set

-- what the guard holds until it ends
abbrev pub reserved_room : {S R : Type 0} → Reserved S R → R
reserved_room s = s.room

module _ {K : Type 0} {P : ℕ} {g : Ghosts K} where
  -- the elements that the set has once the guard ends
  abbrev pub held_elements : {S : Type 0} → Reserved S (Room K (Unit {0}) P g) → List K
  held_elements s = elements (room_leaves s.room)

  -- the number of elements for which the guard has room
  abbrev pub elements_left : {S : Type 0} → Reserved S (Room K (Unit {0}) P g) → ℕ
  elements_left s = room_count s.room

-- the number of elements that were added by an insertion that returns whether the bytes were new
abbrev pub added_new : Bool → ℕ
added_new true = 1
added_new false = 0

-- the same for an insertion that may return an error
abbrev pub added_new_ok : {E : Type 0} → Result Bool E → ℕ
added_new_ok (Ok new) = added_new new
added_new_ok (Err e) = 0

module _ (K P : RattleType) (g : Ghosts K.Denot) where
  -- if r has no guard, the set is unchanged
  abbrev pub rests_if_full : {R E : Type 0} → MutBor (List (Numbered K.Denot (Unit {0}))) → Result (Reserved (List (Numbered K.Denot (Unit {0}))) R) E → Fml
  rests_if_full s r = RestsIfErr (tree_set.the_row K P g) s (λ o. o.set.ghost_name) r (λ n. n ≡ s.now)
