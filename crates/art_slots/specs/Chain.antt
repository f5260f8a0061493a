-- How slots lay out their records. No clause of another module cites this one.
use Rattle.std.specs.Prelude.{◌≡◌, ◌+◌, ◌-◌, ◌<◌, ◌≤◌, ◌^◌, ℕ, zero, suc, List, map, Option, Some, None, is_some, count_by, slice_index_or, if◌then◌else◌, ltb}
use Rattle.art_slots.specs.declared.slots.Slot.{Slot}
use Rattle.art_slots.specs.declared.slots.Slot.TheVariants.{Used, Spare}

module _ {T : Type 0} where
  -- the record in a slot, if it has one
  abbrev pub used_of : Option (Slot T) → Option T
  used_of None = None
  used_of (Some (Used x)) = Some x
  used_of (Some (Spare _)) = None

  -- the second slot is like the first, with a clone of its record
  abbrev pub IsCopy : (T → T → Type 0) → Slot T → Slot T → Type 0
  IsCopy is_clone (Used x) copy = (y : T) × (copy ≡ Used y) × is_clone x y
  IsCopy is_clone (Spare next) copy = copy ≡ Spare next

  -- from this number on, n spare slots each name the next, and the last names none
  abbrev pub AreLinked : List (Option (Slot T)) → ℕ → Option ℕ → Type 0
  AreLinked slots zero from = from ≡ None
  AreLinked slots (suc n) from =
      (id : ℕ) × (next : Option ℕ) × (from ≡ Some id) × (slice_index_or slots id None ≡ Some (Spare next))
      × AreLinked slots n next

  -- the spare slots are linked, all other slots have records, and all numbers are below a small top
  pub record HasSpares (slots : List (Option (Slot T))) (free : Option ℕ) (spare top : ℕ) : Type 0 where
    pub linked : AreLinked slots spare free
    pub all : count_by is_some (map used_of slots) + spare ≡ count_by is_some slots
    pub fits : count_by is_some slots < 2 ^ 61
    pub numbered : (i : ℕ) (x : Slot T) → slice_index_or slots i None ≡ Some x → i < top
    pub small : top ≤ 2 ^ 61

-- how many slots can be added without an allocation, or 0 if their numbers may be too great
abbrev pub room_of : (slots capacity : ℕ) → ℕ
room_of slots capacity = if ltb capacity (2 ^ 61) then capacity - slots else 0
