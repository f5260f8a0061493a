-- What `and_modify` makes of an entry.
use Rattle.std.specs.Prelude.{◌≡◌, ℕ, Some}
use Rattle.std.specs.Borrow.{MutBor}
use denote.Param.Members.{Once}
use Rattle.std.specs.Map.Calls.{MayWrite}
use Rattle.blart_keys.specs.declared.AsBytes.{Ghosts}
use Rattle.blart_map.specs.declared.entry.Entry.{Entry}
use Rattle.blart_map.specs.declared.entry.Entry.TheVariants.{Occupied, Vacant}
use Rattle.blart_map.specs.Entry.{entry_value, IsSameWith}

module _ {K V T F : Type 0} {P : ℕ} {g : Ghosts K} (calls : Once F (MutBor V × Unit {0}) (Unit {0} × (MutBor V × Unit {0}))) (f : F) where
  -- d is e after f was called on the value, if there is one
  abbrev pub IsModified : Entry K V P T g → Entry K V P T g → Type 0
  IsModified (Occupied o) d = (v : V) × (w : V) × (entry_value (Occupied o) ≡ Some v) × MayWrite calls f v w × IsSameWith (Occupied o) w d
  IsModified (Vacant e) d = d ≡ Vacant e
