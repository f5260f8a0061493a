-- What an occupied entry is once a returned `&mut` to its value ends.
use Rattle.std.specs.Prelude.{[]}
use Rattle.std.specs.Borrow.{Fml, RattleType, MutBor, follows}
use mir.Syntax.{named}
use denote.Param.{value_of}
use Rattle.blart_keys.specs.declared.AsBytes.{Ghosts}
use Rattle.blart_map.specs.declared.occupied.OccupiedEntry.{OccupiedEntry}
use Rattle.blart_map.specs.contracts.occupied.OccupiedEntry as occupied
use Rattle.blart_map.specs.OccupiedEntry.{with_entry_value}

module _ (K V P T : RattleType) (g : Ghosts K.Denot) where
  -- once the borrow r ends, the entry to which o leads has the last value written through r. Its
  -- lifetime is the second of the signature
  abbrev pub entry_value_lends : MutBor (OccupiedEntry K.Denot V.Denot (value_of P) T.Denot g) → MutBor V.Denot → Fml
  entry_value_lends o r = follows (occupied.the_row (record { mir = named 1; lft = [] }) K V P T g) V o.ghost_name r.ghost_name (with_entry_value o.now)
