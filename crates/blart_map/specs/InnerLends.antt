-- What an inner entry, or its map, is once a returned `&mut` to a value ends, or if no entry is
-- returned.
use Rattle.std.specs.Prelude.{◌≡◌, [], Option}
use Rattle.std.specs.Option.{ghost_name_of, OnSome, IfNone}
use Rattle.std.specs.Borrow.{Fml, RattleType, MutBor, Lends, RestsIfNone, follows_so}
use mir.Syntax.{named}
use denote.Param.{value_of}
use Rattle.blart_keys.specs.declared.AsBytes.{Ghosts}
use Rattle.art_tree.specs.Leaves.{with_value}
use Rattle.blart_map.specs.contracts.map.TreeMap as tree_map
use Rattle.blart_map.specs.contracts.inner.InnerOccupiedEntry as inner
use Rattle.blart_map.specs.declared.inner.InnerOccupiedEntry.{InnerOccupiedEntry}
use Rattle.blart_map.specs.declared.occupied.OccupiedEntry.{OccupiedEntry}
use Rattle.blart_map.specs.InnerEntry.{IsInnerWith, over_leaf}

module _ (K V P T : RattleType) (g : Ghosts K.Denot) where
  -- once the borrow r ends, the first related pair of the entry to which e leads has the last value
  -- written through r; at `None` the entry is unchanged. Its lifetime is the second of the
  -- signature
  abbrev pub inner_value_lends : MutBor (InnerOccupiedEntry K.Denot V.Denot (value_of P) T.Denot g) → Option (MutBor V.Denot) → Fml
  inner_value_lends e r =
      follows_so (inner.the_row (record { mir = named 1; lft = [] }) K V P T g) V e.ghost_name (ghost_name_of r)
      (λ w n. OnSome r (IsInnerWith e.now (with_value e.now.map.now e.now.first w) n))
      (λ n. IfNone r (IsInnerWith e.now e.now.map.now n))

module _ (K V P : RattleType) (g : Ghosts K.Denot) where
  -- if r has no entry, the map of e is unchanged
  abbrev pub inner_rests : {T : Type 0} → InnerOccupiedEntry K.Denot V.Denot (value_of P) T g → Option (OccupiedEntry K.Denot V.Denot (value_of P) T g) → Fml
  inner_rests e r = RestsIfNone (tree_map.the_row K V P g) e.map (λ o. o.map.ghost_name) r (λ n. n ≡ e.map.now)

  -- once r ends, the key of e has the last value written through r, and replaces all related pairs
  abbrev pub inner_lends : {T : Type 0} → InnerOccupiedEntry K.Denot V.Denot (value_of P) T g → MutBor V.Denot → Fml
  inner_lends e r = Lends (tree_map.the_row K V P g) V e.map r (over_leaf e)
