-- What a map is once a `&mut` to a value, which a prefix entry of it returned, ends.
use Rattle.std.specs.Prelude.{◌≡◌, Result}
use Rattle.std.specs.Borrow.{Fml, RattleType, MutBor, Lends, LendsSoOk, RestsIfErr}
use denote.Param.{value_of}
use Rattle.blart_keys.specs.declared.AsBytes.{Ghosts}
use Rattle.blart_map.specs.contracts.map.TreeMap as tree_map
use Rattle.blart_map.specs.declared.inner.InnerOccupiedEntry.{InnerOccupiedEntry}
use Rattle.blart_map.specs.declared.occupied.OccupiedEntry.{OccupiedEntry}
use Rattle.blart_map.specs.declared.prefix_kind.PrefixKind.{PrefixKind}
use Rattle.blart_map.specs.declared.prefix_occupied.PrefixOccupied.{PrefixOccupied}
use Rattle.blart_map.specs.PrefixEntry.{occupied_ref, occupied_with}
use Rattle.blart_map.specs.PrefixKind.{kind_ref, IsKindSet}

module _ (K V P : RattleType) (g : Ghosts K.Denot) where
  -- once the borrow r ends, the key has the last value written through r
  abbrev pub occupied_lends : {T : Type 0} → PrefixOccupied K.Denot V.Denot (value_of P) T g → MutBor V.Denot → Fml
  occupied_lends e r = Lends (tree_map.the_row K V P g) V (occupied_ref e) r (occupied_with e)

  -- the same, in the place of all related pairs; at `Err` the map is unchanged
  abbrev pub kind_lends_ok : {T E : Type 0} → PrefixKind K.Denot V.Denot (value_of P) T g → Result (MutBor V.Denot) E → Fml
  kind_lends_ok e r = LendsSoOk (tree_map.the_row K V P g) V (kind_ref e) r (λ n w. IsKindSet e w n) (λ n. n ≡ (kind_ref e).now)

  -- if r has no entry, the map of e is unchanged
  abbrev pub kind_rests : {T E : Type 0} → PrefixKind K.Denot V.Denot (value_of P) T g → Result (OccupiedEntry K.Denot V.Denot (value_of P) T g) E → Fml
  kind_rests e r = RestsIfErr (tree_map.the_row K V P g) (kind_ref e) (λ o. o.map.ghost_name) r (λ n. n ≡ (kind_ref e).now)

  -- the same for an inner entry
  abbrev pub inner_over_rests : {T E : Type 0} → InnerOccupiedEntry K.Denot V.Denot (value_of P) T g → Result (OccupiedEntry K.Denot V.Denot (value_of P) T g) E → Fml
  inner_over_rests e r = RestsIfErr (tree_map.the_row K V P g) e.map (λ o. o.map.ghost_name) r (λ n. n ≡ e.map.now)
