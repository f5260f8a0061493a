-- What a map is once a `&mut` to a value, which an entry of it returned, ends.
use Rattle.std.specs.Prelude.{◌≡◌, List, Option, Result}
use Rattle.std.specs.Borrow.{Fml, RattleType, MutBor, LendsSoOk, RestsIfErr, RestsIfNone}
use denote.Param.{value_of}
use Rattle.blart_keys.specs.declared.AsBytes.{Ghosts}
use Rattle.blart_map.specs.Content.{Numbered}
use Rattle.blart_map.specs.contracts.map.TreeMap as tree_map
use Rattle.blart_map.specs.declared.entry.Entry.{Entry}
use Rattle.blart_map.specs.declared.occupied.OccupiedEntry.{OccupiedEntry}
use Rattle.blart_map.specs.Entry.{entry_ref, SetsValue}

module _ (K V P : RattleType) (g : Ghosts K.Denot) where
  -- once r ends, the key has the last value written through r; at `Err` the map is unchanged
  abbrev pub entry_lends_ok : {T E : Type 0} → Entry K.Denot V.Denot (value_of P) T g → Result (MutBor V.Denot) E → Fml
  entry_lends_ok e r = LendsSoOk (tree_map.the_row K V P g) V (entry_ref e) r (λ n w. SetsValue e w n) (λ n. n ≡ (entry_ref e).now)

  -- if r has no entry, the map of e is unchanged
  abbrev pub entry_rests : {T E : Type 0} → Entry K.Denot V.Denot (value_of P) T g → Result (OccupiedEntry K.Denot V.Denot (value_of P) T g) E → Fml
  entry_rests e r = RestsIfErr (tree_map.the_row K V P g) (entry_ref e) (λ o. o.map.ghost_name) r (λ n. n ≡ (entry_ref e).now)

  -- if r has no entry, the map is unchanged
  abbrev pub rests_if_refused : {T E : Type 0} → MutBor (List (Numbered K.Denot V.Denot)) → Result (Entry K.Denot V.Denot (value_of P) T g) E → Fml
  rests_if_refused s r = RestsIfErr (tree_map.the_row K V P g) s (λ e. (entry_ref e).ghost_name) r (λ n. n ≡ s.now)

  -- if r has no entry, the map is unchanged
  abbrev pub rests_if_none : {T : Type 0} → MutBor (List (Numbered K.Denot V.Denot)) → Option (OccupiedEntry K.Denot V.Denot (value_of P) T g) → Fml
  rests_if_none s r = RestsIfNone (tree_map.the_row K V P g) s (λ o. o.map.ghost_name) r (λ n. n ≡ s.now)
