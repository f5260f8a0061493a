-- What a map is once a returned `&mut` to the value of a key, which may be new, ends.
use Rattle.std.specs.Prelude.{◌≡◌, List, Result}
use Rattle.std.specs.Borrow.{LendsSoOk, Fml, RattleType, MutBor}
use Rattle.blart_keys.specs.declared.AsBytes.{Ghosts}
use Rattle.art_edits.specs.Places.{IsSetAt}
use Rattle.blart_map.specs.Content.{Numbered, pairs}
use Rattle.blart_map.specs.contracts.map.TreeMap as tree_map

module _ (K V P : RattleType) (g : Ghosts K.Denot) where
  -- once r ends, the key has the last value written through r; at `Err` the pairs are unchanged
  abbrev pub lends_key_ok : {E : Type 0} → MutBor (List (Numbered K.Denot V.Denot)) → K.Denot → Result (MutBor V.Denot) E → Fml
  lends_key_ok s key r = LendsSoOk (tree_map.the_row K V P g) V s r (λ n w. IsSetAt g.bytes (pairs s.now) key w (pairs n)) (λ n. n ≡ s.now)
