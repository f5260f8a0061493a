-- What a map is once a returned `&mut` to the value of one of its leaves ends.
use Rattle.std.specs.Prelude.{ℕ, List}
use Rattle.std.specs.Borrow.{Lends, Fml, RattleType, MutBor}
use Rattle.blart_keys.specs.declared.AsBytes.{Ghosts}
use Rattle.art_tree.specs.Leaves.{Numbered, with_value}
use Rattle.blart_map.specs.contracts.map.TreeMap as tree_map

module _ (K V P : RattleType) (g : Ghosts K.Denot) where
  -- once the borrow r ends, the leaf with this number has the last value written through r
  abbrev pub lends_leaf : MutBor (List (Numbered K.Denot V.Denot)) → ℕ → MutBor V.Denot → Fml
  lends_leaf s id r = Lends (tree_map.the_row K V P g) V s r (λ w. with_value s.now id w)
