-- What a tree becomes once a returned `&mut` to one of its values ends.
use Rattle.std.specs.Prelude.{ℕ}
use Rattle.std.specs.Borrow.{Lends, Fml, RattleType, MutBor}
use Rattle.blart_keys.specs.declared.AsBytes.{Ghosts}
use Rattle.art_tree.specs.Content.{Content}
use Rattle.art_tree.specs.Leaves.{with_value}
use Rattle.art_tree.specs.contracts.tree.Tree as tree

module _ (K V P : RattleType) (g : Ghosts K.Denot) where
  -- once the borrow r ends, the leaf with the id has the last value written through r
  abbrev pub lends_leaf : MutBor (Content K.Denot V.Denot) → ℕ → MutBor V.Denot → Fml
  lends_leaf s id r =
      Lends (tree.the_row K V P g) V s r (λ w. record s.now { pairs = with_value s.now.pairs id w })
