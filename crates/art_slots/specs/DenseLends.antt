-- What a dense slab becomes once a returned `&mut` to one of its values ends.
use Rattle.std.specs.Prelude.{ℕ}
use Rattle.std.specs.Borrow.{Lends, Fml, RattleType, MutBor}
use Rattle.art_slots.specs.Dense.{Dense, with_item}
use Rattle.art_slots.specs.contracts.dense.Dense.{the_row}

module _ (T : RattleType) (s : MutBor (Dense T.Denot)) (key : ℕ) where
  -- once the borrow r ends, the key has the last value written through r
  abbrev pub lends_item : MutBor T.Denot → Fml
  lends_item r = Lends (the_row T) T s r (with_item s.now key)
