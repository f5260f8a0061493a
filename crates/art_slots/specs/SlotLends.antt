-- What slots become once a returned `&mut` to one of their records ends.
use Rattle.std.specs.Prelude.{ℕ}
use Rattle.std.specs.Borrow.{Lends, Fml, RattleType, MutBor}
use Rattle.art_slots.specs.Slots.{Slots, with_slot}
use Rattle.art_slots.specs.contracts.slots.Slots.{the_row}

module _ (T : RattleType) (s : MutBor (Slots T.Denot)) (id : ℕ) where
  -- once the borrow r ends, the number has the last record written through r
  abbrev pub lends_slot : MutBor T.Denot → Fml
  lends_slot r = Lends (the_row T) T s r (with_slot s.now id)
