-- What a table becomes once a returned `&mut` to one of its records ends.
use Rattle.std.specs.Prelude.{ℕ}
use Rattle.std.specs.Borrow.{Lends, Fml, RattleType, MutBor}
use Rattle.art_slots.specs.Store.{Store, with_record}
use Rattle.art_slots.specs.contracts.table.Table.{the_row}

module _ (T : RattleType) (s : MutBor (Store T.Denot)) (id : ℕ) where
  -- once the borrow r ends, the number has the last record written through r
  abbrev pub lends_cell : MutBor T.Denot → Fml
  lends_cell r = Lends (the_row T) T s r (with_record s.now id)
