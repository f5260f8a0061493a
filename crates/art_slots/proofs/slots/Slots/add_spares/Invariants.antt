use Rattle.std.proofs.Common.{◌≡◌, ◌+◌}
use Rattle.art_slots.specs.Store.{used_count, SameRecords}
use Rattle.art_slots.proofs.slots.Slots.add_spares.Given as goal

abbrev pub invariant-loop : goal.invariant-loop
invariant-loop g l = record {
  same : SameRecords l.fn.self.store l.self.store;
  used : used_count l.self.store ≡ used_count l.fn.self.store;
  spare : l.self.store.spare ≡ l.fn.self.store.spare + l.counter;
  room : l.self.room + l.counter ≡ l.fn.self.room;
}
