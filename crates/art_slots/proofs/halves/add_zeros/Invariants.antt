use Rattle.std.proofs.Common.{◌≡◌, ◌++◌, replicate}
use Rattle.art_slots.proofs.halves.add_zeros.Given as goal

abbrev pub invariant-loop : goal.invariant-loop
invariant-loop l = record {
  items : l.blocks.items ≡ l.fn.blocks.items ++ replicate l.counter (record { halves = replicate 64 0 });
  capacity : l.blocks.capacity ≡ l.fn.blocks.capacity;
}
