use Rattle.std.proofs.Common.{◌≡◌, ◌+◌, length}
use Rattle.art_slots.specs.Table.{AddsEmpty}
use Rattle.art_slots.proofs.table.add_empty.Given as goal

abbrev pub invariant-loop : goal.invariant-loop
invariant-loop g l = record {
  adds : AddsEmpty l.fn.cells.items l.cells.items l.counter;
  all : length l.cells.items ≡ length l.fn.cells.items + l.counter;
  capacity : l.cells.capacity ≡ l.fn.cells.capacity;
}
