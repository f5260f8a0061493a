use Rattle.std.proofs.Common.{◌≡◌, ◌≤◌, ◌+◌, ◌++◌, length}
use Rattle.art_edits.proofs.parting.move_pairs.Given as goal

abbrev pub invariant-loop : goal.invariant-loop
invariant-loop g l = record {
  whole : l.initial.from.pairs ≡ l.to.pairs ++ l.from.pairs;
  moved : length l.to.pairs ≡ l.counter;
  enough : l.count ≤ length l.from.pairs + l.counter;
  room : l.count ≤ l.to.end_room + l.counter;
}
