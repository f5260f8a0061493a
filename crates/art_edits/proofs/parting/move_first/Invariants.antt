use Rattle.std.proofs.Common.{◌≡◌, ◌≤◌, ◌+◌, ◌++◌, length}
use Rattle.art_tree.specs.Content.{room}
use Rattle.art_tree.specs.Pairs.{pairs_of}
use Rattle.art_edits.proofs.parting.move_first.Given as goal

abbrev pub invariant-loop : goal.invariant-loop
invariant-loop g l = record {
  whole : pairs_of l.initial.from.pairs ≡ pairs_of l.to.pairs ++ pairs_of l.from.pairs;
  moved : length (pairs_of l.to.pairs) ≡ l.counter;
  enough : l.count ≤ length l.from.pairs + l.counter;
  room : l.count ≤ room l.to + l.counter;
}
