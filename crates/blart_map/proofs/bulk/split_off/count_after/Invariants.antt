use Rattle.std.proofs.Common.{◌≡◌, ◌+◌, length}
use Rattle.blart_map.proofs.bulk.split_off.count_after.Given as goal

abbrev pub invariant-loop-low : goal.invariant-loop-low
invariant-loop-low g l = record {
  high : l.count + length l.high ≡ length l.initial.high;
  low : l.count + length l.low ≡ length l.initial.low;
}

abbrev pub decreases-loop-low : goal.decreases-loop-low
decreases-loop-low g l = length l.high
