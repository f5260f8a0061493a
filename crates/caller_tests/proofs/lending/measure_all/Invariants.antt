use Rattle.std.proofs.Common.{◌≡◌, length}
use Rattle.std.specs.Prelude.{string_len}
use Rattle.blart.specs.Words.{all_once_written, counted_map, counted_left}
use Rattle.caller_tests.proofs.lending.measure_all.Given as goal

abbrev pub invariant-loop-seen : goal.invariant-loop-seen
invariant-loop-seen l =
    ((counted_map l.walk).ghost_name ≡ (counted_map l.initial.walk).ghost_name)
    × (all_once_written (λ p. string_len p.0) l.walk ≡ all_once_written (λ p. string_len p.0) l.initial.walk)

abbrev pub decreases-loop-seen : goal.decreases-loop-seen
decreases-loop-seen l = length (counted_left l.walk)
