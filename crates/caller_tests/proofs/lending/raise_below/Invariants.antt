use Rattle.std.proofs.Common.{◌≡◌, ◌+◌, ◌%◌, ◌^◌, length}
use Rattle.blart.specs.Words.{once_written, lending_map, lending_left}
use Rattle.caller_tests.proofs.lending.raise_below.Given as goal

abbrev pub invariant-loop-value : goal.invariant-loop-value
invariant-loop-value g l =
    ((lending_map l.walk).ghost_name ≡ (lending_map l.initial.walk).ghost_name)
    × (once_written (λ p. (p.1 + 1) % 2 ^ 64) l.walk ≡ once_written (λ p. (p.1 + 1) % 2 ^ 64) l.initial.walk)

abbrev pub decreases-loop-value : goal.decreases-loop-value
decreases-loop-value g l = length (lending_left l.walk)
