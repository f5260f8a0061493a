use Rattle.std.proofs.Common.{◌≡◌, length}
use Rattle.blart.specs.Words.{once_written, lending_map, lending_left}
use Rattle.caller_tests.proofs.lending.measure_below.Given as goal

abbrev pub invariant-loop-seen : goal.invariant-loop-seen
invariant-loop-seen g l =
    ((lending_map l.walk).ghost_name ≡ (lending_map l.initial.walk).ghost_name)
    × (once_written (λ p. length (g.K.AsBytes.bytes p.0)) l.walk ≡ once_written (λ p. length (g.K.AsBytes.bytes p.0)) l.initial.walk)

abbrev pub decreases-loop-seen : goal.decreases-loop-seen
decreases-loop-seen g l = length (lending_left l.walk)
