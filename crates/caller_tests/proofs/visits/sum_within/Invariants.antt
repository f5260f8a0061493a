use Rattle.std.proofs.Common.{◌+◌, ◌≤◌, length}
use Rattle.blart.specs.Words.{leaves_left, FitsIn}
use Rattle.caller_tests.proofs.visits.sum_within.Given as goal

abbrev pub invariant-steps : goal.invariant-steps
invariant-steps g l =
    FitsIn l.cursor l.store
    × (l.visits.count + length (leaves_left l.cursor l.store) ≤ l.initial.visits.count + length (leaves_left l.initial.cursor l.store))

abbrev pub decreases-steps : goal.decreases-steps
decreases-steps g l = length (leaves_left l.cursor l.store)
