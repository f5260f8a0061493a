use Rattle.std.proofs.Common.{◌≡◌, ◌++◌}
use Rattle.blart.specs.Words.{elements}
use Rattle.caller_tests.proofs.sets.all_of.Given as goal

abbrev pub invariant-loop-element : goal.invariant-loop-element
invariant-loop-element g l = elements l.set ≡ l.all.items ++ l.element-iterator
