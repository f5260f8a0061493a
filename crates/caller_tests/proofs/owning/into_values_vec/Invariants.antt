use Rattle.std.proofs.Common.{◌≡◌, ◌++◌, map}
use Rattle.blart.specs.Words.{pairs}
use Rattle.caller_tests.proofs.owning.into_values_vec.Given as goal

abbrev pub invariant-loop-value : goal.invariant-loop-value
invariant-loop-value g l = map (λ pair. pair.1) (pairs l.fn.scores) ≡ l.values.items ++ l.value-iterator
