use Rattle.std.proofs.Common.{◌≡◌, ◌++◌}
use Rattle.blart.specs.Words.{pairs}
use Rattle.caller_tests.proofs.owning.into_vec.Given as goal

abbrev pub invariant-loop-key : goal.invariant-loop-key
invariant-loop-key g l = pairs l.fn.map ≡ l.pairs.items ++ l.key-iterator
