use Rattle.std.proofs.Common.{◌≡◌, ◌+◌, length}
use Rattle.blart.specs.Words.{pairs}
use Rattle.caller_tests.proofs.queues.to_end.Given as goal

abbrev pub invariant-loop-taken : goal.invariant-loop-taken
invariant-loop-taken g l = length (pairs l.queue) + l.taken ≡ length (pairs l.initial.queue)
