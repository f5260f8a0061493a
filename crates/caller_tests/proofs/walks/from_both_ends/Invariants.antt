use Rattle.std.proofs.Common.{map, length}
use Rattle.blart.specs.Words.{pairs, Walked}
use Rattle.caller_tests.proofs.walks.from_both_ends.Given as goal

abbrev pub decreases-both : goal.decreases-both
decreases-both g l = length l.walk

abbrev pub invariant-both : goal.invariant-both
invariant-both g l = Walked (map (λ p. p.1) (pairs l.scores)) l.fronts.items l.backs.items l.walk
