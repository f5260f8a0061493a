use Rattle.std.proofs.Common.{◌≡◌, sum, map, ◌+◌}
use Rattle.std.specs.declared.ops.Bound.TheVariants.{Included, Unbounded}
use Rattle.blart.specs.Words.{pairs, bytes, between}
use Rattle.caller_tests.proofs.sums.sum_of_waits.Given as goal

abbrev pub invariant-loop-later : goal.invariant-loop-later
invariant-loop-later g l =
    l.total + sum (map (λ q. q.1) l.later-iterator) + sum (map (λ p. sum (map (λ q. q.1) (between (bytes g.K.AsBytes.bytes) (pairs l.times) (Included (g.K.AsBytes.bytes p.0)) Unbounded))) l.pair-iterator)
    ≡ sum (map (λ p. sum (map (λ q. q.1) (between (bytes g.K.AsBytes.bytes) (pairs l.times) (Included (g.K.AsBytes.bytes p.0)) Unbounded))) (pairs l.times))

abbrev pub invariant-loop-pair : goal.invariant-loop-pair
invariant-loop-pair g l =
    l.total + sum (map (λ p. sum (map (λ q. q.1) (between (bytes g.K.AsBytes.bytes) (pairs l.times) (Included (g.K.AsBytes.bytes p.0)) Unbounded))) l.pair-iterator)
    ≡ sum (map (λ p. sum (map (λ q. q.1) (between (bytes g.K.AsBytes.bytes) (pairs l.times) (Included (g.K.AsBytes.bytes p.0)) Unbounded))) (pairs l.times))
