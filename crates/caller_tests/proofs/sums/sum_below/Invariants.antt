use Rattle.std.proofs.Common.{◌≡◌, ◌+◌, map, sum}
use Rattle.blart.specs.Words.{pairs, bytes, under, string_bytes}
use Rattle.caller_tests.proofs.sums.sum_below.Given as goal

abbrev pub invariant-loop-sale : goal.invariant-loop-sale
invariant-loop-sale l = l.total + sum (map (λ p. p.1) l.sale-iterator) ≡ sum (map (λ p. p.1) (under (bytes (λ k. string_bytes k)) (pairs l.sales) l.front))
