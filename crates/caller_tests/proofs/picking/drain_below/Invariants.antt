use Rattle.std.proofs.Common.{◌≡◌, ◌++◌, ◌≤◌, ltb, filter, length}
use Rattle.blart.specs.Words.{pairs, extract_map, extract_pred, still_to_extract}
use Rattle.caller_tests.proofs.picking.drain_below.Given as goal

abbrev pub invariant-loop : goal.invariant-loop
invariant-loop g l =
    (goal.iterator-loop g).can_next l.iterator'
    × (goal.iterator-loop g).is_finite l.iterator'
    × ((extract_map l.walk).ghost_name ≡ (extract_map l.initial.walk).ghost_name)
    × ((extract_pred l.walk).0.now ≡ l.fn.bound)
    × (l.low.items ++ still_to_extract (λ p. ltb p.1 l.fn.bound) l.walk ≡ filter (λ p. ltb p.1 l.fn.bound) (pairs l.fn.scores))
    × (length (still_to_extract (λ p. ltb p.1 l.fn.bound) l.walk) ≤ l.iterator'.n)
