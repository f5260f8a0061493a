use Rattle.std.proofs.Common.{◌≡◌, None, filter, leb, length}
use Rattle.blart.specs.Words.{pairs, bytes, kept_pair, PutsAll, once_taken, still_to_take, take_map, take_undecided, take_left}
use Rattle.caller_tests.proofs.picking.move_above.Given as goal

abbrev pub invariant-loop-value : goal.invariant-loop-value
invariant-loop-value g l =
    ((take_map l.walk).ghost_name ≡ (take_map l.initial.walk).ghost_name)
    × (once_taken (λ p. leb l.bound p.1) l.walk ≡ once_taken (λ p. leb l.bound p.1) l.initial.walk)
    × (take_undecided l.walk ≡ None)
    × ((T : _) → PutsAll (bytes g.K.AsBytes.bytes) kept_pair (pairs l.to) (still_to_take (λ p. leb l.bound p.1) l.walk) T → PutsAll (bytes g.K.AsBytes.bytes) kept_pair (pairs l.fn.to) (filter (λ p. leb l.bound p.1) (pairs l.fn.from)) T)

abbrev pub decreases-loop-value : goal.decreases-loop-value
decreases-loop-value g l = length (take_left l.walk)
