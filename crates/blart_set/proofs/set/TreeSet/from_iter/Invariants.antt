use Rattle.std.proofs.Common.{◌≡◌}
use Rattle.blart_set.proofs.set.TreeSet.from_iter.Given as goal

-- the items that were yielded so far
abbrev pub invariant-loop-item : goal.invariant-loop-item
invariant-loop-item g l =
    (goal.iterator-loop-item g).can_next l.item-iterator
    × (goal.iterator-loop-item g).is_finite l.item-iterator
    × (l.all.items ≡ l.yielded)
