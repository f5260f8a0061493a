use Rattle.std.proofs.Common.{map}
use Rattle.std.specs.List.{AllZip}
use Rattle.blart_set.proofs.Cloned.{now}
use Rattle.blart_set.proofs.operators.of_clones.Given as goal

abbrev pub invariant-loop-item : goal.invariant-loop-item
invariant-loop-item g l =
    (goal.iterator-loop-item g).can_next l.item-iterator
    × (goal.iterator-loop-item g).is_finite l.item-iterator
    × AllZip g.K.Clone.is_clone (map now l.yielded) l.clones.items
