use Rattle.std.proofs.Common.{map}
use Rattle.blart_set.proofs.Cloned.{now}
use Rattle.blart_keys.specs.Bulk.{PutsAll}
use Rattle.blart_keys.specs.Stored.{kept_item}
use Rattle.blart_set.specs.Elements.{elements}
use Rattle.blart_set.proofs.set.TreeSet.extend_copied.Given as goal

abbrev pub invariant-loop-item : goal.invariant-loop-item
invariant-loop-item g l =
    (goal.iterator-loop-item g).can_next l.item-iterator
    × (goal.iterator-loop-item g).is_finite l.item-iterator
    × PutsAll g.K.AsBytes.bytes kept_item (elements l.initial.self) (map now l.yielded) (elements l.self)
