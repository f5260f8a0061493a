use Rattle.std.proofs.Common.{take}
use Rattle.blart_keys.specs.Bulk.{PutsAll}
use Rattle.blart_keys.specs.Stored.{kept_item}
use Rattle.blart_set.specs.Elements.{elements}
use Rattle.blart_set.proofs.set.TreeSet.put_copies.Given as goal

abbrev pub invariant-loop-item : goal.invariant-loop-item
invariant-loop-item g l = PutsAll g.K.AsBytes.bytes kept_item (elements l.initial.self) (take l.item-index l.items) (elements l.self)
