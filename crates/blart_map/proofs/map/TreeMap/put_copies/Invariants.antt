use Rattle.std.proofs.Common.{take}
use Rattle.blart_keys.specs.Bulk.{PutsAll}
use Rattle.blart_keys.specs.Steps.{bytes}
use Rattle.blart_keys.specs.Stored.{kept_pair}
use Rattle.blart_map.specs.Content.{pairs}
use Rattle.blart_map.proofs.map.TreeMap.put_copies.Given as goal

abbrev pub invariant-loop-item : goal.invariant-loop-item
invariant-loop-item g l = PutsAll (bytes g.K.AsBytes.bytes) kept_pair (pairs l.initial.self) (take l.item-index l.items) (pairs l.self)
