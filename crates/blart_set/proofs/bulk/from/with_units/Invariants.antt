use Rattle.std.proofs.Common.{◌≡◌, ◌≤◌, ◌+◌, ◌++◌, length, map, vec_len, vec_capacity}
use Rattle.std.specs.Vec.Iter.{into_iter_items}
use Rattle.blart_set.proofs.bulk.from.with_units.Given as goal

abbrev pub invariant-loop-item : goal.invariant-loop-item
invariant-loop-item g l = record {
  whole : l.fn.items.items ≡ map (λ p. p.0) l.pairs.items ++ into_iter_items l.item-iterator;
  room : vec_len l.pairs + length (into_iter_items l.item-iterator) ≤ vec_capacity l.pairs;
}
