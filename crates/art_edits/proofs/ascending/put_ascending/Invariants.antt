use Rattle.std.proofs.Common.{◌≡◌, ◌≤◌, [], ◌++◌, length}
use Rattle.std.specs.Vec.Iter.{into_iter_items}
use Rattle.blart_keys.specs.Bulk.{PutsAll}
use Rattle.blart_keys.specs.Content.{IsContent}
use Rattle.blart_keys.specs.Steps.{bytes}
use Rattle.blart_keys.specs.Stored.{kept_pair}
use Rattle.art_edits.proofs.Moved.AtEnd.{NoneOver, AreRanked}
use Rattle.art_edits.proofs.ascending.put_ascending.Given as goal

-- the items so far were put; the others are in order, and none is less than a pair of the tree
abbrev pub invariant-loop-item : goal.invariant-loop-item
invariant-loop-item g l = record {
  whole : l.fn.items.items ≡ l.yielded ++ into_iter_items l.item-iterator;
  put : PutsAll (bytes g.K.AsBytes.bytes) kept_pair [] l.yielded l.pairs.pairs;
  content : IsContent (bytes g.K.AsBytes.bytes) l.pairs.pairs;
  sorted : AreRanked (bytes g.K.AsBytes.bytes) (into_iter_items l.item-iterator);
  order : NoneOver (bytes g.K.AsBytes.bytes) l.pairs.pairs (into_iter_items l.item-iterator);
  room : length (into_iter_items l.item-iterator) ≤ l.pairs.end_room;
}
