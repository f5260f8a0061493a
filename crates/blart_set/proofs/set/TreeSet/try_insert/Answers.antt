use Rattle.std.proofs.Common.{rules}
use Rattle.blart_keys.specs.Stored.{kept}
use Rattle.blart_map.specs.Content.{pairs}
use Rattle.blart_set.specs.Elements.{elements}
use Rattle.blart_set.proofs.Pairs.{puts-new, puts-put, puts-free, puts-why, updates-told}
use Rattle.blart_set.proofs.Tried.{len-told}
use Rattle.blart_set.proofs.set.TreeSet.try_insert.Goals as goal

pub returns : goal.returns
unfolding elements
returns g c = record {
  new = rw (← c.self.view_is) (rw c.told.ensures (puts-new g.K.AsBytes.bytes (pairs c.self.inside.map) (pairs c.try_insert.new.self) (c.args.element, tt) (kept g.K.AsBytes.bytes (pairs c.self.inside.map) (c.args.element, tt)) c.try_insert.result c.try_insert.ensures.put));
  put = rw (← c.self.view_is) (rw c.told.ensures (puts-put g.K.AsBytes.bytes (pairs c.self.inside.map) (pairs c.try_insert.new.self) (c.args.element, tt) c.try_insert.result c.try_insert.ensures.put));
  updates = rw (← c.self.view_is) (rw c.told.ensures (updates-told g.K.AsBytes.bytes (pairs c.self.inside.map) (pairs c.try_insert.new.self) (g.K.AsBytes.bytes c.args.element) (kept g.K.AsBytes.bytes (pairs c.self.inside.map) (c.args.element, tt)) c.try_insert.result c.try_insert.ensures.updates));
  free = rw (← c.self.view_is) (rw c.told.ensures (puts-free g.K.AsBytes.bytes (pairs c.self.inside.map) (pairs c.try_insert.new.self) (c.args.element, tt) (kept g.K.AsBytes.bytes (pairs c.self.inside.map) (c.args.element, tt)) c.try_insert.result c.try_insert.ensures.put));
  len = rw (← c.self.view_is) (rw c.told.ensures (len-told g.K.AsBytes.bytes (pairs c.self.inside.map) (pairs c.try_insert.new.self) (c.args.element, tt) c.try_insert.result c.try_insert.ensures.len));
  err = search rules;
  why = rw (← c.self.view_is) (rw c.told.ensures (puts-why g.K.AsBytes.bytes (pairs c.self.inside.map) (pairs c.try_insert.new.self) (c.args.element, tt) (kept g.K.AsBytes.bytes (pairs c.self.inside.map) (c.args.element, tt)) c.try_insert.result c.try_insert.ensures.put));
}
