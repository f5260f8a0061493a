use Rattle.std.proofs.Common.{rules}
use Rattle.blart_keys.specs.Stored.{kept}
use Rattle.blart_map.specs.Content.{pairs}
use Rattle.blart_set.specs.Elements.{elements}
use Rattle.blart_set.proofs.Pairs.{inserts-new, inserts-put, inserts-absent, updates-told}
use Rattle.blart_set.proofs.Tried.{len-told}
use Rattle.blart_set.proofs.set.TreeSet.insert.Goals as goal

pub returns : goal.returns
unfolding elements
returns g c = record {
  new = rw (← c.self.view_is) (rw c.told.ensures (inserts-new g.K.AsBytes.bytes (pairs c.self.inside.map) (pairs c.insert.new.self) (c.args.element, tt) (kept g.K.AsBytes.bytes (pairs c.self.inside.map) (c.args.element, tt)) c.insert.result c.insert.ensures.put));
  put = rw (← c.self.view_is) (rw c.told.ensures (inserts-put g.K.AsBytes.bytes (pairs c.self.inside.map) (pairs c.insert.new.self) (c.args.element, tt) c.insert.result c.insert.ensures.put));
  updates = rw (← c.self.view_is) (rw c.told.ensures (updates-told g.K.AsBytes.bytes (pairs c.self.inside.map) (pairs c.insert.new.self) (g.K.AsBytes.bytes c.args.element) (kept g.K.AsBytes.bytes (pairs c.self.inside.map) (c.args.element, tt)) c.insert.result c.insert.ensures.updates));
  len = rw (← c.self.view_is) (rw c.told.ensures (len-told g.K.AsBytes.bytes (pairs c.self.inside.map) (pairs c.insert.new.self) (c.args.element, tt) c.insert.result c.insert.ensures.len));
  err = search rules;
  absent = rw (← c.self.view_is) (rw c.told.ensures (inserts-absent g.K.AsBytes.bytes (pairs c.self.inside.map) (pairs c.insert.new.self) (c.args.element, tt) (kept g.K.AsBytes.bytes (pairs c.self.inside.map) (c.args.element, tt)) c.insert.result c.insert.ensures.put));
}
