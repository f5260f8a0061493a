use Rattle.std.proofs.Common.{rules}
use Rattle.std.proofs.lemmas.Result.{on_ok_weaker}
use Rattle.blart_map.specs.Content.{pairs}
use Rattle.blart_set.specs.Elements.{elements}
use Rattle.blart_set.proofs.Pairs.{over-puts, alone-puts}
use Rattle.blart_set.proofs.StoredBytes.{overwritten-keys, routed-keys}
use Rattle.blart_set.proofs.set.TreeSet.prefix_insert.Goals as goal

pub returns : goal.returns
unfolding elements
returns g c = record {
  over = rw (← c.self.view_is) (over-puts g.K.AsBytes.bytes (pairs c.self.inside.map) (pairs c.prefix_insert.new.self) (c.args.element, tt) c.prefix_insert.result c.prefix_insert.ensures.put);
  overwrites = rw (← c.self.view_is) (on_ok_weaker c.prefix_insert.result (overwritten-keys g.K.AsBytes.bytes (pairs c.self.inside.map) (pairs c.prefix_insert.new.self) (c.args.element, tt)) c.prefix_insert.ensures.over);
  routes = rw (← c.self.view_is) (on_ok_weaker c.prefix_insert.result (routed-keys g.K.AsBytes.bytes (pairs c.self.inside.map) (pairs c.prefix_insert.new.self) (c.args.element, tt)) c.prefix_insert.ensures.routes);
  err = search rules;
  alone = rw (← c.self.view_is) (alone-puts g.K.AsBytes.bytes (pairs c.self.inside.map) (pairs c.prefix_insert.new.self) (c.args.element, tt) c.prefix_insert.result c.prefix_insert.ensures.put);
}
