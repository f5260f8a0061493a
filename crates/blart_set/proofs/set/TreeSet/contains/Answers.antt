use Rattle.std.proofs.Common.{sym, ◌∙◌}
use Rattle.blart_map.specs.Content.{pairs}
use Rattle.blart_set.specs.Elements.{elements}
use Rattle.blart_set.proofs.Pairs.{stores-keys}
use Rattle.blart_set.proofs.set.TreeSet.contains.Goals as goal

pub returns : goal.returns
unfolding elements
returns g c = rw (← c.self.view_is) (c.contains_key.ensures.value ∙ sym (stores-keys g.K.AsBytes.bytes (pairs c.self.inside.map) (g.Q.AsBytes.bytes c.args.query.now)))
