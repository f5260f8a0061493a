use Rattle.std.proofs.Common.{sym, ◌∙◌}
use Rattle.blart_map.specs.Content.{pairs}
use Rattle.blart_set.specs.Elements.{elements}
use Rattle.blart_set.proofs.Pairs.{conflict-keys}
use Rattle.blart_set.proofs.set.TreeSet.conflicts.Goals as goal

pub returns : goal.returns
unfolding elements
returns g c = rw (← c.self.view_is) (c.conflicts.ensures.value ∙ sym (conflict-keys g.K.AsBytes.bytes (pairs c.self.inside.map) (g.Q.AsBytes.bytes c.args.query.now)))
