use Rattle.std.proofs.Common.{◌∙◌}
use Rattle.blart_map.specs.Content.{pairs}
use Rattle.blart_set.specs.Elements.{elements}
use Rattle.blart_set.proofs.Compared.{cmp-keys}
use Rattle.blart_set.proofs.compare.ord.TreeSetOrd.cmp.Goals as goal

pub returns : goal.returns
unfolding elements
returns g c = rw (← c.self.view_is) (rw (← c.other.view_is) (c.cmp.ensures ∙ cmp-keys g.K.Ord.cmp (pairs c.self.inside.map) (pairs c.other.inside.map)))
