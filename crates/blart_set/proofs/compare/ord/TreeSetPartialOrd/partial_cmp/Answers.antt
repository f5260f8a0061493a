use Rattle.std.proofs.Common.{◌∙◌}
use Rattle.blart_map.specs.Content.{pairs}
use Rattle.blart_set.specs.Elements.{elements}
use Rattle.blart_set.proofs.Compared.{partial_cmp-keys}
use Rattle.blart_set.proofs.compare.ord.TreeSetPartialOrd.partial_cmp.Goals as goal

pub returns : goal.returns
unfolding elements
returns g c = rw (← c.self.view_is) (rw (← c.other.view_is) (c.partial_cmp.ensures ∙ partial_cmp-keys g.K.PartialOrd.partial_cmp (pairs c.self.inside.map) (pairs c.other.inside.map)))
