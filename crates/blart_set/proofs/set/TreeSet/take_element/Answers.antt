use Rattle.std.proofs.Common.{◌∙◌, sym, ap, map}
use Rattle.blart_map.specs.Content.{pairs}
use Rattle.blart_set.specs.Elements.{elements}
use Rattle.blart_set.proofs.Pairs.{without-keys}
use Rattle.blart_set.proofs.set.TreeSet.take_element.Goals as goal

pub returns-clause-removed : goal.returns-clause-removed
unfolding elements
returns-clause-removed g c = rw (← c.self.view_is) (ap (map (λ p. p.0)) c.take_leaf.ensures.removed ∙ sym (without-keys g.K.AsBytes.bytes (pairs c.self.inside.map) (g.K.AsBytes.bytes c.take_leaf.result.0)))
