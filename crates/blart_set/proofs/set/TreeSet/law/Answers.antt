use Rattle.blart_map.specs.Content.{pairs}
use Rattle.blart_set.specs.Elements.{elements}
use Rattle.blart_keys.proofs.Mapped.{content_map}
use Rattle.blart_set.proofs.set.TreeSet.law.Goals as goal

pub returns-clause-content : goal.returns-clause-content
unfolding elements
returns-clause-content g c = rw (← c.self.view_is) (content_map (λ p. p.0) g.K.AsBytes.bytes (pairs c.self.inside.map) c.law.ensures.content)
