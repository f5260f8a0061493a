use Rattle.std.proofs.Common.{◌∙◌, sym, ap, map}
use Rattle.blart_map.specs.Content.{pairs}
use Rattle.blart_set.specs.Elements.{elements}
use Rattle.blart_set.proofs.Pairs.{under-keys}
use Rattle.blart_set.proofs.set.TreeSet.prefix.Goals as goal

pub returns-clause-value : goal.returns-clause-value
unfolding elements
returns-clause-value g c = rw (← c.self.view_is) (ap (map (λ p. p.0)) c.prefix.ensures.value ∙ sym (under-keys g.K.AsBytes.bytes (pairs c.self.inside.map) c.args.front.now))
