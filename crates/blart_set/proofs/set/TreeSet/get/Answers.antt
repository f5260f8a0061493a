use Rattle.std.proofs.Common.{sym, ◌∙◌, ap, option_map}
use Rattle.blart_map.specs.Content.{pairs}
use Rattle.blart_set.specs.Elements.{elements}
use Rattle.blart_set.proofs.Pairs.{at-keys}
use Rattle.blart_set.proofs.set.TreeSet.get.Goals as goal

pub returns-in-Some-clause-value : goal.returns-in-Some-clause-value
unfolding elements
returns-in-Some-clause-value g c = rw (← c.self.view_is) (ap (option_map (λ p. p.0)) c.in-Some.ensures.value ∙ sym (at-keys g.K.AsBytes.bytes (pairs c.self.inside.map) (g.Q.AsBytes.bytes c.args.query.now)))

pub returns-in-None-clause-value : goal.returns-in-None-clause-value
unfolding elements
returns-in-None-clause-value g c = rw (← c.self.view_is) (ap (option_map (λ p. p.0)) c.in-None.ensures.value ∙ sym (at-keys g.K.AsBytes.bytes (pairs c.self.inside.map) (g.Q.AsBytes.bytes c.args.query.now)))
