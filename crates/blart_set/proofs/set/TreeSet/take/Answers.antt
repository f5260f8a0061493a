use Rattle.std.proofs.Common.{sym, ◌∙◌, ap, option_map, map, None}
use Rattle.blart_map.specs.Content.{pairs}
use Rattle.blart_set.specs.Elements.{elements}
use Rattle.blart_set.proofs.Pairs.{at-keys, without-keys, updates-keys}
use Rattle.blart_set.proofs.set.TreeSet.take.Goals as goal

pub returns-clause-value : goal.returns-clause-value
unfolding elements
returns-clause-value g c = rw (← c.self.view_is) (c.element_of.ensures ∙ ap (option_map (λ p. p.0)) c.remove_entry.ensures.removed ∙ sym (at-keys g.K.AsBytes.bytes (pairs c.self.inside.map) (g.Q.AsBytes.bytes c.args.query.now)))

pub returns-clause-rest : goal.returns-clause-rest
unfolding elements
returns-clause-rest g c = rw (← c.self.view_is) (ap (map (λ p. p.0)) c.remove_entry.ensures.rest ∙ sym (without-keys g.K.AsBytes.bytes (pairs c.self.inside.map) (g.Q.AsBytes.bytes c.args.query.now)))

pub returns-clause-updates : goal.returns-clause-updates
unfolding elements
returns-clause-updates g c = rw (← c.self.view_is) (updates-keys g.K.AsBytes.bytes (pairs c.self.inside.map) (pairs c.remove_entry.new.self) (g.Q.AsBytes.bytes c.args.query.now) None c.remove_entry.ensures.updates)
