use Rattle.std.proofs.Common.{◌∙◌, sym, ap, option_map, Some}
use Rattle.blart_set.proofs.set.TreeSet.replace.Goals.{in-Ok, in-Err-Memory}
use Rattle.blart_map.specs.Content.{pairs}
use Rattle.blart_set.specs.Elements.{elements}
use Rattle.blart_set.proofs.Pairs.{stores-keys, at-keys, put-keys, updates-keys}
use Rattle.blart_set.proofs.set.TreeSet.replace.Goals as goal

pub returns-clause-old : goal.returns-clause-old
unfolding elements
returns-clause-old g c = rw (← c.self.view_is) (elim c.match-replace_entry.branch [
  | in-Ok w ↦ rw w.result-is (w.element_of.ensures ∙ ap (option_map (λ p. p.0)) w.in-Ok.ensures.put.2 ∙ sym (at-keys g.K.AsBytes.bytes (pairs c.self.inside.map) (g.K.AsBytes.bytes c.args.element)))
  | in-Err-Memory w ↦ rw w.result-is tt
])

pub returns-clause-put : goal.returns-clause-put
unfolding elements
returns-clause-put g c = rw (← c.self.view_is) (elim c.match-replace_entry.branch [
  | in-Ok w ↦ rw w.result-is (put-keys g.K.AsBytes.bytes (pairs c.self.inside.map) (pairs c.replace_entry.new.self) (c.args.element, tt) w.in-Ok.ensures.put.1)
  | in-Err-Memory w ↦ rw w.result-is tt
])

pub returns-clause-absent : goal.returns-clause-absent
unfolding elements
returns-clause-absent g c = rw (← c.self.view_is) (elim c.match-replace_entry.branch [
  | in-Ok w ↦ rw w.result-is tt
  | in-Err-Memory w ↦ rw w.result-is (let h = rw w.in-Err-Memory.field-0-is at w.in-Err-Memory.ensures.put in stores-keys g.K.AsBytes.bytes (pairs c.self.inside.map) (g.K.AsBytes.bytes c.args.element) ∙ h.1)
])

pub returns-clause-updates : goal.returns-clause-updates
unfolding elements
returns-clause-updates g c = rw (← c.self.view_is) (elim c.match-replace_entry.branch [
  | in-Ok w ↦ rw w.result-is (updates-keys g.K.AsBytes.bytes (pairs c.self.inside.map) (pairs c.replace_entry.new.self) (g.K.AsBytes.bytes c.args.element) (Some (c.args.element, tt)) w.in-Ok.ensures.updates)
  | in-Err-Memory w ↦ rw w.result-is tt
])
