use Rattle.blart_map.specs.Content.{pairs}
use Rattle.blart_set.specs.Elements.{elements}
use Rattle.blart_set.proofs.Pairs.{takes_first-keys, takes-keys}
use Rattle.blart_set.proofs.set.TreeSet.pop_first.Goals as goal

pub returns-clause-first : goal.returns-clause-first
unfolding elements
returns-clause-first g c = rw (← c.self.view_is) (rw c.element_of.ensures (takes_first-keys (pairs c.self.inside.map) (pairs c.pop_first.new.self) c.pop_first.result c.pop_first.ensures.first))

pub returns-clause-updates : goal.returns-clause-updates
unfolding elements
returns-clause-updates g c =
    rw (← c.self.view_is) (rw c.element_of.ensures (takes-keys g.K.AsBytes.bytes (pairs c.self.inside.map) (pairs c.pop_first.new.self) c.pop_first.result c.pop_first.ensures.taken))
