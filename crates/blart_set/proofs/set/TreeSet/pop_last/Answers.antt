use Rattle.blart_map.specs.Content.{pairs}
use Rattle.blart_set.specs.Elements.{elements}
use Rattle.blart_set.proofs.Pairs.{takes_last-keys, takes-keys}
use Rattle.blart_set.proofs.set.TreeSet.pop_last.Goals as goal

pub returns-clause-last : goal.returns-clause-last
unfolding elements
returns-clause-last g c = rw (← c.self.view_is) (rw c.element_of.ensures (takes_last-keys (pairs c.self.inside.map) (pairs c.pop_last.new.self) c.pop_last.result c.pop_last.ensures.last))

pub returns-clause-updates : goal.returns-clause-updates
unfolding elements
returns-clause-updates g c =
    rw (← c.self.view_is) (rw c.element_of.ensures (takes-keys g.K.AsBytes.bytes (pairs c.self.inside.map) (pairs c.pop_last.new.self) c.pop_last.result c.pop_last.ensures.taken))
