use Rattle.blart_map.specs.Content.{pairs}
use Rattle.blart_map.proofs.Passed.PassedLeaves.{stays_left, taken_pairs}
use Rattle.blart_map.proofs.map.TreeMap.take_leaf.Goals as goal

pub returns-clause-removed : goal.returns-clause-removed
unfolding pairs
returns-clause-removed g c =
    rw (← c.self.view_is) (taken_pairs g.K.AsBytes.bytes c.self.inside.tree.pairs c.law.ensures.content c.args.id c.remove.result c.remove.ensures.value c.remove.new.self.pairs c.remove.ensures.rest)

pub returns-clause-left : goal.returns-clause-left
returns-clause-left g c =
    rw (← c.self.view_is) (stays_left c.self.inside.tree.pairs c.law.ensures.distinct c.args.id c.remove.new.self.pairs c.remove.ensures.rest)
