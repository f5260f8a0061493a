use Rattle.blart_map.proofs.Passed.PassedLeaves.{was_first}
use Rattle.blart_map.proofs.map.TreeMap.step.Goals as goal

pub returns-clause-first : goal.returns-clause-first
returns-clause-first g c =
    rw (← c.self.view_is) (was_first c.self.inside.tree.pairs c.law.ensures.distinct c.args.cursor.now c.step.new.self (rw (← c.self.view_is) at c.requires) c.step.ensures.fits c.step.result c.step.ensures.there c.step.ensures.passes)
