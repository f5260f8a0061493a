use Rattle.blart_map.proofs.Passed.PassedLeaves.{was_last}
use Rattle.blart_map.proofs.map.TreeMap.step_back.Goals as goal

pub returns-clause-last : goal.returns-clause-last
returns-clause-last g c =
    rw (← c.self.view_is) (was_last c.self.inside.tree.pairs c.law.ensures.distinct c.args.cursor.now c.step_back.new.self (rw (← c.self.view_is) at c.requires) c.step_back.ensures.fits c.step_back.result c.step_back.ensures.there c.step_back.ensures.passes)
