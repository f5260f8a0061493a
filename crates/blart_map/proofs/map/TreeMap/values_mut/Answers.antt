use Rattle.blart_map.specs.CountedWalk.{counted_left}
use Rattle.blart_map.proofs.Written.OnceWritten.{all_opened}
use Rattle.blart_map.proofs.map.TreeMap.values_mut.Goals as goal

pub returns-clause-all : goal.returns-clause-all
returns-clause-all g c f = all_opened f c.all.result.map.now c.args.self.now (counted_left c.all.result) c.numbers_law.ensures.distinct c.all.ensures.unchanged c.all.ensures.left
