use Rattle.blart_set.specs.Elements.{elements}
use Rattle.blart_set.proofs.Laws.{symmetric_count}
use Rattle.blart_set.proofs.set.TreeSet.symmetric_difference_law.Goals as goal

pub returns : goal.returns
returns g c = λ U is.
    symmetric_count g.K.AsBytes.bytes (elements c.args.self.now) (elements c.args.other.now) U is c.law.ensures.content.ascends c.law-2.ensures.content.ascends
