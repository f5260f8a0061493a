use Rattle.blart_set.specs.Elements.{elements}
use Rattle.blart_set.proofs.Merged.{union_is}
use Rattle.blart_set.proofs.set.TreeSet.union.Goals as goal

pub returns-clause-value : goal.returns-clause-value
returns-clause-value g c = rw c.beside.ensures.left (rw c.beside.ensures.right (union_is g.K.AsBytes.bytes (elements c.args.self.now) (elements c.args.other.now) c.law.ensures.content.ascends c.law-2.ensures.content.ascends))
