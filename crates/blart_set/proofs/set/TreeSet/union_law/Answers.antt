use Rattle.blart_set.specs.Elements.{elements}
use Rattle.blart_set.proofs.Laws.{union_parts, union_count}
use Rattle.blart_set.proofs.set.TreeSet.union_law.Goals as goal

pub returns-clause-parts : goal.returns-clause-parts
returns-clause-parts g c = λ U is x. union_parts g.K.AsBytes.bytes (elements c.args.self.now) (elements c.args.other.now) U is x

pub returns-clause-count : goal.returns-clause-count
returns-clause-count g c = λ U is.
    union_count g.K.AsBytes.bytes (elements c.args.self.now) (elements c.args.other.now) U is c.law.ensures.content.ascends c.law-2.ensures.content.ascends
