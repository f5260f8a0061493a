use Rattle.std.proofs.Common.{◌∙◌, ap}
use Rattle.std.specs.Option.{is_some}
use Rattle.blart_keys.proofs.StoredLemmas.{some-at}
use Rattle.blart_set.specs.Elements.{elements}
use Rattle.blart_set.proofs.set.TreeSet.remove.Goals as goal

pub returns-clause-value : goal.returns-clause-value
returns-clause-value g c = c.is_some.ensures ∙ ap is_some c.take.ensures.value ∙ some-at g.K.AsBytes.bytes (elements c.args.self.now) (g.Q.AsBytes.bytes c.args.query.now)
