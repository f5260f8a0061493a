use Rattle.std.proofs.Common.{subst}
use Rattle.blart_keys.specs.Bulk.{PutsAll}
use Rattle.blart_keys.specs.Stored.{kept_item}
use Rattle.blart_set.specs.Elements.{elements}
use Rattle.blart_set.proofs.set.TreeSet.from_array.Goals as goal

pub returns-in-Ok-clause-made : goal.returns-in-Ok-clause-made
returns-in-Ok-clause-made g c = subst (λ S. PutsAll g.K.AsBytes.bytes kept_item S c.args.items (elements c.put_copies.new.self)) c.with_prefix_len-set.ensures c.in-Ok.ensures.put
