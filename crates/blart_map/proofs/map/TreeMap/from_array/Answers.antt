use Rattle.std.proofs.Common.{subst}
use Rattle.blart_keys.specs.Bulk.{PutsAll}
use Rattle.blart_keys.specs.Steps.{bytes}
use Rattle.blart_keys.specs.Stored.{kept_pair}
use Rattle.blart_map.specs.Content.{pairs}
use Rattle.blart_map.proofs.map.TreeMap.from_array.Goals as goal

pub returns-in-Ok-clause-made : goal.returns-in-Ok-clause-made
returns-in-Ok-clause-made g c = subst (λ S. PutsAll (bytes g.K.AsBytes.bytes) kept_pair S c.args.items (pairs c.put_copies.new.self)) c.with_prefix_len-map.ensures.empty c.in-Ok.ensures.put
