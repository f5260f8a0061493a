use Rattle.blart_map.proofs.Related.PrefixValues.{made_value}
use Rattle.blart_map.proofs.prefix_entry.PrefixEntry+K+V+PREFIX_LEN+TreeMap+K+V+PREFIX_LEN.or_insert_with_key.Goals as goal

pub returns-in-Ok-clause-value : goal.returns-in-Ok-clause-value
returns-in-Ok-clause-value g c = made_value c.args.self _ c.into_mut.result.now c.in-Ok.entry c.in-Ok.ensures.set c.into_mut.ensures.value
