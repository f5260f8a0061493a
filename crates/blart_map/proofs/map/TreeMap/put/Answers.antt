use Rattle.blart_keys.specs.Stored.{pair_at}
use Rattle.blart_map.proofs.map.TreeMap.put.Goals as goal

pub returns-clause-put : goal.returns-clause-put
unfolding pair_at
returns-clause-put g c = c.in_ok-insert.ensures.put.0
