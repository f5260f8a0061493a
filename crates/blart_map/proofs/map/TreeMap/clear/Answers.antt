use Rattle.std.proofs.Common.{rules}
use Rattle.blart_keys.proofs.StoredLemmas.{nothing_stored}
use Rattle.blart_map.specs.Content.{pairs}
use Rattle.blart_map.proofs.map.TreeMap.clear.Goals as goal

pub returns-clause-nothing : goal.returns-clause-nothing
unfolding pairs
returns-clause-nothing g c = nothing_stored g.K.AsBytes.bytes _ (search rules)
