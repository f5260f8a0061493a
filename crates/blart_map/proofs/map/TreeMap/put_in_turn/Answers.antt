use Rattle.std.proofs.Common.{subst}
use Rattle.blart_keys.specs.Bulk.{PutsAll}
use Rattle.blart_keys.specs.Steps.{bytes}
use Rattle.blart_keys.specs.Stored.{kept_pair}
use Rattle.blart_map.specs.Content.{pairs}
use Rattle.art_edits.proofs.Moved.BulkPuts.{first_came}
use Rattle.blart_map.proofs.map.TreeMap.put_in_turn.Goals as goal

pub returns-in-Err-clause-refused : goal.returns-in-Err-clause-refused
returns-in-Err-clause-refused g c =
    let e = c.in-Err.ensures in
    first_came g.I.Iterator.next_gives c.args.items e.0 e.1 e.2 e.3

pub returns-in-Ok-clause-made : goal.returns-in-Ok-clause-made
returns-in-Ok-clause-made g c =
    let e = c.in-Ok.ensures in
    (e.0, e.1, subst (λ S. PutsAll (bytes g.K.AsBytes.bytes) kept_pair S e.0 (pairs c.extend.new.self)) c.with_prefix_len-map.ensures.empty e.2)
