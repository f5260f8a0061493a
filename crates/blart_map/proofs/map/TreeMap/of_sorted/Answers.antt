use Rattle.std.proofs.Common.{[], sym, subst}
use Rattle.std.proofs.lemmas.Result.{on_err_weaker}
use Rattle.blart_keys.specs.Bulk.{PutsAll}
use Rattle.blart_keys.specs.Steps.{bytes}
use Rattle.blart_keys.specs.Stored.{kept_pair}
use Rattle.art_edits.proofs.Moved.BulkPuts.{on_ok}
use Rattle.blart_map.proofs.map.TreeMap.of_sorted.Goals as goal

pub returns-clause-made : goal.returns-clause-made
returns-clause-made g c =
    on_ok c.of_pairs.result
    (λ map made. subst (PutsAll (bytes g.K.AsBytes.bytes) kept_pair [] c.args.items.items) (sym made) c.put_ascending.ensures.put)
    c.of_pairs.ensures.made

pub returns-clause-refused : goal.returns-clause-refused
returns-clause-refused g c =
    on_err_weaker c.of_pairs.result
    (λ n e. n (subst (λ xs. PutsAll (bytes g.K.AsBytes.bytes) kept_pair [] xs c.put_ascending.new.pairs.pairs) e c.put_ascending.ensures.put))
    c.of_pairs.ensures.refused
