use Rattle.std.proofs.Common.{ap, [], subst, lit<, rules}
use Rattle.std.specs.Cmp.Lexicographic.{nat_list_cmp_total}
use Rattle.std.specs.Ordering.{is_lt}
use Rattle.std.proofs.lemmas.List.MinMax.{ranks_by}
use Rattle.std.proofs.lemmas.List.Sorted.{answers_always}
use Rattle.std.proofs.lemmas.Iterator.Adapters.{YieldsList-from_vec}
use Rattle.blart_keys.specs.Bulk.{PutsAll}
use Rattle.blart_keys.specs.Steps.{bytes}
use Rattle.blart_keys.specs.Stored.{kept_pair}
use Rattle.blart_keys.proofs.ContentLemmas.{empty_content}
use Rattle.blart_map.specs.Content.{pairs}
use Rattle.art_edits.proofs.Moved.BulkPuts.{of_all, on_ok}
use Rattle.blart_keys.proofs.BulkLemmas.{puts_reordered, same_from_stable, kept_pair-bytes}
use Rattle.blart_map.proofs.map.TreeMap.from_vec.Goals as goal

pub of_sorted-requires : goal.of_sorted-requires
of_sorted-requires g c = (lit< tt, c.in-Ok.ensures.sorted _ (ranks_by nat_list_cmp_total (bytes g.K.AsBytes.bytes)) (answers_always _ _ _ (λ f a r f' k. ap is_lt k.met)))

pub returns-in-Ok-clause-made : goal.returns-in-Ok-clause-made
returns-in-Ok-clause-made g c =
    let kb = g.K.AsBytes.bytes in
    let sorted = c.sort_by.new.self.items in
    let stable = c.sort_by.ensures.stable _ (ranks_by nat_list_cmp_total (bytes kb)) (answers_always _ _ _ (λ f a r f' k. ap is_lt k.met)) in
    on_ok c.of_sorted.result (λ map made. puts_reordered (bytes kb) kept_pair (kept_pair-bytes kb) [] c.args.items.items sorted (pairs map) (empty_content (bytes kb)) (same_from_stable (bytes kb) c.args.items.items sorted stable) made) c.of_sorted.ensures.made

pub returns-in-Err-clause-made : goal.returns-in-Err-clause-made
returns-in-Err-clause-made g c =
    let kb = g.K.AsBytes.bytes in
    let all = YieldsList-from_vec {s = c.into_iter.result} c.sort_by.new.self.items (search rules) (search rules) in
    on_ok c.put_in_turn.result (λ map made. subst (λ xs. PutsAll (bytes kb) kept_pair [] xs (pairs map)) c.in-Err.ensures.err (of_all all (λ xs. PutsAll (bytes kb) kept_pair [] xs (pairs map)) made)) c.put_in_turn.ensures.made
