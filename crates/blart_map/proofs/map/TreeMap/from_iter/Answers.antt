use Rattle.std.proofs.Common.{[], subst}
use Rattle.std.specs.Iterator.{Yields}
use Rattle.std.proofs.iter.Next as it
use Rattle.blart_keys.specs.Bulk.{PutsAll}
use Rattle.blart_keys.specs.Steps.{bytes}
use Rattle.blart_keys.specs.Stored.{kept_pair}
use Rattle.blart_map.specs.Content.{pairs}
use Rattle.art_edits.proofs.Moved.BulkPuts.{first_came, refused_some, on_ok}
use Rattle.blart_map.proofs.map.TreeMap.from_iter.Goals as goal

pub returns-in-Err-clause-refused : goal.returns-in-Err-clause-refused
returns-in-Err-clause-refused g c =
    let gives = g.I.Iterator.next_gives in
    let came = subst (λ from. Yields gives from c.loop-item.yielded c.loop-item.item-iterator) c.into_iter-item-iterator.ensures.into_iter_gives c.loop-item.yielded_by in
    first_came gives c.args.items c.loop-item.yielded c.in-Some.item c.next.new.self (it.Yields-more gives c.args.items c.loop-item.yielded c.loop-item.item-iterator c.in-Some.item c.next.new.self came (it.said gives c.in-Some.is c.next.ensures.steps))

pub returns-clause-made : goal.returns-clause-made
returns-clause-made g c =
    let gives = g.I.Iterator.next_gives in
    let came = subst (λ from. Yields gives from c.loop-item.yielded c.loop-item.item-iterator) c.into_iter-item-iterator.ensures.into_iter_gives c.loop-item.yielded_by in
    on_ok c.from_vec.result (λ map made. (c.loop-item.yielded, (c.next.new.self, (c.loop-item.item-iterator, came, it.said gives c.in-None.is c.next.ensures.steps)), subst (λ xs. PutsAll (bytes g.K.AsBytes.bytes) kept_pair [] xs (pairs map)) c.loop-item.invariant.2 made)) c.from_vec.ensures.made

pub returns-clause-refused : goal.returns-clause-refused
returns-clause-refused g c =
    let gives = g.I.Iterator.next_gives in
    let came = subst (λ from. Yields gives from c.loop-item.yielded c.loop-item.item-iterator) c.into_iter-item-iterator.ensures.into_iter_gives c.loop-item.yielded_by in
    refused_some gives c.args.items c.loop-item.yielded c.loop-item.item-iterator c.loop-item.all.items c.from_vec.result came c.loop-item.invariant.2 c.from_vec.ensures.refused
