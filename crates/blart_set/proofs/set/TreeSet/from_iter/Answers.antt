use Rattle.std.proofs.Common.{[], subst}
use Rattle.std.specs.Iterator.{Yields}
use Rattle.std.proofs.iter.Next as it
use Rattle.blart_keys.specs.Bulk.{PutsAll}
use Rattle.blart_keys.specs.Stored.{kept_item}
use Rattle.blart_set.specs.Elements.{elements}
use Rattle.blart_map.proofs.Beneath.{first_came, refused_some, on_ok}
use Rattle.blart_set.proofs.set.TreeSet.from_iter.Goals as goal

pub returns-in-Err-clause-refused : goal.returns-in-Err-clause-refused
returns-in-Err-clause-refused g c =
    let gives = g.I.Iterator.next_gives in
    let came = subst (λ from. Yields gives from c.loop-item.yielded c.loop-item.item-iterator) c.into_iter-item-iterator.ensures.into_iter_gives c.loop-item.yielded_by in
    first_came gives c.args.items c.loop-item.yielded c.in-Some.item c.next.new.self (it.Yields-more gives c.args.items c.loop-item.yielded c.loop-item.item-iterator c.in-Some.item c.next.new.self came (it.said gives c.in-Some.is c.next.ensures.steps))

pub returns : goal.returns
returns g c =
    let gives = g.I.Iterator.next_gives in
    let came = subst (λ from. Yields gives from c.loop-item.yielded c.loop-item.item-iterator) c.into_iter-item-iterator.ensures.into_iter_gives c.loop-item.yielded_by in
    record {
      made = on_ok c.from_vec.result (λ set made. (c.loop-item.yielded, (c.next.new.self, (c.loop-item.item-iterator, came, it.said gives c.in-None.is c.next.ensures.steps)), subst (λ xs. PutsAll g.K.AsBytes.bytes kept_item [] xs (elements set)) c.loop-item.invariant.2 made)) c.from_vec.ensures.made;
      refused = refused_some gives c.args.items c.loop-item.yielded c.loop-item.item-iterator c.loop-item.all.items c.from_vec.result came c.loop-item.invariant.2 c.from_vec.ensures.refused;
    }
