use Rattle.std.proofs.Common.{◌∷◌, [], map, sym, subst}
use Rattle.std.proofs.lemmas.List.{map-append}
use Rattle.std.specs.Iterator.{Yields}
use Rattle.std.proofs.iter.Next as it
use Rattle.std.specs.Map.Iter.{deref_pair}
use Rattle.blart_keys.specs.Bulk.{PutsAll}
use Rattle.blart_keys.specs.Steps.{bytes}
use Rattle.blart_keys.specs.Stored.{kept_pair}
use Rattle.blart_map.specs.Content.{pairs}
use Rattle.art_edits.proofs.Moved.BulkPuts.{puts_more, puts_same}
use Rattle.blart_map.proofs.map.TreeMap.extend_copied.Goals as goal

pub loop-item-preserved : goal.loop-item-preserved
loop-item-preserved g c =
    let i = c.loop-item.invariant in
    let on = it.on c.in-Some.item c.in-Some.is c.next.ensures.goes i.1 in
    let more = puts_more (bytes g.K.AsBytes.bytes) kept_pair (pairs c.args.self.now) (map deref_pair c.loop-item.yielded) (pairs c.loop-item.self) (deref_pair c.in-Some.item) (pairs c.put.new.self) i.2 c.in_default.ensures.put in
    (on.0, on.1, subst (λ xs. PutsAll (bytes g.K.AsBytes.bytes) kept_pair (pairs c.args.self.now) xs (pairs c.put.new.self)) (sym (map-append deref_pair c.loop-item.yielded (c.in-Some.item ∷ []))) more)

pub returns-in-Err : goal.returns-in-Err
returns-in-Err g c =
    let i = c.loop-item.invariant in
    let came = subst (λ from. Yields g.I.Iterator.next_gives from c.loop-item.yielded c.loop-item.item-iterator) c.into_iter-item-iterator.ensures.into_iter_gives c.loop-item.yielded_by in
    let steps = it.said g.I.Iterator.next_gives c.in-Some.is c.next.ensures.steps in (
      c.loop-item.yielded,
      c.in-Some.item,
      c.next.new.self,
      it.Yields-more g.I.Iterator.next_gives c.args.items c.loop-item.yielded c.loop-item.item-iterator c.in-Some.item c.next.new.self came steps,
      puts_same (bytes g.K.AsBytes.bytes) kept_pair (pairs c.args.self.now) (map deref_pair c.loop-item.yielded) (pairs c.loop-item.self) (pairs c.put.new.self) i.2 c.in-Err.ensures.err,
      c.in-Err.ensures.new,
    )
