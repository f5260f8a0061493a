use Rattle.std.proofs.Common.{List, [], length, arith, sym, ap, subst}
use Rattle.std.specs.Vec.Iter.{into_iter_items}
use Rattle.blart_keys.specs.Content.{IsContent}
use Rattle.blart_keys.specs.Steps.{bytes}
use Rattle.blart_keys.specs.Stored.{kept_pair}
use Rattle.blart_keys.proofs.ContentLemmas.{empty_content}
use Rattle.blart_keys.proofs.RankLemmas.{Member}
use Rattle.art_edits.proofs.Moved.AtEnd.{AreRanked, ranked_from_sorted, one_more, none_greater, order_more}
use Rattle.art_edits.proofs.Moved.BulkPuts.{puts_more}
use Rattle.art_edits.proofs.ascending.put_ascending.Goals as goal

pub loop-item-init : goal.loop-item-init
loop-item-init g c =
    let kb = g.K.AsBytes.bytes in
    let all = c.into_iter-item-iterator.ensures.into_iter_gives.0 in
    let none = c.requires.none in
    record {
      whole = sym all;
      put = none;
      content = subst (IsContent (bytes kb)) (sym none) (empty_content (bytes kb));
      sorted = subst (AreRanked (bytes kb)) (sym all) (ranked_from_sorted (bytes kb) c.args.items.items c.requires.sorted);
      order = λ y z m n. absurd (subst (Member y) none m);
      room = omega (arith, ap (λ (l : List _). length l) all, c.requires.room);
    }

pub put_last-requires-clause-order : goal.put_last-requires-clause-order
put_last-requires-clause-order g c =
    none_greater g.K.AsBytes.bytes c.loop-item.pairs.pairs (into_iter_items c.loop-item.item-iterator) c.in-Some.item (into_iter_items c.next.new.self) c.in-Some.ensures.steps.0 c.loop-item.invariant.order

pub loop-item-preserved : goal.loop-item-preserved
loop-item-preserved g c =
    let kb = g.K.AsBytes.bytes in
    let i = c.loop-item.invariant in
    let x = c.in-Some.item in
    let stored = c.loop-item.pairs.pairs in
    let new = c.put_last.new.pairs.pairs in
    let items = into_iter_items c.loop-item.item-iterator in
    let rest = into_iter_items c.next.new.self in
    let is = c.in-Some.ensures.steps.0 in
    let put = c.put_last.ensures.put in
    record {
      whole = one_more c.args.items.items c.loop-item.yielded items x rest i.whole is;
      put = puts_more (bytes kb) kept_pair [] c.loop-item.yielded stored x new i.put put;
      content = put.content;
      sorted = (subst (AreRanked (bytes kb)) is i.sorted).1;
      order = order_more kb stored items x rest is i.order i.sorted new put;
      room = omega (arith, ap (λ (l : List _). length l) is, i.room, c.put_last.ensures.room);
    }
