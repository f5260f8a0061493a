use Rattle.std.proofs.Common.{◌≡◌, ◌≤◌, List, ◌++◌, ◌∷◌, [], length, map, ap, sym, ◌∙◌, arith, append_assoc, vec_len, vec_capacity}
use Rattle.std.proofs.lemmas.List.{map-append}
use Rattle.std.specs.Vec.Iter.{into_iter_items}
use Rattle.blart_set.proofs.bulk.from.with_units.Goals as goal

pub loop-item-init : goal.loop-item-init
loop-item-init g c =
    let all = c.into_iter-item-iterator.ensures.into_iter_gives.0 in
    let none = c.in_ok-pairs.ensures.items in
    let len : vec_len c.in_ok-pairs.pairs ≡ 0 = c.in_ok-pairs.ensures.len in
    let capacity : c.len.result ≤ vec_capacity c.in_ok-pairs.pairs = c.in_ok-pairs.ensures.capacity in
    record {
      whole = rw none (sym all);
      room = omega (arith, ap (λ (l : List _). length l) all, c.len.ensures);
    }

pub push_reserved-requires : goal.push_reserved-requires
push_reserved-requires g c = let r = c.loop-item.invariant.room in omega (arith, ap (λ (l : List _). length l) c.in-Some.ensures.steps.0)

pub loop-item-preserved : goal.loop-item-preserved
loop-item-preserved g c =
    let i = c.loop-item.invariant in
    let is = c.in-Some.ensures.steps.0 in
    let len = c.push_reserved.ensures.len in
    let capacity = c.push_reserved.ensures.capacity in
    let r = i.room in
    record {
      whole = rw (c.push_reserved.ensures.items, map-append (λ p. p.0) c.loop-item.pairs.items ((c.in-Some.item, tt) ∷ []), append_assoc (map (λ p. p.0) c.loop-item.pairs.items) (c.in-Some.item ∷ []) (into_iter_items c.next.new.self)) (i.whole ∙ ap (λ (l : List _). map (λ p. p.0) c.loop-item.pairs.items ++ l) is);
      room = omega (arith, ap (λ (l : List _). length l) is);
    }
