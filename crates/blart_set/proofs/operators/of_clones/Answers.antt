use Rattle.std.proofs.Common.{◌∷◌, [], ◌++◌, map, sym, subst}
use Rattle.std.proofs.lemmas.List.{map-append}
use Rattle.std.proofs.lemmas.List.Elements.{AllZip-push}
use Rattle.std.specs.Iterator.{Yields}
use Rattle.std.specs.List.{AllZip}
use Rattle.std.proofs.iter.Next as it
use Rattle.blart_map.proofs.Beneath.{first_came, on_ok}
use Rattle.blart_set.proofs.Cloned.{now, cloned_some, on_err}
use Rattle.blart_set.proofs.operators.of_clones.Goals as goal

pub returns-in_err-clone-clause-refused : goal.returns-in_err-clone-clause-refused
returns-in_err-clone-clause-refused g c =
    let gives = g.I.Iterator.next_gives in
    let came = subst (λ from. Yields gives from c.loop-item.yielded c.loop-item.item-iterator) c.into_iter-item-iterator.ensures.into_iter_gives c.loop-item.yielded_by in
    on_err c.from_residual.result (first_came gives c.args.items c.loop-item.yielded c.in-Some.item c.next.new.self (it.Yields-more gives c.args.items c.loop-item.yielded c.loop-item.item-iterator c.in-Some.item c.next.new.self came (it.said gives c.in-Some.is c.next.ensures.steps)))

pub returns-in_err-push-clause-refused : goal.returns-in_err-push-clause-refused
returns-in_err-push-clause-refused g c =
    let gives = g.I.Iterator.next_gives in
    let came = subst (λ from. Yields gives from c.loop-item.yielded c.loop-item.item-iterator) c.into_iter-item-iterator.ensures.into_iter_gives c.loop-item.yielded_by in
    on_err c.from_residual-in_err-push.result (first_came gives c.args.items c.loop-item.yielded c.in-Some.item c.next.new.self (it.Yields-more gives c.args.items c.loop-item.yielded c.loop-item.item-iterator c.in-Some.item c.next.new.self came (it.said gives c.in-Some.is c.next.ensures.steps)))

pub loop-item-preserved : goal.loop-item-preserved
loop-item-preserved g c =
    let i = c.loop-item.invariant in
    let on = it.on c.in-Some.item c.in-Some.is c.next.ensures.goes i.1 in
    let clone = c.in_ok-clone.field-0 in
    let zipped = AllZip-push g.K.Clone.is_clone (map now c.loop-item.yielded) c.loop-item.clones.items c.in-Some.item.now clone i.2 c.in_ok-clone.ensures.cases in (
      on.0,
      on.1,
      subst (λ l. AllZip g.K.Clone.is_clone (map now (c.loop-item.yielded ++ c.in-Some.item ∷ [])) l) (sym c.in_ok-push.ensures.items) (subst (λ l. AllZip g.K.Clone.is_clone l (c.loop-item.clones.items ++ clone ∷ [])) (sym (map-append now c.loop-item.yielded (c.in-Some.item ∷ []))) zipped),
    )

pub returns : goal.returns
returns g c =
    let gives = g.I.Iterator.next_gives in
    let came = subst (λ from. Yields gives from c.loop-item.yielded c.loop-item.item-iterator) c.into_iter-item-iterator.ensures.into_iter_gives c.loop-item.yielded_by in
    record {
      made = on_ok c.from_vec.result (λ set made. (c.loop-item.yielded, c.loop-item.clones.items, (c.next.new.self, (c.loop-item.item-iterator, came, it.said gives c.in-None.is c.next.ensures.steps)), c.loop-item.invariant.2, made)) c.from_vec.ensures.made;
      refused = cloned_some gives g.K.Clone.is_clone now c.args.items c.loop-item.yielded c.loop-item.item-iterator c.loop-item.clones.items c.from_vec.result came c.loop-item.invariant.2 c.from_vec.ensures.refused;
    }
