use Rattle.std.proofs.Common.{◌∷◌, [], ◌++◌, take, sym, ap, ◌∙◌, subst}
use Rattle.std.proofs.lemmas.List.{take_more}
use Rattle.blart_keys.specs.Bulk.{PutsAll}
use Rattle.blart_keys.specs.Stored.{kept_item}
use Rattle.blart_set.specs.Elements.{elements}
use Rattle.blart_map.proofs.Beneath.{puts_more}
use Rattle.blart_set.proofs.set.TreeSet.put_copies.Goals as goal

pub loop-item-preserved : goal.loop-item-preserved
loop-item-preserved g c =
    let kb = g.K.AsBytes.bytes in
    let i = c.loop-item.item-index in
    let x = c.item-item.result in
    let more = take_more c.args.items.now i x c.loop-item-test.true ∙ ap (λ y. take i c.args.items.now ++ y ∷ []) (sym c.item-item.is) in
    subst (λ xs. PutsAll kb kept_item (elements c.args.self.now) xs (elements c.put.new.self)) (sym more) (puts_more kb kept_item (elements c.args.self.now) (take i c.args.items.now) (elements c.loop-item.self) x (elements c.put.new.self) c.loop-item.invariant c.in_ok-put.ensures.put)
