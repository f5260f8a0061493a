use Rattle.std.proofs.Common.{◌∷◌, [], ◌++◌, take, sym, ap, ◌∙◌, subst}
use Rattle.std.proofs.lemmas.List.{take_more}
use Rattle.blart_keys.specs.Bulk.{PutsAll}
use Rattle.blart_keys.specs.Steps.{bytes}
use Rattle.blart_keys.specs.Stored.{kept_pair}
use Rattle.blart_map.specs.Content.{pairs}
use Rattle.art_edits.proofs.Moved.BulkPuts.{puts_more}
use Rattle.blart_map.proofs.map.TreeMap.put_copies.Goals as goal

pub loop-item-preserved : goal.loop-item-preserved
loop-item-preserved g c =
    let kb = g.K.AsBytes.bytes in
    let i = c.loop-item.item-index in
    let x = c.item-item.result in
    let more = take_more c.args.items.now i x c.loop-item-test.true ∙ ap (λ y. take i c.args.items.now ++ y ∷ []) (sym c.item-item.is) in
    subst (λ xs. PutsAll (bytes kb) kept_pair (pairs c.args.self.now) xs (pairs c.put.new.self)) (sym more) (puts_more (bytes kb) kept_pair (pairs c.args.self.now) (take i c.args.items.now) (pairs c.loop-item.self) x (pairs c.put.new.self) c.loop-item.invariant c.in_ok-put.ensures.put)
