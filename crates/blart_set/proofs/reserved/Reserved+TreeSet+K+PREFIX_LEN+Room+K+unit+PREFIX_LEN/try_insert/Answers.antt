use Rattle.std.proofs.Common.{rules}
use Rattle.blart_keys.specs.Stored.{kept}
use Rattle.blart_map.specs.Content.{pairs}
use Rattle.blart_map.specs.Reserved.{as_tried}
use Rattle.blart_map.proofs.Beneath.{tried_len, tried_updates}
use Rattle.blart_set.specs.Elements.{elements}
use Rattle.blart_set.proofs.Pairs.{puts-new, puts-put, puts-free, updates-told}
use Rattle.blart_set.proofs.Tried.{told_tried, len-told, tried-err, tried-why}
use Rattle.blart_set.proofs.reserved.Reserved+TreeSet+K+PREFIX_LEN+Room+K+unit+PREFIX_LEN.try_insert.Goals as goal

pub returns : goal.returns
unfolding elements
returns g c =
    let kb = g.K.AsBytes.bytes in
    let S = pairs c.args.self.now.room.tree.pairs in
    let S' = pairs c.try_insert.new.self.tree.pairs in
    let x : g.row.K.Denot × Unit {0} = (c.args.element, tt) in
    record {
      same_set = search rules;
      meanwhile = search rules;
      least = search rules;
      left = search rules;
      new = rw c.told.ensures (told_tried _ c.try_insert.result (puts-new kb S S' x (kept kb S x) (as_tried c.try_insert.result) c.try_insert.ensures.put));
      put = rw c.told.ensures (told_tried _ c.try_insert.result (puts-put kb S S' x (as_tried c.try_insert.result) c.try_insert.ensures.put));
      updates = rw c.told.ensures (updates-told kb S S' (kb c.args.element) (kept kb S x) c.try_insert.result (tried_updates kb S x S' c.try_insert.result c.law.ensures c.try_insert.ensures.put));
      free = rw c.told.ensures (told_tried _ c.try_insert.result (puts-free kb S S' x (kept kb S x) (as_tried c.try_insert.result) c.try_insert.ensures.put));
      len = rw c.told.ensures (len-told kb S S' x c.try_insert.result (tried_len kb S x S' c.try_insert.result c.law.ensures c.try_insert.ensures.put));
      err = rw c.told.ensures (tried-err kb S S' x c.try_insert.result c.try_insert.ensures.put);
      why = rw c.told.ensures (tried-why kb S S' x c.try_insert.result c.try_insert.ensures.put);
    }
