use Rattle.std.proofs.Common.{rules, Ok, Some}
use Rattle.blart_keys.specs.Stored.{kept, pair_at}
use Rattle.blart_map.specs.Content.{pairs}
use Rattle.blart_keys.proofs.StoredLemmas.{kept_bytes, inserts_updates, inserts_len}
use Rattle.blart_set.specs.Elements.{elements}
use Rattle.blart_set.proofs.Pairs.{inserts-new, inserts-put, updates-keys}
use Rattle.blart_set.proofs.Tried.{tells-none, len-keys}
use Rattle.blart_set.proofs.reserved.Reserved+TreeSet+K+PREFIX_LEN+Room+K+unit+PREFIX_LEN.insert.Goals as goal

pub returns : goal.returns
unfolding elements pair_at
returns g c =
    let kb = g.K.AsBytes.bytes in
    let S = pairs c.args.self.now.room.tree.pairs in
    let S' = pairs c.insert.new.self.tree.pairs in
    let x : g.row.K.Denot × Unit {0} = (c.args.element, tt) in
    record {
      same_set = search rules;
      meanwhile = search rules;
      least = search rules;
      left = search rules;
      new = rw (tells-none c.insert.result c.is_none.result c.is_none.ensures) (inserts-new kb S S' x {E = Unit {0}} (kept kb S x) (Ok c.insert.result) (c.insert.ensures.put, c.insert.ensures.old));
      put = inserts-put kb S S' x {E = Unit {0}} (Ok c.insert.result) (c.insert.ensures.put, c.insert.ensures.old);
      updates = updates-keys kb S S' (kb c.args.element) (Some (kept kb S x)) (inserts_updates kb {E = Unit {0}} S x (kept kb S x) (kept_bytes kb S x) S' (Ok c.insert.result) c.law.ensures (c.insert.ensures.put, c.insert.ensures.old));
      len = rw (tells-none c.insert.result c.is_none.result c.is_none.ensures) (len-keys kb S S' x c.insert.result (inserts_len kb {E = Unit {0}} S x (kept kb S x) (kept_bytes kb S x) S' (Ok c.insert.result) c.law.ensures (c.insert.ensures.put, c.insert.ensures.old)));
    }
