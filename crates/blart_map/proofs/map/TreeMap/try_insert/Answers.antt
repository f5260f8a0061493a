use Rattle.std.proofs.Common.{Option, option_map}
use Rattle.std.proofs.lemmas.Result.{on_ok_weaker}
use Rattle.blart_keys.specs.Steps.{Puts}
use Rattle.blart_keys.specs.Stored.{kept}
use Rattle.blart_keys.proofs.StoredLemmas.{kept_bytes, puts_old, puts_updates, puts_fronts, puts_free, puts_why, puts_value_len, puts_routes}
use Rattle.blart_map.specs.Content.{pairs}
use Rattle.blart_keys.proofs.Overlapped.{overlaps_put}
use Rattle.art_tree.specs.Pairs.{pairs_of}
use Rattle.blart_map.proofs.map.TreeMap.try_insert.Goals as goal

pub returns : goal.returns
unfolding pairs
returns g c =
    let kb = g.K.AsBytes.bytes in
    let S = pairs_of c.args.self.now in
    let x : g.row.K.Denot × g.row.V.Denot = (c.args.key, c.args.value) in
    let y = kept kb S x in
    let tell : Option (g.row.K.Denot × g.row.V.Denot) → Option g.row.V.Denot = option_map (λ pair. pair.1) in
    let put : Puts kb tell S x y c.insert.result (pairs_of c.insert.new.tree.pairs) = rw (← c.self.view_is) c.insert.ensures.put in
    let same = kept_bytes kb S x in
    let updates = puts_updates kb tell S x y same _ _ c.law.ensures.content put in
    record {
      old = puts_old kb tell S x y same _ _ put;
      updates = updates;
      len = puts_value_len kb S x y same _ _ c.law.ensures.content put;
      fronts = puts_fronts kb tell S x y same _ _ put;
      routes = puts_routes kb tell S x y same _ _ c.law.ensures.content put;
      overlapped = on_ok_weaker c.insert.result (overlaps_put kb S _ (kb c.args.key) y) updates;
      err = rw (← c.self.view_is) c.insert.ensures.err;
      free = puts_free kb tell S x y same _ _ put;
      why = puts_why kb tell S x y same _ _ put;
      put = put;
    }
