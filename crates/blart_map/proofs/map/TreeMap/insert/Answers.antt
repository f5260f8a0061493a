use Rattle.blart_keys.specs.Steps.{Inserts}
use Rattle.blart_keys.specs.Stored.{kept}
use Rattle.blart_keys.proofs.StoredLemmas.{kept_bytes, inserts_old, inserts_updates, inserts_len, inserts_fronts, inserts_absent, inserts_routes}
use Rattle.art_tree.specs.Pairs.{pairs_of}
use Rattle.blart_map.specs.Content.{pairs}
use Rattle.blart_map.proofs.map.TreeMap.insert.Goals as goal

pub returns : goal.returns
unfolding pairs
returns g c =
    let kb = g.K.AsBytes.bytes in
    let S = pairs_of c.args.self.now in
    let x : g.row.K.Denot × g.row.V.Denot = (c.args.key, c.args.value) in
    let y = kept kb S x in
    let put : Inserts kb S x y c.insert_disjoint.result (pairs_of c.insert_disjoint.new.tree.pairs) = rw (← c.self.view_is) c.insert_disjoint.ensures.put in
    let same = kept_bytes kb S x in
    record {
      old = inserts_old kb S x y same _ _ put;
      updates = inserts_updates kb S x y same _ _ c.law.ensures.content put;
      len = inserts_len kb S x y same _ _ c.law.ensures.content put;
      fronts = inserts_fronts kb S x y same _ _ put;
      routes = inserts_routes kb S x y same _ _ c.law.ensures.content put;
      err = rw (← c.self.view_is) c.insert_disjoint.ensures.err;
      absent = inserts_absent kb S x y same _ _ put;
      put = put;
    }
