use Rattle.std.proofs.Common.{refl}
use Rattle.std.proofs.lemmas.Result.{on_ok_weaker}
use Rattle.blart_keys.specs.Steps.{Puts}
use Rattle.blart_keys.proofs.StoredLemmas.{puts_old, puts_updates, puts_fronts, puts_free, puts_why, puts_len, puts_routes}
use Rattle.blart_map.specs.Content.{pairs}
use Rattle.blart_keys.proofs.Overlapped.{overlaps_put}
use Rattle.art_tree.specs.Pairs.{pairs_of}
use Rattle.blart_map.proofs.map.TreeMap.replace_entry.Goals as goal

pub returns : goal.returns
unfolding pairs
returns g c =
    let kb = g.K.AsBytes.bytes in
    let S = pairs_of c.args.self.now in
    let x : g.row.K.Denot × g.row.V.Denot = (c.args.key, c.args.value) in
    let put : Puts kb (λ pair. pair) S x x c.replace.result (pairs_of c.replace.new.tree.pairs) = rw (← c.self.view_is) c.replace.ensures.put in
    let updates = puts_updates kb (λ pair. pair) S x x refl _ _ c.law.ensures.content put in
    record {
      old = puts_old kb (λ pair. pair) S x x refl _ _ put;
      updates = updates;
      len = puts_len kb S x x refl _ _ c.law.ensures.content put;
      fronts = puts_fronts kb (λ pair. pair) S x x refl _ _ put;
      routes = puts_routes kb (λ pair. pair) S x x refl _ _ c.law.ensures.content put;
      overlapped = on_ok_weaker c.replace.result (overlaps_put kb S _ (kb c.args.key) x) updates;
      err = rw (← c.self.view_is) c.replace.ensures.err;
      free = puts_free kb (λ pair. pair) S x x refl _ _ put;
      why = puts_why kb (λ pair. pair) S x x refl _ _ put;
      put = put;
    }
