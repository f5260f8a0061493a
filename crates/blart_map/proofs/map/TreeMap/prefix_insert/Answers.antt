use Rattle.std.proofs.Common.{ap, lit<, subst}
use Rattle.std.proofs.lemmas.Result.{err_from_is_err_and}
use Rattle.blart_keys.specs.Content.{IsOver}
use Rattle.blart_keys.specs.Steps.{bytes}
use Rattle.blart_keys.proofs.StoredLemmas.{overwrites_over, before_over, alone_free, alone_absent}
use Rattle.blart_map.specs.Content.{pairs}
use Rattle.art_edits.proofs.Numbers.{whole_pairs}
use Rattle.blart_keys.proofs.Overwritten.{routes_over}
use Rattle.art_tree.specs.Pairs.{pairs_of}
use Rattle.art_edits.proofs.Placed.Inserting.{opens_else, open_alone, exact_has, exact_takes, placed, exchanged}
use Rattle.art_edits.proofs.Related.Thinning.{over_of_put, no_subtree_pairs}
use Rattle.blart_map.proofs.map.TreeMap.prefix_insert.Goals as goal

pub swap-requires : goal.swap-requires
unfolding pairs
swap-requires g c =
    let kb = g.K.AsBytes.bytes in
    let ps = c.self.inside.tree.pairs in
    let q = kb c.args.key in
    let good = rw c.as_bytes.ensures at c.in-Exact.ensures in
    (lit< tt, (exact_has kb ps c.law.ensures.content c.law.ensures.distinct q c.in-Exact.id good, exact_takes kb ps c.law.ensures.content c.law.ensures.distinct q c.in-Exact.id good))

pub returns-in-Exact : goal.returns-in-Exact
unfolding pairs
returns-in-Exact g c =
    let kb = g.K.AsBytes.bytes in
    let ps = c.self.inside.tree.pairs in
    let good = rw c.as_bytes.ensures at c.in-Exact.ensures in
    let x : g.row.K.Denot × g.row.V.Denot = (c.args.key, c.args.value) in
    let put = (exchanged kb ps c.law.ensures.content c.law.ensures.distinct x c.in-Exact.id good c.swap.result c.swap.ensures.value c.swap.new.self.pairs c.swap.ensures.pairs).1 in
    let over = subst (λ S. IsOver (bytes kb) S x (pairs_of c.swap.new.self.pairs)) (ap pairs_of c.self.view_is) (over_of_put (bytes kb) (pairs_of ps) (pairs_of c.swap.new.self.pairs) x put) in
    record {
      put = over;
      over = overwrites_over kb (pairs_of c.args.self.now) (pairs_of c.swap.new.self.pairs) x (whole_pairs kb ps (pairs_of c.args.self.now) (ap pairs_of c.self.view_is) c.law.ensures.content) over;
      fronts = before_over kb (pairs_of c.args.self.now) (pairs_of c.swap.new.self.pairs) x over;
      routes = routes_over kb (pairs_of c.args.self.now) (pairs_of c.swap.new.self.pairs) x (whole_pairs kb ps (pairs_of c.args.self.now) (ap pairs_of c.self.view_is) c.law.ensures.content) over;
      err = tt;
      free = tt;
      absent = tt;
    }

pub returns-in_err-make_room-in_default : goal.returns-in_err-make_room-in_default
unfolding pairs
returns-in_err-make_room-in_default g c =
    let kb = g.K.AsBytes.bytes in
    let ps = c.self.inside.tree.pairs in
    let q = kb c.args.key in
    let good = rw c.as_bytes.ensures at c.point.ensures in
    let alone = open_alone kb ps c.law.ensures.content c.law.ensures.distinct q c.point.result good (opens_else c.point.result c.in_default.not-Exact c.in_default.not-Related) in
    let p = err_from_is_err_and c.from_residual.result c.from_residual.ensures.1 in
    let none = no_subtree_pairs kb ps q alone in
    let same = c.in_err-make_room-in_default.ensures.pairs in
    rw (p.1, ← c.self.view_is) (record {
      put = (none, ap pairs_of same);
      over = tt;
      fronts = tt;
      routes = tt;
      err = same;
      free = alone_free kb (pairs_of ps) q none;
      absent = alone_absent kb (pairs_of ps) q none;
    })

pub returns-in_ok-make_room-in_default : goal.returns-in_ok-make_room-in_default
unfolding pairs
returns-in_ok-make_room-in_default g c =
    let kb = g.K.AsBytes.bytes in
    let ps = c.self.inside.tree.pairs in
    let q = kb c.args.key in
    let x : g.row.K.Denot × g.row.V.Denot = (c.args.key, c.args.value) in
    let good = rw c.as_bytes.ensures at c.point.ensures in
    let alone = open_alone kb ps c.law.ensures.content c.law.ensures.distinct q c.point.result good (opens_else c.point.result c.in_default.not-Exact c.in_default.not-Related) in
    let put = (placed kb ps c.law.ensures.content c.law.ensures.distinct x alone c.make_room.new.self.pairs c.place.new.self.pairs c.in_ok-make_room-in_default.ensures.pairs c.place.ensures.put).1 in
    let over = subst (λ S. IsOver (bytes kb) S x (pairs_of c.place.new.self.pairs)) (ap pairs_of c.self.view_is) (over_of_put (bytes kb) (pairs_of ps) (pairs_of c.place.new.self.pairs) x put) in
    record {
      put = over;
      over = overwrites_over kb (pairs_of c.args.self.now) (pairs_of c.place.new.self.pairs) x (whole_pairs kb ps (pairs_of c.args.self.now) (ap pairs_of c.self.view_is) c.law.ensures.content) over;
      fronts = before_over kb (pairs_of c.args.self.now) (pairs_of c.place.new.self.pairs) x over;
      routes = routes_over kb (pairs_of c.args.self.now) (pairs_of c.place.new.self.pairs) x (whole_pairs kb ps (pairs_of c.args.self.now) (ap pairs_of c.self.view_is) c.law.ensures.content) over;
      err = tt;
      free = tt;
      absent = tt;
    }

pub returns-in-Related-clause-over : goal.returns-in-Related-clause-over
unfolding pairs
returns-in-Related-clause-over g c =
    let kb = g.K.AsBytes.bytes in
    let ps = c.self.inside.tree.pairs in
    let x : g.row.K.Denot × g.row.V.Denot = (c.args.key, c.args.value) in
    overwrites_over kb (pairs_of c.args.self.now) (pairs_of c.overwrite.new.self) x (whole_pairs kb ps (pairs_of c.args.self.now) (ap pairs_of c.self.view_is) c.law.ensures.content) c.overwrite.ensures.over

pub returns-in-Related-clause-fronts : goal.returns-in-Related-clause-fronts
unfolding pairs
returns-in-Related-clause-fronts g c =
    let kb = g.K.AsBytes.bytes in
    let x : g.row.K.Denot × g.row.V.Denot = (c.args.key, c.args.value) in
    before_over kb (pairs_of c.args.self.now) (pairs_of c.overwrite.new.self) x c.overwrite.ensures.over

pub returns-in-Related-clause-routes : goal.returns-in-Related-clause-routes
unfolding pairs
returns-in-Related-clause-routes g c =
    let kb = g.K.AsBytes.bytes in
    let ps = c.self.inside.tree.pairs in
    let x : g.row.K.Denot × g.row.V.Denot = (c.args.key, c.args.value) in
    routes_over kb (pairs_of c.args.self.now) (pairs_of c.overwrite.new.self) x (whole_pairs kb ps (pairs_of c.args.self.now) (ap pairs_of c.self.view_is) c.law.ensures.content) c.overwrite.ensures.over
