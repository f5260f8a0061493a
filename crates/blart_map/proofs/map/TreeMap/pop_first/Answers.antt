use Rattle.std.proofs.Common.{rules, ap}
use Rattle.blart_keys.proofs.StoredLemmas.{takes_first}
use Rattle.art_tree.specs.Pairs.{pairs_of}
use Rattle.blart_map.specs.Content.{pairs}
use Rattle.art_edits.proofs.Numbers.{whole_pairs}
use Rattle.blart_map.proofs.Popped.{routes_first}
use Rattle.blart_map.proofs.map.TreeMap.pop_first.Goals as goal

pub returns-clause-taken : goal.returns-clause-taken
unfolding pairs
returns-clause-taken g c =
    let kb = g.K.AsBytes.bytes in
    let ps = c.self.inside.tree.pairs in
    takes_first kb (pairs_of c.args.self.now) (pairs_of c.remove.new.self.pairs) c.remove.result (whole_pairs kb ps (pairs_of c.args.self.now) (ap pairs_of c.self.view_is) c.law.ensures.content) (search rules)

pub returns-clause-routes : goal.returns-clause-routes
unfolding pairs
returns-clause-routes g c =
    let kb = g.K.AsBytes.bytes in
    let ps = c.self.inside.tree.pairs in
    routes_first kb (pairs_of c.args.self.now) (pairs_of c.remove.new.self.pairs) c.remove.result (whole_pairs kb ps (pairs_of c.args.self.now) (ap pairs_of c.self.view_is) c.law.ensures.content) (search rules)
