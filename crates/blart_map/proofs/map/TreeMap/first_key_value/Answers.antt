use Rattle.std.proofs.Common.{rules, ap}
use Rattle.blart_keys.proofs.StoredLemmas.{stored_at}
use Rattle.art_tree.specs.Pairs.{pairs_of}
use Rattle.blart_map.specs.Content.{pairs}
use Rattle.art_edits.proofs.Numbers.{whole_pairs}
use Rattle.blart_map.proofs.map.TreeMap.first_key_value.Goals as goal

pub returns-clause-stored : goal.returns-clause-stored
unfolding pairs
returns-clause-stored g c =
    let kb = g.K.AsBytes.bytes in
    let x : g.row.K.Denot × g.row.V.Denot = (c.leaf.result.0.now, c.leaf.result.1.now) in
    stored_at kb (pairs_of c.args.self.now) (whole_pairs kb c.self.inside.tree.pairs (pairs_of c.args.self.now) (ap pairs_of c.self.view_is) c.law.ensures.content) 0 x (search rules)
