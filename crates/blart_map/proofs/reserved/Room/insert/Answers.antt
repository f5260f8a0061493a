use Rattle.std.proofs.Common.{Ok}
use Rattle.blart_keys.specs.Stored.{kept, pair_at}
use Rattle.blart_keys.proofs.StoredLemmas.{kept_bytes, inserts_updates, inserts_len, inserts_routes}
use Rattle.blart_map.specs.Content.{pairs}
use Rattle.blart_map.proofs.reserved.Room.insert.Goals as goal

pub returns-clause-updates : goal.returns-clause-updates
unfolding pair_at pairs
returns-clause-updates g c =
    let kb = g.K.AsBytes.bytes in
    let S = pairs c.args.self.now.tree.pairs in
    let x : g.row.K.Denot × g.row.V.Denot = (c.args.key, c.args.value) in
    inserts_updates kb {E = Unit {0}} S x (kept kb S x) (kept_bytes kb S x) (pairs c.insert_disjoint_reserved-old.new.tree.pairs) (Ok c.insert_disjoint_reserved-old.result) c.law.ensures (c.insert_disjoint_reserved-old.ensures.put, c.insert_disjoint_reserved-old.ensures.old)

pub returns-clause-len : goal.returns-clause-len
unfolding pair_at pairs
returns-clause-len g c =
    let kb = g.K.AsBytes.bytes in
    let S = pairs c.args.self.now.tree.pairs in
    let x : g.row.K.Denot × g.row.V.Denot = (c.args.key, c.args.value) in
    inserts_len kb {E = Unit {0}} S x (kept kb S x) (kept_bytes kb S x) (pairs c.insert_disjoint_reserved-old.new.tree.pairs) (Ok c.insert_disjoint_reserved-old.result) c.law.ensures (c.insert_disjoint_reserved-old.ensures.put, c.insert_disjoint_reserved-old.ensures.old)

pub returns-clause-routes : goal.returns-clause-routes
unfolding pair_at pairs
returns-clause-routes g c =
    let kb = g.K.AsBytes.bytes in
    let S = pairs c.args.self.now.tree.pairs in
    let x : g.row.K.Denot × g.row.V.Denot = (c.args.key, c.args.value) in
    inserts_routes kb {E = Unit {0}} S x (kept kb S x) (kept_bytes kb S x) (pairs c.insert_disjoint_reserved-old.new.tree.pairs) (Ok c.insert_disjoint_reserved-old.result) c.law.ensures (c.insert_disjoint_reserved-old.ensures.put, c.insert_disjoint_reserved-old.ensures.old)
