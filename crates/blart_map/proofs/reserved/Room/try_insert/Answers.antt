use Rattle.blart_map.specs.Content.{pairs}
use Rattle.art_edits.proofs.Placed.Tried.{tried_old, tried_updates, tried_len, tried_routes, tried_free, tried_why}
use Rattle.blart_map.proofs.reserved.Room.try_insert.Goals as goal

pub returns-clause-old : goal.returns-clause-old
unfolding pairs
returns-clause-old g c = tried_old g.K.AsBytes.bytes (pairs c.args.self.now.tree.pairs) (c.args.key, c.args.value) (pairs c.insert_reserved-old.new.tree.pairs) c.insert_reserved-old.result c.insert_reserved-old.ensures.put

pub returns-clause-updates : goal.returns-clause-updates
unfolding pairs
returns-clause-updates g c = tried_updates g.K.AsBytes.bytes (pairs c.args.self.now.tree.pairs) (c.args.key, c.args.value) (pairs c.insert_reserved-old.new.tree.pairs) c.insert_reserved-old.result c.law.ensures c.insert_reserved-old.ensures.put

pub returns-clause-len : goal.returns-clause-len
unfolding pairs
returns-clause-len g c = tried_len g.K.AsBytes.bytes (pairs c.args.self.now.tree.pairs) (c.args.key, c.args.value) (pairs c.insert_reserved-old.new.tree.pairs) c.insert_reserved-old.result c.law.ensures c.insert_reserved-old.ensures.put

pub returns-clause-routes : goal.returns-clause-routes
unfolding pairs
returns-clause-routes g c = tried_routes g.K.AsBytes.bytes (pairs c.args.self.now.tree.pairs) (c.args.key, c.args.value) (pairs c.insert_reserved-old.new.tree.pairs) c.insert_reserved-old.result c.law.ensures c.insert_reserved-old.ensures.put

pub returns-clause-free : goal.returns-clause-free
unfolding pairs
returns-clause-free g c = tried_free g.K.AsBytes.bytes (pairs c.args.self.now.tree.pairs) (c.args.key, c.args.value) (pairs c.insert_reserved-old.new.tree.pairs) c.insert_reserved-old.result c.insert_reserved-old.ensures.put

pub returns-clause-why : goal.returns-clause-why
unfolding pairs
returns-clause-why g c = tried_why g.K.AsBytes.bytes (pairs c.args.self.now.tree.pairs) (c.args.key, c.args.value) (pairs c.insert_reserved-old.new.tree.pairs) c.insert_reserved-old.result c.insert_reserved-old.ensures.put
