use Rattle.std.proofs.Common.{lit<, refl}
use Rattle.art_tree.proofs.NumberedPairs.Placed.{has_beside, has_leaf_before, free_before, placed_free, joins}
use Rattle.art_tree.proofs.tree.place.place_beside.Goals as goal

pub leaf_before-prev-requires : goal.leaf_before-prev-requires
leaf_before-prev-requires g c = has_beside g.K.AsBytes.bytes c.args.leaves.now.pairs (g.K.AsBytes.bytes c.args.key) c.args.gap.now.beside c.requires.free.beside

pub insert-id-requires-clause-prev : goal.insert-id-requires-clause-prev
insert-id-requires-clause-prev g c =
    let kb = g.K.AsBytes.bytes in
    let old = c.args.leaves.now.pairs in
    let q = kb c.args.key in
    let b = c.leaf_before-prev in
    has_leaf_before kb old q b.result.0 (free_before kb old c.args.gap.now q c.requires.whole.content c.law.ensures.distinct c.requires.free b.result.0 b.ensures)

pub join-requires : goal.join-requires
join-requires g c =
    let kb = g.K.AsBytes.bytes in
    let l = c.args.leaves.now in
    let b = c.leaf_before-prev in
    let i = c.insert-id in
    let x : g.row.K.Denot × g.row.V.Denot = (c.args.key, c.args.value) in
    let p = placed_free kb l.pairs c.args.gap.now (kb x.0) c.requires.whole.content c.law.ensures.distinct c.requires.free b.result.0 b.ensures i.new.self.pairs i.result x refl i.ensures.fresh i.ensures.placed in
    (lit< tt, (joins kb l c.args.skeleton.now.nodes c.args.skeleton.now.root i.new.self.pairs c.args.gap.now.nearest c.args.gap.now.depth c.args.shown.now i.result x c.requires.whole c.requires.free.leaves c.requires.shown p, c.requires.nodes_room))

pub returns-clause-placed : goal.returns-clause-placed
returns-clause-placed g c =
    let kb = g.K.AsBytes.bytes in
    let b = c.leaf_before-prev in
    let i = c.insert-id in
    placed_free kb c.args.leaves.now.pairs c.args.gap.now (kb c.args.key) c.requires.whole.content c.law.ensures.distinct c.requires.free b.result.0 b.ensures i.new.self.pairs i.result (c.args.key, c.args.value) refl i.ensures.fresh i.ensures.placed

pub returns-clause-whole : goal.returns-clause-whole
returns-clause-whole g c = record { content = (returns-clause-placed g c).put.content; shape = c.join.ensures.shape }
