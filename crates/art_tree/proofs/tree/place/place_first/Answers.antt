use Rattle.art_tree.proofs.NumberedPairs.Placed.{placed_first, first_sound}
use Rattle.art_tree.proofs.tree.place.place_first.Goals as goal

pub returns-clause-placed : goal.returns-clause-placed
returns-clause-placed g c =
    let i = c.insert-id in
    placed_first g.K.AsBytes.bytes c.args.leaves.now.pairs i.new.self.pairs i.result (c.args.key, c.args.value) c.requires.whole.content c.requires.empty i.ensures.fresh i.ensures.placed

pub returns-clause-whole : goal.returns-clause-whole
returns-clause-whole g c =
    let i = c.insert-id in
    first_sound g.K.AsBytes.bytes c.args.leaves.now i.new.self c.args.skeleton.now.nodes c.args.skeleton.now.root i.result (c.args.key, c.args.value) c.requires.whole c.requires.empty (returns-clause-placed g c)
