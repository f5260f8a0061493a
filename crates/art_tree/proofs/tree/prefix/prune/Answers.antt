use Rattle.std.proofs.Common.{lit<}
use Rattle.art_kinds.specs.Nodes.{at}
use Rattle.art_tree.specs.Leaves.{keys_in}
use Rattle.art_tree.specs.Invariant.EdgesAbove.{edge_front}
use Rattle.art_tree.proofs.NumberedPairs.Subtrees.{subtree_keys, last_left}
use Rattle.art_tree.proofs.tree.prefix.prune.Goals as goal

pub free_subtree-requires : goal.free_subtree-requires
free_subtree-requires g c =
    let s = c.requires.sound.shape in
    (lit< tt, (keys_in g.K.AsBytes.bytes c.args.leaves.now.pairs, s, (c.requires.subtree s).leads))

pub returns-clause-sound : goal.returns-clause-sound
returns-clause-sound g c =
    let kb = g.K.AsBytes.bytes in
    let s = c.requires.sound.shape in
    let old = c.args.leaves.now.pairs in
    let new = c.remove_leaves.new.leaves.pairs in
    let b = c.requires.subtree s in
    let r = c.remove_leaves.ensures in
    let p = last_left kb old new c.args.prefix.now (edge_front s.front_of c.args.subtree.now.above) c.args.subtree.now.last c.law.ensures.distinct r.ends r.rest r.stood b.along (subtree_keys (keys_in kb old) (at c.args.skeleton.now.nodes) c.args.skeleton.now.root s c.args.prefix.now c.args.subtree.now b) in
    record { content = r.content; shape = c.free_subtree.ensures (keys_in kb old) (keys_in kb new) s p.0 b.leads p.1 }
