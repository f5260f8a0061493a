use Rattle.std.proofs.Common.{◌∙◌, lit<, Some, ap}
use Rattle.art_tree.specs.declared.tree.descent.Fork.TheVariants as fork
use Rattle.art_tree.proofs.NumberedPairs.Keys.{key_read, has_key}
use Rattle.art_tree.proofs.NumberedPairs.Placed.{has_nearest, known_fits, to_nearest, new_fork, new_shape}
use Rattle.art_kinds.specs.Nodes.{at}
use Rattle.art_tree.proofs.tree.skeleton.Skeleton.join.Goals as goal

pub read-requires : goal.read-requires
read-requires g c = has_key g.K.AsBytes.bytes c.args.leaves.now.pairs c.args.id c.requires.joins.key c.requires.joins.gains.has

-- ---- at a node

pub add_at_node-requires : goal.add_at_node-requires
add_at_node-requires g c =
    let r = c.requires.joins in
    let w = c.in-Some-Node in
    let own = key_read g.K.AsBytes.bytes c.args.leaves.now.pairs c.args.id c.read.ensures.value c.as_bytes.ensures in
    let fits = known_fits r (fork.Node w.above w.node) (w.is ∙ ap Some w.field-0-is) in
    (lit< tt, ((r.leaves.nearest_key, new_fork r own (has_nearest r) (fork.Node w.above w.node) fits), c.requires.room))

pub returns-in-Some-Node-clause-shape : goal.returns-in-Some-Node-clause-shape
returns-in-Some-Node-clause-shape g c =
    let r = c.requires.joins in
    let w = c.in-Some-Node in
    let own = key_read g.K.AsBytes.bytes c.args.leaves.now.pairs c.args.id c.read.ensures.value c.as_bytes.ensures in
    let fits = known_fits r (fork.Node w.above w.node) (w.is ∙ ap Some w.field-0-is) in
    new_shape r own (has_nearest r) (fork.Node w.above w.node) fits (at c.add_at_node.new.self.nodes) c.add_at_node.new.self.root (c.add_at_node.ensures.gains r.leaves.nearest_key)

-- ---- at another fork

pub read-requires-2 : goal.read-requires-2
read-requires-2 g c = has_key g.K.AsBytes.bytes c.args.leaves.now.pairs c.args.gap.now.nearest c.requires.joins.leaves.nearest_key (has_nearest c.requires.joins)

pub fork_for-fork-requires : goal.fork_for-fork-requires
fork_for-fork-requires g c =
    let ps = c.args.leaves.now.pairs in
    let own = key_read g.K.AsBytes.bytes ps c.args.id c.read.ensures.value c.as_bytes.ensures in
    let near = key_read g.K.AsBytes.bytes ps c.args.gap.now.nearest c.read-2.ensures.value c.as_bytes-nearest.ensures in
    (lit< tt, to_nearest c.args.gap.now c.requires.joins own near)

pub add_leaf-requires : goal.add_leaf-requires
add_leaf-requires g c =
    let ps = c.args.leaves.now.pairs in
    let r = c.requires.joins in
    let own = key_read g.K.AsBytes.bytes ps c.args.id c.read.ensures.value c.as_bytes.ensures in
    let near = key_read g.K.AsBytes.bytes ps c.args.gap.now.nearest c.read-2.ensures.value c.as_bytes-nearest.ensures in
    let fits = c.fork_for-fork.ensures (to_nearest c.args.gap.now r own near) in
    (lit< tt, (new_fork r own near c.fork_for-fork.result fits, c.requires.room))

pub returns-clause-shape : goal.returns-clause-shape
returns-clause-shape g c =
    let ps = c.args.leaves.now.pairs in
    let r = c.requires.joins in
    let own = key_read g.K.AsBytes.bytes ps c.args.id c.read.ensures.value c.as_bytes.ensures in
    let near = key_read g.K.AsBytes.bytes ps c.args.gap.now.nearest c.read-2.ensures.value c.as_bytes-nearest.ensures in
    let fits = c.fork_for-fork.ensures (to_nearest c.args.gap.now r own near) in
    new_shape r own near c.fork_for-fork.result fits (at c.add_leaf.new.self.nodes) c.add_leaf.new.self.root c.add_leaf.ensures.gains
