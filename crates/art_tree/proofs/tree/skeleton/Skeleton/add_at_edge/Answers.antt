use Rattle.std.proofs.Common.{◌≡◌, ◌<◌, ◌≤◌, length, lit<, arith}
use Rattle.art_kinds.specs.Nodes.{at}
use Rattle.art_kinds.proofs.CallerLemmas.{room-same}
use Rattle.art_tree.proofs.Calls.Joining.{within_key, over_edge, starts_over, keeps_from, leads_new, edge_gains}
use Rattle.art_tree.proofs.Calls.PlacedShapes.{bytes_apart, nearest_long}
use Rattle.art_tree.proofs.tree.skeleton.Skeleton.add_at_edge.Goals as goal

pub start_below-start-requires : goal.start_below-start-requires
start_below-start-requires g c = let j = c.requires.fork_fits in (lit< tt, over_edge j.keys j.leaf c.args.leaf.now.depth c.args.leaf.now.key.now j.leaves c.args.nearest.now j.is (at c.args.self.now.nodes) c.args.self.now.root j.shape c.args.above.now c.args.child.now j.fits.0 j.fits.1 _ (omega arith))

pub byte_on-byte-requires : goal.byte_on-byte-requires
byte_on-byte-requires g c =
    let j = c.requires.fork_fits in
    let kept = keeps_from j.keys j.leaf c.args.leaf.now.depth c.args.leaf.now.key.now j.leaves c.args.nearest.now j.is (at c.args.self.now.nodes) c.args.self.now.root j.shape c.args.above.now c.args.child.now j.fits.0 j.fits.1 c.start_below-start.result c.start_below-start.ensures in
    let le : c.start_below-start.result ≤ c.args.leaf.now.depth = starts_over j.keys j.leaf c.args.leaf.now.depth c.args.leaf.now.key.now j.leaves c.args.nearest.now j.is (at c.args.self.now.nodes) c.args.self.now.root j.shape c.args.above.now c.args.child.now j.fits.0 j.fits.1 c.start_below-start.result c.start_below-start.ensures in
    (lit< tt, (within_key j.keys (at c.args.self.now.nodes) c.args.self.now.root j.shape c.args.nearest.now c.args.leaf.now.depth c.args.above.now c.args.child.now j.leaf j.is j.fits.0 j.fits.1, (nearest_long j.keys j.leaf c.args.leaf.now.depth c.args.leaf.now.key.now j.leaves c.args.nearest.now j.is, (kept, le))))

pub cut_prefix-requires : goal.cut_prefix-requires
cut_prefix-requires g c =
    let j = c.requires.fork_fits in
    let kept = keeps_from j.keys j.leaf c.args.leaf.now.depth c.args.leaf.now.key.now j.leaves c.args.nearest.now j.is (at c.args.self.now.nodes) c.args.self.now.root j.shape c.args.above.now c.args.child.now j.fits.0 j.fits.1 c.start_below-start.result c.start_below-start.ensures in
    let le : c.start_below-start.result ≤ c.args.leaf.now.depth = starts_over j.keys j.leaf c.args.leaf.now.depth c.args.leaf.now.key.now j.leaves c.args.nearest.now j.is (at c.args.self.now.nodes) c.args.self.now.root j.shape c.args.above.now c.args.child.now j.fits.0 j.fits.1 c.start_below-start.result c.start_below-start.ensures in
    (lit< tt, (within_key j.keys (at c.args.self.now.nodes) c.args.self.now.root j.shape c.args.nearest.now c.args.leaf.now.depth c.args.above.now c.args.child.now j.leaf j.is j.fits.0 j.fits.1, (kept, omega arith)))

pub node_of_two-made-requires : goal.node_of_two-made-requires
node_of_two-made-requires g c =
    let j = c.requires.fork_fits in
    let same : c.cut_prefix.new.nodes.fours.spare ≡ c.args.self.now.nodes.fours.spare = c.cut_prefix.ensures.spares 0 (omega arith) in
    let some : 0 < c.args.self.now.nodes.fours.spare = c.requires.fits in
    let apart = bytes_apart j.keys j.leaf c.args.leaf.now.depth c.args.leaf.now.key.now j.leaves c.args.nearest.now j.is in
    (lit< tt, (omega arith, rw c.byte_on-byte.ensures apart))

pub redirect-requires : goal.redirect-requires
redirect-requires g c =
    let j = c.requires.fork_fits in
    (lit< tt, (c.args.child.now, leads_new j.keys j.leaf c.args.leaf.now.depth c.args.leaf.now.key.now j.leaves c.args.nearest.now j.is (at c.args.self.now.nodes) c.args.self.now.root j.shape c.args.above.now c.args.child.now j.fits.0 j.fits.1 (at c.cut_prefix.new.nodes) c.cut_prefix.ensures.cut (at c.node_of_two-made.new.nodes) c.node_of_two-made.result _ _ _ c.node_of_two-made.ensures.made))

pub returns-clause-gains : goal.returns-clause-gains
returns-clause-gains g c keys keys' s leaf is leaves fits gains =
    edge_gains keys leaf c.args.leaf.now.depth c.args.leaf.now.key.now leaves c.args.nearest.now is (at c.args.self.now.nodes) c.args.self.now.root s c.args.above.now c.args.child.now fits.0 fits.1 (at c.cut_prefix.new.nodes) c.cut_prefix.ensures.cut
    keys' c.args.leaf.now.id (at c.node_of_two-made.new.nodes) (at c.redirect.new.self.nodes) c.redirect.new.self.root c.node_of_two-made.result c.start_below-start.result gains c.start_below-start.ensures (rw (← c.byte_on-byte.ensures) c.node_of_two-made.ensures.made) c.redirect.ensures.turned

pub slice_bounds-node_of_two-count : goal.slice_bounds-node_of_two-count
slice_bounds-node_of_two-count g c =
    let j = c.requires.fork_fits in
    let le : c.start_below-start.result ≤ c.args.leaf.now.depth = starts_over j.keys j.leaf c.args.leaf.now.depth c.args.leaf.now.key.now j.leaves c.args.nearest.now j.is (at c.args.self.now.nodes) c.args.self.now.root j.shape c.args.above.now c.args.child.now j.fits.0 j.fits.1 c.start_below-start.result c.start_below-start.ensures in
    let long : c.args.leaf.now.depth < length c.args.leaf.now.key.now = j.leaves.longer in
    omega arith

pub slice_bounds-node_of_two-start : goal.slice_bounds-node_of_two-start
slice_bounds-node_of_two-start g c =
    let j = c.requires.fork_fits in
    let le : c.start_below-start.result ≤ c.args.leaf.now.depth = starts_over j.keys j.leaf c.args.leaf.now.depth c.args.leaf.now.key.now j.leaves c.args.nearest.now j.is (at c.args.self.now.nodes) c.args.self.now.root j.shape c.args.above.now c.args.child.now j.fits.0 j.fits.1 c.start_below-start.result c.start_below-start.ensures in
    let long : c.args.leaf.now.depth < length c.args.leaf.now.key.now = j.leaves.longer in
    omega arith

pub returns-clause-room : goal.returns-clause-room
returns-clause-room g c = omega (arith, room-same c.args.self.now.nodes c.cut_prefix.new.nodes c.cut_prefix.ensures.spares, c.node_of_two-made.ensures.room, room-same c.node_of_two-made.new.nodes c.redirect.new.self.nodes c.redirect.ensures.spares)
