use Rattle.std.proofs.Common.{lit<}
use Rattle.art_kinds.specs.Nodes.{at}
use Rattle.art_tree.proofs.Invariant.Pruning.{leads_on, shape_led}
use Rattle.art_tree.proofs.tree.skeleton.Skeleton.free_subtree.Goals as goal

pub free_child-requires : goal.free_child-requires
free_child-requires g c = let r = c.requires in (lit< tt, (r.0, c.args.self.now.root, c.args.above.now, r.1, r.2))

pub redirect-requires : goal.redirect-requires
redirect-requires g c =
    let r = c.requires in
    let root = c.args.self.now.root in
    let above = c.args.above.now in
    (lit< tt, (c.args.child.now, leads_on r.0 (at c.args.self.now.nodes) (at c.free_child.new.nodes) root r.1 c.args.child.now above r.2 (c.free_child.ensures r.0 root above r.1 r.2)))

pub returns : goal.returns
returns g c = λ keys keys' s k leads prunes.
    let root = c.args.self.now.root in
    let above = c.args.above.now in
    shape_led keys (at c.args.self.now.nodes) (at c.free_child.new.nodes) root s c.args.child.now keys' (at c.redirect.new.self.nodes) c.redirect.new.self.root c.args.leaf.now k above leads (c.free_child.ensures keys root above s leads) c.redirect.ensures.turned
    prunes
