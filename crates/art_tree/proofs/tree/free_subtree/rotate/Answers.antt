use Rattle.std.proofs.Common.{lit<}
use Rattle.art_kinds.specs.Nodes.{at}
use Rattle.art_tree.proofs.Calls.Freeing.{below_live, below_goes, loose_rotated, deeper_rotated}
use Rattle.art_tree.proofs.tree.free_subtree.rotate.Goals as goal

pub read-requires : goal.read-requires
read-requires g c = let r = c.requires.loose in (lit< tt, (lit< tt, below_live r.0 r.1 (at c.args.nodes.now) c.args.head r.2 c.args.byte c.args.below c.requires.leads))

pub end_edge-last-requires : goal.end_edge-last-requires
end_edge-last-requires g c = let r = c.requires.loose in (lit< tt, r.2.some c.args.below c.read.result c.read.ensures.value (below_goes r.0 r.1 (at c.args.nodes.now) c.args.head r.2 c.args.byte c.args.below c.requires.leads))

pub returns-clause-loose : goal.returns-clause-loose
returns-clause-loose g c = λ goes before s.
    loose_rotated goes before (at c.args.nodes.now) c.args.head s c.args.byte c.args.below c.requires.leads (at c.redirect.new.self) (at c.redirect-2.new.self) c.read.result c.read.ensures.value c.end_edge-last.result c.end_edge-last.ensures c.requires.not_last c.redirect.ensures.edges_with_child c.redirect-2.ensures.edges_with_child

pub returns-clause-deeper : goal.returns-clause-deeper
returns-clause-deeper g c =
    let r = c.requires.loose in
    deeper_rotated r.0 r.1 (at c.args.nodes.now) c.args.head r.2 c.args.byte c.args.below c.requires.leads (at c.redirect.new.self) (at c.redirect-2.new.self) c.read.result c.read.ensures.value c.end_edge-last.result c.end_edge-last.ensures c.requires.not_last c.redirect.ensures.edges_with_child c.redirect-2.ensures.edges_with_child
