use Rattle.std.proofs.Common.{lit<, subst}
use Rattle.art_kinds.specs.Nodes.{at}
use Rattle.blart_keys.specs.Bytes.{begins}
use Rattle.art_tree.specs.Invariant.EdgesAbove.{LeadsTo, edge_front}
use Rattle.art_kinds.specs.declared.records.ids.Child.{Child}
use Rattle.art_tree.proofs.Invariant.Subtrees.{frees_below_leaf, frees_below_node, loose_under}
use Rattle.art_tree.proofs.tree.free_subtree.free_child.Goals as goal

pub free_below-requires : goal.free_below-requires
free_below-requires g c =
    let r = c.requires in
    let nodes = at c.args.nodes.now in
    (lit< tt, (λ n. begins (edge_front r.3.front_of r.2) (r.3.front_of n), loose_under r.0 nodes r.1 r.3 r.2 c.in-Inner.top (subst (λ (z : Child). LeadsTo nodes r.1 r.2 z) c.in-Inner.is r.4)))

pub returns-in-Leaf : goal.returns-in-Leaf
returns-in-Leaf g c = λ keys root above s leads.
    let nodes = at c.args.nodes.now in
    frees_below_leaf keys nodes root s above c.in-Leaf.field-0 (subst (λ (z : Child). LeadsTo nodes root above z) c.in-Leaf.is leads)

pub returns-in-Inner : goal.returns-in-Inner
returns-in-Inner g c = λ keys root above s leads.
    let nodes = at c.args.nodes.now in
    let e = edge_front s.front_of above in
    frees_below_node keys nodes root s (at c.free_below.new.nodes) e (λ j. c.free_below.ensures (λ n. begins e (s.front_of n)) (loose_under keys nodes root s above c.in-Inner.top (subst (λ (z : Child). LeadsTo nodes root above z) c.in-Inner.is leads)) j)
