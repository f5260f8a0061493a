use Rattle.std.proofs.Common.{sym, subst}
use Rattle.art_tree.specs.Calls.Placing.{TreeGains}
use Rattle.art_kinds.specs.Nodes.{at}
use Rattle.art_tree.specs.declared.tree.descent.Fork.{Fork}
use Rattle.art_tree.proofs.tree.skeleton.Skeleton.add_leaf.Goals as goal

pub returns-in-Node-clause-gains : goal.returns-in-Node-clause-gains
returns-in-Node-clause-gains g c =
    subst (λ (fork : Fork). TreeGains g.row.P (at c.args.self.now.nodes) (at c.add_at_node.new.self.nodes) c.args.self.now.root c.add_at_node.new.self.root fork c.args.leaf.now.key.now c.args.nearest.now c.args.leaf.now.depth c.args.leaf.now.id) (sym c.in-Node.is) (c.add_at_node.ensures.gains c.args.nearest.now)

pub returns-in-Edge-clause-gains : goal.returns-in-Edge-clause-gains
returns-in-Edge-clause-gains g c =
    subst (λ (fork : Fork). TreeGains g.row.P (at c.args.self.now.nodes) (at c.add_at_edge.new.self.nodes) c.args.self.now.root c.add_at_edge.new.self.root fork c.args.leaf.now.key.now c.args.nearest.now c.args.leaf.now.depth c.args.leaf.now.id) (sym c.in-Edge.is) c.add_at_edge.ensures.gains
