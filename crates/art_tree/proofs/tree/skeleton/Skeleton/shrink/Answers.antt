use Rattle.std.proofs.Common.{lit<}
use Rattle.art_kinds.specs.Nodes.{at}
use Rattle.art_kinds.specs.declared.records.ids.Child.TheVariants.{Inner}
use Rattle.art_tree.proofs.Calls.Unlinking.{leads_narrowed, shape_shrunk}
use Rattle.art_tree.proofs.tree.skeleton.Skeleton.shrink.Goals as goal

pub redirect-requires : goal.redirect-requires
redirect-requires g c =
    let r = c.requires in (
      lit< tt,
      (
        Inner c.args.node.now,
        leads_narrowed r.0 (at c.args.self.now.nodes) (at c.remove_edge.new.self) (at c.narrow-moved.new.self) c.args.self.now.root c.args.above.now c.args.node.now c.narrow-moved.result c.args.byte r.1 c.remove_edge.ensures.removed c.narrow-moved.ensures.moved c.args.above.now r.2.shape r.2.leads,
      ),
    )

pub returns : goal.returns
returns g c = λ keys keys' i h more loses.
    shape_shrunk keys (at c.args.self.now.nodes) (at c.remove_edge.new.self) (at c.narrow-moved.new.self) c.args.self.now.root c.args.above.now c.args.node.now c.narrow-moved.result c.args.byte i c.remove_edge.ensures.removed c.narrow-moved.ensures.moved keys' (at c.redirect.new.self.nodes) c.redirect.new.self.root h more loses c.redirect.ensures.turned
