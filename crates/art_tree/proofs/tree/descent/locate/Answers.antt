use Rattle.std.proofs.Common.{refl, subst, sym, ◌∙◌, lit<, arith, Some}
use Rattle.art_tree.specs.Calls.Forks.{PastLength}
use Rattle.art_kinds.specs.Nodes.{at}
use Rattle.art_kinds.specs.declared.records.ids.Child.{Child}
use Rattle.art_tree.proofs.Invariant.Growing.{covers_led}
use Rattle.art_tree.proofs.Ways.Depths.{rank_falls}
use Rattle.art_tree.proofs.Ways.ToFork.{edge_fits, node_at_depth, node_past_depth, edge_of_nearest, follow_on}
use Rattle.art_tree.proofs.tree.descent.locate.Goals as goal

pub down-init : goal.down-init
down-init g c = record { along = λ keys s i is. tt; leads = refl }

pub returns-in-Leaf : goal.returns-in-Leaf
returns-in-Leaf g c = λ keys s i is. (
  record { leads = c.down.invariant.leads; along = c.down.invariant.along keys s i is },
  subst (λ (k : Child). PastLength s.front_of c.args.depth k) (sym c.in-Leaf.is) tt,
)

pub read-node-requires : goal.read-node-requires
read-node-requires g c =
    let r = c.requires in
    (lit< tt, (lit< tt, (covers_led r.keys (at c.args.nodes.now) (Some c.args.root.now) r.shape c.down.above c.in-Inner.is c.down.invariant.leads).live))

pub returns-then-length-depth : goal.returns-then-length-depth
returns-then-length-depth g c = λ keys s i is.
    let i = c.down.invariant in
    let along = i.along keys s _ is in (
      edge_fits c.args.nearest.now c.args.depth s c.down.above c.in-Inner.is i.leads along,
      node_past_depth c.args.nearest.now c.args.depth s c.down.above c.in-Inner.is i.leads along c.requires.within is c.read-node.ensures.value (omega (arith, c.depth-length.ensures)),
    )

pub returns-then-length-depth-2 : goal.returns-then-length-depth-2
returns-then-length-depth-2 g c = λ keys s i is.
    let i = c.down.invariant in
    let along = i.along keys s _ is in (
      edge_fits c.args.nearest.now c.args.depth s c.down.above c.in-Inner.is i.leads along,
      node_at_depth c.args.nearest.now c.args.depth s c.down.above c.in-Inner.is i.leads along c.requires.within is c.read-node.ensures.value (omega (arith, c.depth-length.ensures)),
    )

pub unreachable-requires : goal.unreachable-requires
unreachable-requires g c =
    let r = c.requires in
    edge_of_nearest c.args.nearest.now c.args.depth r.shape c.down.above c.in-Inner.is c.down.invariant.leads (c.down.invariant.along r.keys r.shape r.leaf r.is) r.within r.is c.read-node.ensures.value c.depth-length.ensures (sym c.find.ensures ∙ c.in-None.is)

pub down-smaller : goal.down-smaller
down-smaller g c = rank_falls c.args.nodes.now c.requires.shape c.in-Inner.is _ c.read-node.ensures.value (sym c.find.ensures ∙ c.in-Some.is)

pub down-preserved : goal.down-preserved
down-preserved g c = record {
  along = λ keys s i is. follow_on c.args.nearest.now c.args.depth s c.down.above c.in-Inner.is c.down.invariant.leads (c.down.invariant.along keys s i is) c.requires.within is c.read-node.ensures.value c.depth-length.ensures (omega arith);
  leads = (c.read-node.result, c.read-node.ensures.value, sym c.find.ensures ∙ c.in-Some.is);
}
