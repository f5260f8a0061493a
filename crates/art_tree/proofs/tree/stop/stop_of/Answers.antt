use Rattle.std.proofs.Common.{◌+◌, length, lit<, refl, subst, Some, None, arith}
use Rattle.std.proofs.Math.Nat.{mul-le-mul_right}
use Rattle.art_tree.specs.Calls.Stops.{OnWay}
use Rattle.art_tree.specs.Leaves.{keys_in, bytes}
use Rattle.art_tree.specs.Longest.{longest}
use Rattle.art_kinds.specs.Nodes.{at}
use Rattle.art_kinds.specs.declared.records.ids.Child.{Child}
use Rattle.art_tree.proofs.Ways.Depths.{rank_falls}
use Rattle.art_tree.proofs.Ways.Shown.{stop_below}
use Rattle.art_tree.proofs.Ways.Stops.{way_within, start_within}
use Rattle.art_tree.proofs.tree.stop.stop_of.Goals as goal

pub down-init : goal.down-init
down-init g c = record {
  way = record {
    root = Some c.args.root.now;
    shape = c.requires.shape;
    above = None;
    leads = refl;
    along = tt;
    start_is = refl;
  };
  leads = refl;
  starts = refl;
  counted = omega arith;
  rising = omega arith;
}

pub stop_at_leaf-requires : goal.stop_at_leaf-requires
stop_at_leaf-requires g c = (lit< tt, subst (λ (z : Child). OnWay g.row.P (keys_in g.K.AsBytes.bytes c.args.leaves.now.pairs) (at c.args.nodes.now) z c.down.start c.args.query.now) c.in-Leaf.is c.down.invariant.way)

pub step_at-requires : goal.step_at-requires
step_at-requires g c = (lit< tt, subst (λ (z : Child). OnWay g.row.P (keys_in g.K.AsBytes.bytes c.args.leaves.now.pairs) (at c.args.nodes.now) z c.down.start c.args.query.now) c.in-Inner.is c.down.invariant.way)

pub down-smaller : goal.down-smaller
down-smaller g c =
    let s = c.in-Down.ensures.step.1 in
    rank_falls c.args.nodes.now c.requires.shape c.in-Inner.is _ s.1 s.2

pub down-preserved : goal.down-preserved
down-preserved g c =
    let s = c.in-Down.ensures.step.1 in
    let kb = g.K.AsBytes.bytes in
    let w = subst (λ (z : Child). OnWay g.row.P (keys_in kb c.args.leaves.now.pairs) (at c.args.nodes.now) z c.down.start c.args.query.now) c.in-Inner.is c.down.invariant.way in
    let depth = (w.shape.node _ s.0 s.1).depth in
    let low = start_within w in
    let more = mul-le-mul_right {m = c.down.start + 1} {n = c.in-Down.next} (longest (bytes kb) c.args.leaves.now.pairs + 1) (omega (arith, s.3)) in
    let counted = c.in-Down.ensures.counted in
    record {
      way = c.in-Down.ensures.step.0;
      leads = (s.0, s.1, s.2);
      starts = (s.0, s.1, s.3);
      counted = omega (arith, c.down.invariant.counted);
      rising = omega (arith, c.down.invariant.rising, c.in-Down.ensures.grows);
    }

pub returns-in-Leaf-clause-above : goal.returns-in-Leaf-clause-above
returns-in-Leaf-clause-above g c = stop_below (at c.args.nodes.now) (Some c.args.root.now) (length c.args.query.now) c.down.above c.down.start c.in-Leaf.is c.down.invariant.leads c.down.invariant.starts (way_within c.down.invariant.way) _ c.stop_at_leaf.ensures.at

pub returns-in-Stops-clause-above : goal.returns-in-Stops-clause-above
returns-in-Stops-clause-above g c = stop_below (at c.args.nodes.now) (Some c.args.root.now) (length c.args.query.now) c.down.above c.down.start c.in-Inner.is c.down.invariant.leads c.down.invariant.starts (way_within c.down.invariant.way) _ c.in-Stops.ensures.step.1

pub returns-in-Leaf-clause-counted : goal.returns-in-Leaf-clause-counted
returns-in-Leaf-clause-counted g c =
    let most = longest (bytes g.K.AsBytes.bytes) c.args.leaves.now.pairs + 1 in
    omega (arith, c.down.invariant.counted, c.stop_at_leaf.ensures.counted, mul-le-mul_right most (way_within c.down.invariant.way))

pub returns-in-Stops-clause-counted : goal.returns-in-Stops-clause-counted
returns-in-Stops-clause-counted g c =
    let most = longest (bytes g.K.AsBytes.bytes) c.args.leaves.now.pairs + 1 in
    omega (arith, c.down.invariant.counted, c.in-Stops.ensures.counted, mul-le-mul_right most (way_within c.down.invariant.way))
