use Rattle.std.proofs.Common.{subst, sym, refl, ◌∙◌, arith, lit<, Some}
use Rattle.art_tree.specs.Invariant.EdgesAbove.{LeadsTo}
use Rattle.art_kinds.specs.Nodes.{at}
use Rattle.art_kinds.specs.declared.records.ids.Child.{Child}
use Rattle.art_tree.proofs.Invariant.Growing.{covers_led}
use Rattle.art_tree.proofs.Ways.Depths.{rank_falls}
use Rattle.art_tree.proofs.Ways.ToQuery.{fronts_start, fronts_short, fronts_none, fronts_step}
use Rattle.art_tree.proofs.tree.search.leaf_toward.Goals as goal

pub down-init : goal.down-init
down-init g c = record { holds = λ keys s. fronts_start keys c.args.query.now; leads = refl; above = tt }

pub returns-in-Leaf-clause-goes : goal.returns-in-Leaf-clause-goes
returns-in-Leaf-clause-goes g c = λ keys s.
    let v = covers_led keys (at c.args.nodes.now) (Some c.args.root.now) s c.down.edge c.in-Leaf.is c.down.invariant.leads in
    record { key = v.key; is = v.is; only = λ j k e b. v.only j k e ((c.down.invariant.holds keys s).holds j k e b) }

pub returns-in-Leaf-clause-path : goal.returns-in-Leaf-clause-path
returns-in-Leaf-clause-path g c = record { leads = subst (λ (z : Child). LeadsTo (at c.args.nodes.now) (Some c.args.root.now) c.down.edge z) c.in-Leaf.is c.down.invariant.leads; above = c.down.invariant.above }

pub read-node-requires : goal.read-node-requires
read-node-requires g c =
    let r = c.requires in
    (lit< tt, (lit< tt, (covers_led r.keys (at c.args.nodes.now) (Some c.args.root.now) r.shape c.down.edge c.in-Inner.is c.down.invariant.leads).live))

pub returns-then-depth-query-clause-goes : goal.returns-then-depth-query-clause-goes
returns-then-depth-query-clause-goes g c = λ keys s.
    let v = covers_led keys (at c.args.nodes.now) (Some c.args.root.now) s c.down.edge c.in-Inner.is c.down.invariant.leads in
    fronts_short c.args.query.now s c.read-node.ensures.value v (c.down.invariant.holds keys s) (omega (arith, c.depth-depth.ensures))

pub returns-in_err-at-clause-goes : goal.returns-in_err-at-clause-goes
returns-in_err-at-clause-goes g c = λ keys s.
    let v = covers_led keys (at c.args.nodes.now) (Some c.args.root.now) s c.down.edge c.in-Inner.is c.down.invariant.leads in
    rw c.from_residual.ensures (fronts_none c.args.query.now s c.read-node.ensures.value v (c.down.invariant.holds keys s) c.depth-depth.ensures (sym c.find.ensures ∙ c.in_err-at.was))

pub down-smaller : goal.down-smaller
down-smaller g c = rank_falls c.args.nodes.now c.requires.shape c.in-Inner.is _ c.read-node.ensures.value (sym c.find.ensures ∙ c.in_ok-at.was)

pub down-preserved : goal.down-preserved
down-preserved g c = record {
  holds = λ keys s.
      let v = covers_led keys (at c.args.nodes.now) (Some c.args.root.now) s c.down.edge c.in-Inner.is c.down.invariant.leads in
      fronts_step c.args.query.now s c.read-node.ensures.value v (c.down.invariant.holds keys s) c.depth-depth.ensures (omega arith);
  leads = (c.read-node.result, c.read-node.ensures.value, sym c.find.ensures ∙ c.in_ok-at.was);
  above = subst (λ (z : Child). LeadsTo (at c.args.nodes.now) (Some c.args.root.now) c.down.edge z) c.in-Inner.is c.down.invariant.leads;
}
