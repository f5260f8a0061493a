use Rattle.std.proofs.Common.{◌≡◌, ◌+◌, ◌≤◌, arith, lit<}
use Rattle.art_kinds.specs.Edges.{is_first}
use Rattle.art_kinds.specs.Nodes.{at}
use Rattle.art_tree.proofs.Ways.Ends.{end_leaf, end_step}
use Rattle.art_tree.proofs.Ways.WaysDown.{way_start, way_at, way_on, way_few, has_edges}
use Rattle.art_tree.proofs.Ways.Depths.{rank_falls}
use Rattle.art_tree.proofs.tree.descent.end_under.Goals as goal

pub down-init : goal.down-init
down-init g c = record {
  way = λ keys root s f h. way_start s h (λ i u. u);
  rising = omega arith;
}

pub returns-in-Leaf-clause-ends : goal.returns-in-Leaf-clause-ends
returns-in-Leaf-clause-ends g c keys root s f h =
    let w = way_at c.in-Leaf.is (c.down.invariant.way keys root s f h) in
    w.holds c.in-Leaf.id (end_leaf keys (at c.args.nodes.now) root s (is_first c.args.end) w.front c.in-Leaf.id w.covers)

pub returns-in-Leaf-clause-counted : goal.returns-in-Leaf-clause-counted
returns-in-Leaf-clause-counted g c keys root s f key h is = way_few (way_at c.in-Leaf.is (c.down.invariant.way keys root s f h)) key is

pub read-requires : goal.read-requires
read-requires g c =
    let r = c.requires in
    let w = way_at c.in-Inner.is (c.down.invariant.way r.keys r.root r.shape r.front r.covers) in
    (lit< tt, (lit< tt, w.covers.live))

pub end_edge-at-requires : goal.end_edge-at-requires
end_edge-at-requires g c =
    (lit< tt, has_edges c.requires.shape c.in-Inner.id c.read.ensures.value)

pub down-smaller : goal.down-smaller
down-smaller g c =
    rank_falls c.args.nodes.now c.requires.shape c.in-Inner.is c.end_edge-at.result.byte c.read.ensures.value c.end_edge-at.ensures.there

pub down-preserved : goal.down-preserved
down-preserved g c = record {
  way = λ keys root s f h.
      let nodes = at c.args.nodes.now in
      let e = c.end_edge-at.result in
      let w = way_at c.in-Inner.is (c.down.invariant.way keys root s f h) in
      way_on s c.read.ensures.value w e.byte c.end_edge-at.ensures.there
      (λ i u. w.holds i (end_step keys nodes root s (is_first c.args.end) w.front c.in-Inner.id c.read.result c.read.ensures.value w.covers e c.end_edge-at.ensures i u)) c.read.ensures.counted;
  rising = let up : c.args.visits.now.count ≤ c.down.visits.count = c.down.invariant.rising in let one : c.read.new.visits.count ≡ c.down.visits.count + 1 = c.read.ensures.counted in omega arith;
}
