use Rattle.std.proofs.Common.{◌≡◌, ◌+◌, ◌≤◌, ◌++◌, ◌∷◌, [], length, sym, ◌∙◌, arith, lit<, Some}
use Rattle.art_tree.proofs.Ways.Depths.{rank_falls}
use Rattle.art_tree.proofs.Ways.ToFront.{heads_leaf, heads_past, heads_none, heads_at, heads_on}
use Rattle.art_tree.proofs.Ways.WaysDown.{way_start, way_at, way_on, has_edges}
use Rattle.art_tree.proofs.tree.descent.children_of.Goals as goal

pub down-init : goal.down-init
down-init g c = record { way = λ keys s. way_start s s.top (λ m live e. tt); rising = omega arith }

pub returns-in-Leaf-clause-finds : goal.returns-in-Leaf-clause-finds
returns-in-Leaf-clause-finds g c = λ keys s. heads_leaf c.args.front.now s (way_at c.in-Leaf.is (c.down.invariant.way keys s)) (omega arith)

pub read-node-requires : goal.read-node-requires
read-node-requires g c =
    let r = c.requires in
    (lit< tt, (lit< tt, (way_at c.in-Inner.is (c.down.invariant.way r.keys r.shape)).covers.live))

pub end_edge-requires : goal.end_edge-requires
end_edge-requires g c = (lit< tt, has_edges c.requires.shape c.in-Inner.id c.read-node.ensures.value)

pub end_under-requires : goal.end_under-requires
end_under-requires g c =
    let r = c.requires in
    let e = c.end_edge.result in
    (lit< tt, record { keys = r.keys; root = Some c.args.root.now; shape = r.shape; front = r.shape.front_of c.in-Inner.id ++ e.byte ∷ []; covers = (r.shape.node c.in-Inner.id c.read-node.result c.read-node.ensures.value).below e.byte e.to c.end_edge.ensures.there })

pub returns-then-depth-front-clause-finds : goal.returns-then-depth-front-clause-finds
returns-then-depth-front-clause-finds g c = λ keys s.
    let root = Some c.args.root.now in
    let e = c.end_edge.result in
    let below = (s.node c.in-Inner.id c.read-node.result c.read-node.ensures.value).below e.byte e.to c.end_edge.ensures.there in
    let f = s.front_of c.in-Inner.id ++ e.byte ∷ [] in
    heads_at c.args.front.now s c.read-node.ensures.value (way_at c.in-Inner.is (c.down.invariant.way keys s)) e
    (sym c.depth-depth.ensures ∙ c.if-depth-front.true) c.count-count.ensures.count c.end_edge.ensures (c.end_under.ensures.ends keys root s f below)
    (λ key is. (let w : c.end_under.new.visits.count + length f ≤ c.read-node.new.visits.count + length key = c.end_under.ensures.counted keys root s f key below is in let one : c.read-node.new.visits.count ≡ c.down.visits.count + 1 = c.read-node.ensures.counted in omega arith))

pub returns-then-depth-front-2-clause-finds : goal.returns-then-depth-front-2-clause-finds
returns-then-depth-front-2-clause-finds g c = λ keys s.
    let w = way_at c.in-Inner.is (c.down.invariant.way keys s) in
    heads_past c.args.front.now s c.read-node.ensures.value w (omega (arith, c.depth-depth.ensures)) (omega (arith, c.read-node.ensures.counted))

pub returns-in_err-at-clause-finds : goal.returns-in_err-at-clause-finds
returns-in_err-at-clause-finds g c = λ keys s.
    let w = way_at c.in-Inner.is (c.down.invariant.way keys s) in
    let none = sym c.find.ensures ∙ c.in_err-at.was in
    let few : c.read-node.new.visits.count ≤ c.down.visits.count + 1 = omega (arith, c.read-node.ensures.counted) in
    rw c.from_residual.ensures (heads_none c.args.front.now s c.read-node.ensures.value w c.depth-depth.ensures (omega arith) none few)

pub down-smaller : goal.down-smaller
down-smaller g c = rank_falls c.args.nodes.now c.requires.shape c.in-Inner.is _ c.read-node.ensures.value (sym c.find.ensures ∙ c.in_ok-at.was)

pub down-preserved : goal.down-preserved
down-preserved g c = record {
  way = λ keys s.
      let w = way_at c.in-Inner.is (c.down.invariant.way keys s) in
      let holds = heads_on c.args.front.now s c.read-node.ensures.value w c.depth-depth.ensures (omega arith) in
      way_on s c.read-node.ensures.value w _ (sym c.find.ensures ∙ c.in_ok-at.was) holds c.read-node.ensures.counted;
  rising = let up : c.args.visits.now.count ≤ c.down.visits.count = c.down.invariant.rising in let one : c.read-node.new.visits.count ≡ c.down.visits.count + 1 = c.read-node.ensures.counted in omega arith;
}
