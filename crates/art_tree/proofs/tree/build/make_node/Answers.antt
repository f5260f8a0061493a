use Rattle.std.proofs.Common.{◌≡◌, ◌+◌, List, [], ◌∷◌, length, take, lit<, sym, ap, subst, arith}
use Rattle.std.proofs.lemmas.List.{take_all, length-drop}
use Rattle.art_kinds.specs.Edges.{Ascends}
use Rattle.art_kinds.specs.Nodes.{at}
use Rattle.art_kinds.specs.declared.records.ids.Edge.{Edge}
use Rattle.art_tree.specs.Calls.Building.{edges_of, MakesNode}
use Rattle.art_tree.specs.declared.tree.build.LooseEdge.{LooseEdge}
use Rattle.art_tree.proofs.Calls.Making.{made_more, edges_more, Ascends-take}
use Rattle.art_tree.proofs.tree.build.make_node.Goals as goal

pub add_last-id-requires : goal.add_last-id-requires
add_last-id-requires g c =
    let v = c.loop-next.invariant in
    let e = edges_more c.args.loose.now c.in-Some-split_first.rest.now c.loop-next.next-index c.next-item.result v.rest c.loop-next-test.true c.next-item.is in
    let a : Ascends (edges_of (take (c.loop-next.next-index + 1 + 2) c.args.loose.now)) = Ascends-take c.args.loose.now (c.loop-next.next-index + 1 + 2) (c.args.last ∷ []) c.requires.rise in
    (lit< tt, ((_, v.made.is, subst (λ (t : List Edge). Ascends t) e a), omega (arith, v.room, length-drop 2 c.args.loose.now, ap (λ (t : List LooseEdge). length t) v.rest)))

pub loop-next-preserved : goal.loop-next-preserved
loop-next-preserved g c =
    let v = c.loop-next.invariant in
    let e = edges_more c.args.loose.now c.in-Some-split_first.rest.now c.loop-next.next-index c.next-item.result v.rest c.loop-next-test.true c.next-item.is in
    let m = made_more (at c.args.nodes.now) (at c.loop-next.nodes) (at c.add_last-id.new.nodes) c.loop-next.id c.add_last-id.result c.args.depth (take g.row.P c.args.prefix.now) (edges_of (take (c.loop-next.next-index + 2) c.args.loose.now)) c.next-item.result.edge v.made c.add_last-id.ensures.added in
    record {
      made = subst (λ (t : List Edge). MakesNode (at c.args.nodes.now) (at c.add_last-id.new.nodes) c.add_last-id.result c.args.depth (take g.row.P c.args.prefix.now) t) (sym e) m;
      rest = v.rest;
      room = omega (arith, v.room, c.add_last-id.ensures.room);
    }

pub returns-clause-made : goal.returns-clause-made
returns-clause-made g c =
    let v = c.loop-next.invariant in
    let all : edges_of (take (c.loop-next.next-index + 2) c.args.loose.now) ≡ edges_of c.args.loose.now =
    ap (λ (t : List LooseEdge). edges_of t) (take_all (c.loop-next.next-index + 2) c.args.loose.now (omega (arith, length-drop 2 c.args.loose.now, ap (λ (t : List LooseEdge). length t) v.rest))) in
    let m : MakesNode (at c.args.nodes.now) (at c.loop-next.nodes) c.loop-next.id c.args.depth (take g.row.P c.args.prefix.now) (edges_of c.args.loose.now) =
    subst (λ (t : List Edge). MakesNode (at c.args.nodes.now) (at c.loop-next.nodes) c.loop-next.id c.args.depth (take g.row.P c.args.prefix.now) t) all v.made in
    made_more (at c.args.nodes.now) (at c.loop-next.nodes) (at c.add_last.new.nodes) c.loop-next.id c.add_last.result c.args.depth (take g.row.P c.args.prefix.now) (edges_of c.args.loose.now) c.args.last m c.add_last.ensures.added
