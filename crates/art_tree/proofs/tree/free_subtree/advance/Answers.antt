use Rattle.std.proofs.Common.{◌≡◌, ◌<◌, ◌^◌, lit<, ap, sym, subst, ◌∙◌, arith, inr, Some, None, Option}
use Rattle.art_kinds.specs.Edges.{IsNext}
use Rattle.art_kinds.specs.Nodes.{Node, at}
use Rattle.art_kinds.specs.declared.records.ids.Edge.{Edge}
use Rattle.art_tree.proofs.Calls.Freeing.{some_edge, no_edge, not_last, loose_gone}
use Rattle.art_tree.proofs.tree.free_subtree.advance.Goals as goal

pub rotate-requires : goal.rotate-requires
rotate-requires g c =
    let f = c.requires.first in
    let x = c.read-node.result in (
      lit< tt,
      (
        c.requires.loose,
        (
          (f.node, f.is, f.first.0),
          λ y is.
              let h : at c.args.nodes.now c.args.head ≡ Some x = c.read-node.ensures.value in
              let same : x ≡ y = cc in
              not_last y.edges c.args.byte c.edge_after.result (subst (λ (z : Node). IsNext z.edges c.args.byte c.edge_after.result) same c.edge_after.ensures) (some_edge c.edge_after.result c.if-is_none.ensures),
        ),
      ),
    )

pub returns-then-is_none-clause-loose : goal.returns-then-is_none-clause-loose
returns-then-is_none-clause-loose g c = λ goes before s.
    let f = c.requires.first in
    let x = c.read-node.result in
    let h : at c.args.nodes.now c.args.head ≡ Some x = c.read-node.ensures.value in
    let k : at c.args.nodes.now c.args.head ≡ Some f.node = f.is in
    let same : x ≡ f.node = cc in
    let none : c.edge_after.result ≡ None = no_edge c.edge_after.result c.if-is_none.ensures in
    let next : IsNext f.node.edges c.args.byte None = subst (λ (o : Option Edge). IsNext f.node.edges c.args.byte o) none (subst (λ (z : Node). IsNext z.edges c.args.byte c.edge_after.result) same c.edge_after.ensures) in
    loose_gone goes before (at c.args.nodes.now) c.args.head s c.args.byte c.args.below (f.node, f.is, f.first.0) (at c.free.new.self) f next c.free.ensures.freed

pub returns-else-is_none-clause-advances : goal.returns-else-is_none-clause-advances
returns-else-is_none-clause-advances g c =
    let d = c.rotate.ensures.deeper in
    let x = c.read-node.result in
    let h : at c.args.nodes.now c.args.head ≡ Some x = c.read-node.ensures.value in
    let k : at c.args.nodes.now c.args.head ≡ Some d.was = d.was_is in
    let same : d.was ≡ x = cc in
    let e : d.was.depth ≡ c.depth-depth.result = ap (λ (z : Node). z.depth) same ∙ sym c.depth-depth.ensures in
    let fits : c.depth-depth.result < 2 ^ 64 = c.depth-depth.type_inv in
    inr (c.rotate.ensures.live, d, (let r : d.was.depth < 2 ^ 64 = omega arith in r))
