use Rattle.std.proofs.Common.{lit<}
use Rattle.blart_keys.proofs.Options.{is_some}
use Rattle.art_tree.specs.Leaves.{leaf_in}
use Rattle.art_edits.proofs.Placed.Inserting.{related_first, disjoint_unrelated}
use Rattle.art_edits.proofs.placing.point_of_disjoint.Goals as goal

pub leaf-requires : goal.leaf-requires
leaf-requires g c =
    let kb = g.K.AsBytes.bytes in
    let ps = c.args.tree.now.pairs in
    let q = kb c.args.key.now in
    let good = rw c.as_bytes.ensures at c.in-Related.ensures in
    let r = related_first kb ps c.law.ensures.content c.law.ensures.distinct q c.in-Related.first c.in-Related.last good in
    (lit< tt, is_some (leaf_in ps c.in-Related.first) r.0 r.1)

pub unreachable-requires : goal.unreachable-requires
unreachable-requires g c =
    let kb = g.K.AsBytes.bytes in
    let ps = c.args.tree.now.pairs in
    let x : g.row.K.Denot × g.row.V.Denot = (c.args.key.now, c.leaf.result.1.now) in
    let y : g.row.K.Denot × g.row.V.Denot = (c.leaf.result.0.now, c.leaf.result.1.now) in
    let good = rw c.as_bytes.ensures at c.in-Related.ensures in
    disjoint_unrelated kb ps c.law.ensures.content c.law.ensures.distinct x g.K.AsBytes.IsValue g.met.K.NoPrefixesBytes.no_fronts c.value_law-in-Related.ensures c.in-Related.first c.in-Related.last good y c.leaf.ensures.value c.value_law.ensures
