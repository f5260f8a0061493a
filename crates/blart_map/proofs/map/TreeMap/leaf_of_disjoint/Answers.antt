use Rattle.art_edits.proofs.Placed.Inserting.{exact_has, opens_else}
use Rattle.art_edits.proofs.Related.EntryOf.{open_absent, open_free}
use Rattle.blart_map.proofs.map.TreeMap.leaf_of_disjoint.Goals as goal

pub returns-in-Exact-clause-there : goal.returns-in-Exact-clause-there
returns-in-Exact-clause-there g c =
    let kb = g.K.AsBytes.bytes in
    let at = c.point_of_disjoint.ensures in
    rw (← c.self.view_is) (exact_has kb c.self.inside.tree.pairs at.content at.distinct (kb c.args.key.now) c.in-Exact.id c.in-Exact.ensures.good)

pub returns-in-Exact-clause-good : goal.returns-in-Exact-clause-good
returns-in-Exact-clause-good g c = rw (← c.self.view_is) c.in-Exact.ensures.good

pub returns-in_default-clause-absent : goal.returns-in_default-clause-absent
returns-in_default-clause-absent g c =
    let kb = g.K.AsBytes.bytes in
    let at = c.point_of_disjoint.ensures in
    let able = opens_else c.point_of_disjoint.result c.in_default.not-Exact at.disjoint in
    rw (← c.self.view_is) (open_absent kb c.self.inside.tree.pairs at.content at.distinct (kb c.args.key.now) c.point_of_disjoint.result at.good able)

pub returns-in_default-clause-free : goal.returns-in_default-clause-free
returns-in_default-clause-free g c =
    let kb = g.K.AsBytes.bytes in
    let at = c.point_of_disjoint.ensures in
    let able = opens_else c.point_of_disjoint.result c.in_default.not-Exact at.disjoint in
    rw (← c.self.view_is) (open_free kb c.self.inside.tree.pairs at.content at.distinct (kb c.args.key.now) c.point_of_disjoint.result at.good able)
