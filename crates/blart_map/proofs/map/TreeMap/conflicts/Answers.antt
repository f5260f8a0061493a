use Rattle.std.proofs.Common.{◌∙◌, sym}
use Rattle.blart_keys.specs.Stored.{overlaps}
use Rattle.blart_map.specs.Content.{pairs}
use Rattle.art_edits.proofs.Placed.Inserting.{conflict_pairs, unrelated_point}
use Rattle.blart_map.proofs.map.TreeMap.conflicts.Goals as goal

pub returns-in-Related-clause-value : goal.returns-in-Related-clause-value
unfolding pairs
returns-in-Related-clause-value g c =
    let kb = g.K.AsBytes.bytes in
    let ps = c.self.inside.tree.pairs in
    let q = g.Q.AsBytes.bytes c.args.query.now in
    let good = rw c.as_bytes.ensures at c.in-Related.ensures in
    rw (← c.self.view_is) (sym (conflict_pairs kb ps q ∙ good.0))

pub returns-in-Related-clause-stored : goal.returns-in-Related-clause-stored
unfolding overlaps pairs
returns-in-Related-clause-stored g c = returns-in-Related-clause-value g c

pub returns-in_default-clause-value : goal.returns-in_default-clause-value
unfolding pairs
returns-in_default-clause-value g c =
    let kb = g.K.AsBytes.bytes in
    let ps = c.self.inside.tree.pairs in
    let q = g.Q.AsBytes.bytes c.args.query.now in
    let good = rw c.as_bytes.ensures at c.point.ensures in
    rw (← c.self.view_is) (sym (conflict_pairs kb ps q ∙ unrelated_point kb ps c.law.ensures.content c.law.ensures.distinct q c.point.result good c.in_default.not-Related))

pub returns-in_default-clause-stored : goal.returns-in_default-clause-stored
unfolding overlaps pairs
returns-in_default-clause-stored g c = returns-in_default-clause-value g c
