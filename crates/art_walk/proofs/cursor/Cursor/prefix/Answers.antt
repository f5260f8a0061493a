use Rattle.std.proofs.Common.{sym}
use Rattle.art_tree.specs.Leaves.{bytes}
use Rattle.blart_keys.specs.Content.{under}
use Rattle.art_tree.proofs.CallerLemmas.{no_pairs_between}
use Rattle.art_walk.proofs.Steps.{cut_fits, cut_left, nothing_is}
use Rattle.art_walk.proofs.Ranges.{under_cut}
use Rattle.art_walk.proofs.cursor.Cursor.prefix.Goals as goal

pub returns-in-Some-clause-fits : goal.returns-in-Some-clause-fits
returns-in-Some-clause-fits g c =
    let ps = c.args.tree.now.pairs in
    let q = c.args.front.now in
    cut_fits ps c.law.ensures.distinct c.in-Some.ends.0 c.in-Some.ends.1 (under (bytes g.K.AsBytes.bytes) ps q)
    (under_cut g.K.AsBytes.bytes ps c.law.ensures.content q c.in-Some.ends.0 c.in-Some.ends.1 (sym c.in-Some.ensures.found)) c.between.result c.between.ensures

pub returns-in-Some-clause-left : goal.returns-in-Some-clause-left
returns-in-Some-clause-left g c =
    let ps = c.args.tree.now.pairs in
    let q = c.args.front.now in
    cut_left ps c.law.ensures.distinct c.in-Some.ends.0 c.in-Some.ends.1 (under (bytes g.K.AsBytes.bytes) ps q)
    (under_cut g.K.AsBytes.bytes ps c.law.ensures.content q c.in-Some.ends.0 c.in-Some.ends.1 (sym c.in-Some.ensures.found)) c.between.result c.between.ensures

pub returns-in-None-clause-left : goal.returns-in-None-clause-left
returns-in-None-clause-left g c =
    let ps = c.args.tree.now.pairs in
    let row = under (bytes g.K.AsBytes.bytes) ps c.args.front.now in
    nothing_is ps row c.none.result c.none.ensures (no_pairs_between row (sym c.in-None.ensures.found))
