use Rattle.std.proofs.Common.{sym}
use Rattle.art_tree.proofs.CallerLemmas.{no_last}
use Rattle.art_walk.proofs.Steps.{cut_fits, cut_left, nothing_is, all_cut}
use Rattle.art_walk.proofs.cursor.Cursor.all.Goals as goal

pub returns-in_default-last-clause-left : goal.returns-in_default-last-clause-left
returns-in_default-last-clause-left g c =
    let ps = c.args.tree.now.pairs in nothing_is ps ps c.none-in_default-last.result c.none-in_default-last.ensures (no_last ps (sym c.in_default-last.ensures))

pub returns-clause-fits : goal.returns-clause-fits
returns-clause-fits g c =
    let ps = c.args.tree.now.pairs in
    cut_fits ps c.law.ensures.distinct c.in-Some.first c.in-Some-last.last ps (all_cut ps c.in-Some.first c.in-Some-last.last c.in-Some.ensures c.in-Some-last.ensures) c.between.result c.between.ensures

pub returns-clause-left : goal.returns-clause-left
returns-clause-left g c =
    let ps = c.args.tree.now.pairs in
    cut_left ps c.law.ensures.distinct c.in-Some.first c.in-Some-last.last ps (all_cut ps c.in-Some.first c.in-Some-last.last c.in-Some.ensures c.in-Some-last.ensures) c.between.result c.between.ensures
