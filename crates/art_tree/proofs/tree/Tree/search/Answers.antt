use Rattle.std.proofs.Common.{sym}
use Rattle.blart_keys.proofs.ContentLemmas.{at_Some}
use Rattle.blart_keys.proofs.Options.{is_some}
use Rattle.art_tree.proofs.NumberedPairs.Numbers.{leaf_in-member}
use Rattle.art_tree.specs.Leaves.{bytes, leaf_in}
use Rattle.art_tree.proofs.tree.Tree.search.Goals as goal

pub returns-in-Some-clause-there : goal.returns-in-Some-clause-there
returns-in-Some-clause-there g c =
    let ps = c.args.self.now.pairs in
    let f = c.in-Some.found in
    let member = (at_Some (bytes g.K.AsBytes.bytes) ps c.args.query.now (f.0, (f.1.now, f.2.now)) (sym c.in-Some.ensures.found)).0 in
    is_some (leaf_in ps f.0) (f.1.now, f.2.now) (leaf_in-member ps f.0 (f.1.now, f.2.now) c.law.ensures.distinct member)
