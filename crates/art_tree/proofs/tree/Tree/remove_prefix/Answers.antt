use Rattle.std.proofs.Common.{List, length, ap, arith, not}
use Rattle.blart_keys.specs.Bytes.{begins}
use Rattle.blart_keys.proofs.OutsideLemmas.{length_outside}
use Rattle.art_tree.specs.Leaves.{Numbered, bytes}
use Rattle.art_tree.proofs.NumberedPairs.Filtering.{stood_filter}
use Rattle.art_tree.proofs.tree.Tree.remove_prefix.Goals as goal

pub overflow_sub-result : goal.overflow_sub-result
overflow_sub-result g c =
    let kb = g.K.AsBytes.bytes in
    let q = c.args.prefix.now in
    let old = c.args.self.now.pairs in
    let l = ap (λ (S : List _). length S) c.remove_subtree.ensures in
    omega (arith, l, length_outside (bytes kb) old q, c.len.ensures, c.len-before.ensures)

pub returns-clause-count : goal.returns-clause-count
returns-clause-count g c =
    let kb = g.K.AsBytes.bytes in
    let q = c.args.prefix.now in
    let old = c.args.self.now.pairs in
    let l = ap (λ (S : List _). length S) c.remove_subtree.ensures in
    omega (arith, l, length_outside (bytes kb) old q, c.len.ensures, c.len-before.ensures)

pub returns-clause-others : goal.returns-clause-others
returns-clause-others g c = rw c.remove_subtree.ensures (stood_filter (λ (x : Numbered _ _). not (begins c.args.prefix.now (g.K.AsBytes.bytes x.1.0))) c.args.self.now.pairs c.law.ensures.distinct)
