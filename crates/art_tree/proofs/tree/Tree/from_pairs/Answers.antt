use Rattle.std.proofs.Common.{List, length, lit<, arith, sym, ap, subst}
use Rattle.std.proofs.lemmas.List.{length-map}
use Rattle.blart_keys.specs.Content.{IsContent}
use Rattle.blart_keys.specs.Steps.{bytes}
use Rattle.art_tree.proofs.PairLists.{numbered_content}
use Rattle.art_tree.proofs.tree.Tree.from_pairs.Goals as goal

pub build-root-requires : goal.build-root-requires
build-root-requires g c =
    let kb = g.K.AsBytes.bytes in
    let ps = c.pairs.inside.leaves.pairs in
    let same = ap (λ t. t.pairs) c.pairs.view_is in
    let content = numbered_content kb ps (subst (IsContent (bytes kb)) (sym same) c.requires.content) in
    let all = ap (λ (l : List _). length l) same in
    let count = length-map ps (λ p. p.1) in
    (lit< tt, (content, (c.frame.invariant.0, (c.frame.invariant.1, (omega (arith, all, count, c.frame.view_is, c.requires.room), omega (arith, all, count, c.frame.view_is, c.requires.room))))))
