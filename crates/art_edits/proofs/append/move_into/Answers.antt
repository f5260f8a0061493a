use Rattle.std.proofs.Common.{List, sym, ap, ◌∙◌, subst, subst₂, length, lit<, arith}
use Rattle.std.proofs.lemmas.List.{length-map}
use Rattle.blart_keys.specs.Content.{IsContent}
use Rattle.blart_keys.specs.Merges.{IsUnion}
use Rattle.blart_keys.specs.Steps.{bytes}
use Rattle.blart_keys.proofs.Mapped.{content_map}
use Rattle.art_tree.specs.Content.{room}
use Rattle.art_tree.specs.Pairs.{pairs_of}
use Rattle.art_edits.proofs.append.move_into.Goals as goal

-- the pairs that were in `to` are the pairs that move
pub add_all-requires : goal.add_all-requires
add_all-requires g c =
    let kb = g.K.AsBytes.bytes in
    let ps = c.args.to.now.pairs in
    let same = c.take_pairs.ensures.all ∙ ap (λ t. pairs_of t.pairs) c.swap.ensures.x_after in
    let content = subst (IsContent (bytes kb)) (sym same) (content_map (λ p. p.1) (bytes kb) ps c.law-2.ensures.content) in
    let count = ap (λ (l : List _). length l) same in
    let there = ap room c.swap.ensures.y_after in
    (lit< tt, (content, omega (arith, count, length-map ps (λ p. p.1), there, c.len-then-len.ensures, c.in_ok-reserve.ensures.ok)))

pub returns-in_ok-reserve-clause-appended : goal.returns-in_ok-reserve-clause-appended
returns-in_ok-reserve-clause-appended g c =
    let moved = c.take_pairs.ensures.all ∙ ap (λ t. pairs_of t.pairs) c.swap.ensures.x_after in
    let stayed = ap (λ t. t.pairs) c.swap.ensures.y_after ∙ c.in_ok-reserve.ensures.pairs in
    subst₂ (λ T S. IsUnion (bytes g.K.AsBytes.bytes) (pairs_of T) S (pairs_of c.add_all.new.to.pairs)) stayed moved c.add_all.ensures

pub move_all-requires : goal.move_all-requires
move_all-requires g c =
    let kb = g.K.AsBytes.bytes in
    let ps = c.args.from.now.pairs in
    let same = c.take_pairs-else-len.ensures.all in
    let content = subst (IsContent (bytes kb)) (sym same) (content_map (λ p. p.1) (bytes kb) ps c.law.ensures.content) in
    let count = ap (λ (l : List _). length l) same in
    (lit< tt, (content, omega (arith, count, length-map ps (λ p. p.1), c.len-else-len.ensures, c.in_ok-reserve-2.ensures.ok)))

pub returns-in_ok-reserve-2-clause-appended : goal.returns-in_ok-reserve-2-clause-appended
returns-in_ok-reserve-2-clause-appended g c =
    let moved = c.take_pairs-else-len.ensures.all in
    subst₂ (λ T S. IsUnion (bytes g.K.AsBytes.bytes) T (pairs_of S) (pairs_of c.move_all.new.to.pairs)) moved c.in_ok-reserve-2.ensures.pairs c.move_all.ensures
