use Rattle.std.proofs.Common.{◌≡◌, ℕ, ◌+◌, ◌++◌, List, length, length-append, lit<, arith, sym, ap, ◌∙◌}
use Rattle.std.proofs.lemmas.List.{length-map}
use Rattle.blart_keys.specs.Steps.{bytes}
use Rattle.blart_keys.proofs.Mapped.{content_map}
use Rattle.art_tree.specs.Pairs.{pairs_of}
use Rattle.art_edits.proofs.Moved.Parting.{parts_contents}
use Rattle.art_edits.proofs.parting.part_anew.Goals as goal

pub move_pairs-requires-clause-enough : goal.move_pairs-requires-clause-enough
move_pairs-requires-clause-enough g c =
    let all = ap (λ (l : List _). length l) c.take_pairs-upper.ensures.all in
    omega (arith, all, length-map c.args.from.now.pairs (λ p. p.1), c.requires.parts)

pub from_pairs-requires : goal.from_pairs-requires
from_pairs-requires g c =
    let kb = g.K.AsBytes.bytes in
    let ps = c.args.from.now.pairs in
    let whole = sym c.take_pairs-upper.ensures.all ∙ c.move_pairs.ensures.whole in
    let content = content_map (λ p. p.1) (bytes kb) ps c.law.ensures.content in
    (lit< tt, (lit< tt, ((parts_contents (bytes kb) (pairs_of ps) c.move_pairs.new.to.pairs c.move_pairs.new.from.pairs content whole).0, omega (arith, c.move_pairs.ensures.moved, c.in_ok-lower.ensures.below))))

-- as many pairs remain as move to the other tree
left_over : {X : Type 0} (S low high : List X) (n m : ℕ) → S ≡ low ++ high → length low ≡ n → n + m ≡ length S → length high ≡ m
left_over S low high n m e l s = omega (arith, ap (λ (l : List _). length l) e, length-append low high)

pub from_pairs-requires-2 : goal.from_pairs-requires-2
from_pairs-requires-2 g c =
    let kb = g.K.AsBytes.bytes in
    let ps = c.args.from.now.pairs in
    let low = c.move_pairs.new.to.pairs in
    let high = c.move_pairs.new.from.pairs in
    let whole = sym c.take_pairs-upper.ensures.all ∙ c.move_pairs.ensures.whole in
    let content = content_map (λ p. p.1) (bytes kb) ps c.law.ensures.content in
    let all = length-map ps (λ p. p.1) in
    let count = left_over (pairs_of ps) low high c.args.low c.args.count whole c.move_pairs.ensures.moved (omega (arith, all, c.requires.parts)) in
    (lit< tt, (lit< tt, ((parts_contents (bytes kb) (pairs_of ps) low high content whole).1, omega (arith, count, c.in_ok-lower.ensures.from))))

pub returns-clause-whole : goal.returns-clause-whole
returns-clause-whole g c =
    let whole = sym c.take_pairs-upper.ensures.all ∙ c.move_pairs.ensures.whole in
    let low = ap (λ t. pairs_of t.pairs) c.replace.ensures.after ∙ c.from_pairs.ensures in
    let high = ap (λ t. pairs_of t.pairs) c.replace-2.ensures.after ∙ c.from_pairs-2.ensures in
    whole ∙ ap (λ l. l ++ c.move_pairs.new.from.pairs) (sym low) ∙ ap (λ l. pairs_of c.replace.new.dest.pairs ++ l) (sym high)

pub returns-clause-moved : goal.returns-clause-moved
returns-clause-moved g c =
    let ps = c.args.from.now.pairs in
    let whole = sym c.take_pairs-upper.ensures.all ∙ c.move_pairs.ensures.whole in
    let high = ap (λ t. pairs_of t.pairs) c.replace-2.ensures.after ∙ c.from_pairs-2.ensures in
    let all = length-map ps (λ p. p.1) in
    ap length high ∙ left_over (pairs_of ps) c.move_pairs.new.to.pairs c.move_pairs.new.from.pairs c.args.low c.args.count whole c.move_pairs.ensures.moved (omega (arith, all, c.requires.parts))
