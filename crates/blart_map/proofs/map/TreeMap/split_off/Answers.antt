use Rattle.std.proofs.Common.{◌≡◌, List, length, lit<, sym, ap, ◌∙◌, arith}
use Rattle.std.proofs.lemmas.List.{length-map}
use Rattle.blart_keys.specs.Steps.{bytes}
use Rattle.blart_keys.specs.Stored.{pair_at}
use Rattle.art_tree.specs.Pairs.{pairs_of}
use Rattle.blart_map.specs.Content.{pairs}
use Rattle.art_edits.proofs.Moved.Parting.{parted, part_lengths, from_short, kept_at, given_at}
use Rattle.blart_map.proofs.map.TreeMap.split_off.Goals as goal

pub part-requires : goal.part-requires
unfolding pairs
part-requires g c =
    let kb = g.K.AsBytes.bytes in
    let count = c.count_from-count.ensures in
    let short = from_short (bytes kb) (g.Q.AsBytes.bytes c.args.query.now) (pairs_of c.args.self.now) c.law.ensures.content in
    let same : length c.args.self.now ≡ length c.self.inside.tree.pairs = ap (λ (l : List _). length l) (sym c.self.view_is) in
    (lit< tt, (omega (arith, count, short, length-map c.args.self.now (λ p. p.1), same), c.new-tree.ensures.pairs))

pub returns-clause-below : goal.returns-clause-below
unfolding pairs
returns-clause-below g c =
    let kb = g.K.AsBytes.bytes in
    let whole = sym (ap pairs_of c.self.view_is) ∙ c.in_default.ensures.whole in
    let count = c.in_default.ensures.moved ∙ c.count_from-count.ensures in
    (parted (bytes kb) (g.Q.AsBytes.bytes c.args.query.now) (pairs_of c.args.self.now) (pairs_of c.part.new.from.pairs) (pairs_of c.part.new.to.pairs) c.law.ensures.content whole count).0

pub returns-clause-from : goal.returns-clause-from
unfolding pairs
returns-clause-from g c =
    let kb = g.K.AsBytes.bytes in
    let whole = sym (ap pairs_of c.self.view_is) ∙ c.in_default.ensures.whole in
    let count = c.in_default.ensures.moved ∙ c.count_from-count.ensures in
    (parted (bytes kb) (g.Q.AsBytes.bytes c.args.query.now) (pairs_of c.args.self.now) (pairs_of c.part.new.from.pairs) (pairs_of c.part.new.to.pairs) c.law.ensures.content whole count).1

pub returns-clause-kept : goal.returns-clause-kept
returns-clause-kept g c = λ r.
    ap (λ S. pair_at g.K.AsBytes.bytes S r) (returns-clause-below g c) ∙ kept_at g.K.AsBytes.bytes (g.Q.AsBytes.bytes c.args.query.now) (pairs c.args.self.now) r

pub returns-clause-given : goal.returns-clause-given
returns-clause-given g c = λ r.
    ap (λ S. pair_at g.K.AsBytes.bytes S r) (returns-clause-from g c) ∙ given_at g.K.AsBytes.bytes (g.Q.AsBytes.bytes c.args.query.now) (pairs c.args.self.now) r

pub returns-in-Err-clause-err : goal.returns-in-Err-clause-err
returns-in-Err-clause-err g c =
    c.in-Err.ensures.err ∙ c.self.view_is

pub returns-in-Err-clause-refused : goal.returns-in-Err-clause-refused
unfolding pairs
returns-in-Err-clause-refused g c =
    λ empty. omega (arith, c.in-Err.ensures.refused, c.count_from-count.ensures, ap (λ (l : List _). length l) empty)

pub returns-in-Err-clause-below_refused : goal.returns-in-Err-clause-below_refused
unfolding pairs
returns-in-Err-clause-below_refused g c =
    let kb = g.K.AsBytes.bytes in
    let whole = part_lengths (bytes kb) (g.Q.AsBytes.bytes c.args.query.now) (pairs c.args.self.now) c.law.ensures.content in
    let same : length c.args.self.now ≡ length c.self.inside.tree.pairs = ap (λ (l : List _). length l) (sym c.self.view_is) in
    λ empty. omega (arith, c.in-Err.ensures.low_refused, c.count_from-count.ensures, whole, length-map c.args.self.now (λ p. p.1), same, ap (λ (l : List _). length l) empty)
