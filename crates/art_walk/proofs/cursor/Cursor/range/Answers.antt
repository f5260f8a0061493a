use Rattle.std.proofs.Common.{true, false, sym, lit<}
use Rattle.blart_keys.specs.Bounds.{bound_bytes}
use Rattle.blart_keys.specs.Content.{between}
use Rattle.art_tree.specs.Leaves.{bytes}
use Rattle.art_tree.proofs.CallerLemmas.{number_within_has}
use Rattle.art_walk.proofs.Steps.{cut_fits, cut_left, nothing_is}
use Rattle.art_walk.proofs.Ranges.{none_from, none_up, past_end, same_end, within_cut}
use Rattle.art_walk.proofs.cursor.Cursor.range.Goals as goal

pub returns-in_default-clause-left : goal.returns-in_default-clause-left
returns-in_default-clause-left g c =
    let ps = c.args.tree.now.pairs in
    let lo = bound_bytes (λ b. b) c.args.start in
    let hi = bound_bytes (λ b. b) c.args.end in
    nothing_is ps (between (bytes g.K.AsBytes.bytes) ps lo hi) c.none.result c.none.ensures (none_from g.K.AsBytes.bytes ps c.law.ensures.content lo hi c.in_default.ensures.found)

pub returns-in_default-seek-clause-left : goal.returns-in_default-seek-clause-left
returns-in_default-seek-clause-left g c =
    let ps = c.args.tree.now.pairs in
    let lo = bound_bytes (λ b. b) c.args.start in
    let hi = bound_bytes (λ b. b) c.args.end in
    nothing_is ps (between (bytes g.K.AsBytes.bytes) ps lo hi) c.none-in_default-seek.result c.none-in_default-seek.ensures
    (none_up g.K.AsBytes.bytes ps c.law.ensures.content lo hi c.in_default-seek.ensures.found)

pub leaf-requires : goal.leaf-requires
leaf-requires g c =
    (lit< tt, number_within_has (bytes g.K.AsBytes.bytes) c.args.tree.now.pairs c.law.ensures.distinct (bound_bytes (λ b. b) c.args.start) true c.in-Some.first (sym c.in-Some.ensures.found))

pub returns-then-is_within_end-clause-fits : goal.returns-then-is_within_end-clause-fits
returns-then-is_within_end-clause-fits g c =
    let ps = c.args.tree.now.pairs in
    let lo = bound_bytes (λ b. b) c.args.start in
    let hi = bound_bytes (λ b. b) c.args.end in
    let h = same_end hi true c.as_bytes.result.now (g.K.AsBytes.bytes c.leaf.result.0.now) c.as_bytes.ensures c.if-is_within_end.ensures in
    cut_fits ps c.law.ensures.distinct c.in-Some.first c.in-Some-seek.last (between (bytes g.K.AsBytes.bytes) ps lo hi)
    (within_cut g.K.AsBytes.bytes ps c.law.ensures.content lo hi c.law.ensures.distinct c.in-Some.first c.in-Some.ensures.found (c.leaf.result.0.now, c.leaf.result.1.now) c.leaf.ensures.value h c.in-Some-seek.last c.in-Some-seek.ensures.found)
    c.between.result c.between.ensures

pub returns-then-is_within_end-clause-left : goal.returns-then-is_within_end-clause-left
returns-then-is_within_end-clause-left g c =
    let ps = c.args.tree.now.pairs in
    let lo = bound_bytes (λ b. b) c.args.start in
    let hi = bound_bytes (λ b. b) c.args.end in
    let h = same_end hi true c.as_bytes.result.now (g.K.AsBytes.bytes c.leaf.result.0.now) c.as_bytes.ensures c.if-is_within_end.ensures in
    cut_left ps c.law.ensures.distinct c.in-Some.first c.in-Some-seek.last (between (bytes g.K.AsBytes.bytes) ps lo hi)
    (within_cut g.K.AsBytes.bytes ps c.law.ensures.content lo hi c.law.ensures.distinct c.in-Some.first c.in-Some.ensures.found (c.leaf.result.0.now, c.leaf.result.1.now) c.leaf.ensures.value h c.in-Some-seek.last c.in-Some-seek.ensures.found)
    c.between.result c.between.ensures

pub returns-else-is_within_end-clause-left : goal.returns-else-is_within_end-clause-left
returns-else-is_within_end-clause-left g c =
    let ps = c.args.tree.now.pairs in
    let lo = bound_bytes (λ b. b) c.args.start in
    let hi = bound_bytes (λ b. b) c.args.end in
    let h = same_end hi false c.as_bytes.result.now (g.K.AsBytes.bytes c.leaf.result.0.now) c.as_bytes.ensures c.if-is_within_end.ensures in
    nothing_is ps (between (bytes g.K.AsBytes.bytes) ps lo hi) c.none-else-is_within_end.result c.none-else-is_within_end.ensures
    (past_end g.K.AsBytes.bytes ps c.law.ensures.content lo hi c.law.ensures.distinct c.in-Some.first c.in-Some.ensures.found (c.leaf.result.0.now, c.leaf.result.1.now) c.leaf.ensures.value h)
