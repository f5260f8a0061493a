use Rattle.std.proofs.Common.{sym, ◌∙◌, Some, lit<, arith}
use Rattle.art_kinds.specs.Nodes.{at}
use Rattle.art_tree.specs.Leaves.{keys_in}
use Rattle.art_tree.specs.Invariant.EdgesAbove.{edge_front}
use Rattle.art_tree.proofs.Invariant.Growing.{covers_above}
use Rattle.art_tree.proofs.Invariant.Soundness.{within_longest}
use Rattle.art_tree.proofs.NumberedPairs.Bounds.{ends_under, none_under}
use Rattle.art_tree.proofs.Ways.Tops.{top_below, top_covers, no_top, is_subtree}
use Rattle.art_tree.proofs.tree.seek.subtree_below.Goals as goal

pub returns-in_err-child-clause-found : goal.returns-in_err-child-clause-found
returns-in_err-child-clause-found g c =
    let none = sym c.top.ensures ∙ c.in_err-child.was in
    rw c.from_residual.ensures (sym (none_under g.K.AsBytes.bytes c.args.leaves.now.pairs c.requires.content c.law.ensures.distinct c.args.front.now (no_top c.requires.shape c.args.front.now _ none c.stop_of-stop.ensures.stop)))

pub end_under-first-requires : goal.end_under-first-requires
end_under-first-requires g c =
    let top = top_covers c.requires.shape c.args.front.now _ (sym c.top.ensures ∙ c.in_ok-child.was) c.stop_of-stop.ensures.stop in
    (lit< tt, record { keys = _; root = top.root; shape = top.shape; front = c.args.front.now; covers = top.covers })

pub end_under-last-requires : goal.end_under-last-requires
end_under-last-requires g c =
    let top = top_covers c.requires.shape c.args.front.now _ (sym c.top.ensures ∙ c.in_ok-child.was) c.stop_of-stop.ensures.stop in
    (lit< tt, record { keys = _; root = top.root; shape = top.shape; front = c.args.front.now; covers = top.covers })

pub returns-clause-found : goal.returns-clause-found
returns-clause-found g c =
    let top = top_covers c.requires.shape c.args.front.now _ (sym c.top.ensures ∙ c.in_ok-child.was) c.stop_of-stop.ensures.stop in
    let u = c.end_under-first.ensures.ends _ top.root top.shape c.args.front.now top.covers in
    let w = c.end_under-last.ensures.ends _ top.root top.shape c.args.front.now top.covers in
    sym (ends_under g.K.AsBytes.bytes c.args.leaves.now.pairs c.requires.content c.law.ensures.distinct c.args.front.now c.end_under-first.result c.end_under-last.result u w)

pub returns-clause-subtree : goal.returns-clause-subtree
returns-clause-subtree g c = λ s.
    let keys = keys_in g.K.AsBytes.bytes c.args.leaves.now.pairs in
    let is = sym c.top.ensures ∙ c.in_ok-child.was in
    let top = top_covers c.requires.shape c.args.front.now _ is c.stop_of-stop.ensures.stop in
    let above = c.stop_of-stop.result.1 in
    let below = top_below (at c.args.nodes.now) (Some c.args.root.now) _ above _ is c.stop_of-stop.ensures.above in
    let over = covers_above keys (at c.args.nodes.now) (Some c.args.root.now) s above _ below.0 in
    is_subtree s c.args.front.now _ top below.0 below.1 (c.end_under-first.ensures.ends keys _ s (edge_front s.front_of above) over) (c.end_under-first.ensures.ends keys top.root top.shape c.args.front.now top.covers)

pub returns-clause-counted : goal.returns-clause-counted
returns-clause-counted g c =
    let kb = g.K.AsBytes.bytes in
    let S = c.args.leaves.now.pairs in
    let top = top_covers c.requires.shape c.args.front.now _ (sym c.top.ensures ∙ c.in_ok-child.was) c.stop_of-stop.ensures.stop in
    let u = c.end_under-first.ensures.ends _ top.root top.shape c.args.front.now top.covers in
    let w = c.end_under-last.ensures.ends _ top.root top.shape c.args.front.now top.covers in
    let first = c.end_under-first.ensures.counted _ top.root top.shape c.args.front.now u.key top.covers u.is in
    let last = c.end_under-last.ensures.counted _ top.root top.shape c.args.front.now w.key top.covers w.is in
    omega (arith, within_longest kb S c.end_under-first.result u.key u.is, within_longest kb S c.end_under-last.result w.key w.is, c.stop_of-stop.ensures.counted)
