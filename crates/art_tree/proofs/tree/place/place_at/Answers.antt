use Rattle.std.proofs.Common.{◌<◌, lit<, subst, arith}
use Rattle.art_kinds.specs.Nodes.{at}
use Rattle.art_tree.specs.Calls.Placing.{content_of}
use Rattle.art_tree.specs.Content.{Fits, room as room_of}
use Rattle.art_tree.specs.Leaves.{keys_in}
use Rattle.art_tree.specs.Points.{IsGood}
use Rattle.art_tree.specs.declared.tree.point.Point.{Point}
use Rattle.art_tree.proofs.NumberedPairs.Placed.{shown_rest}
use Rattle.art_tree.proofs.tree.place.place_at.Goals as goal

pub place_beside-requires : goal.place_beside-requires
place_beside-requires g c =
    let kb = g.K.AsBytes.bytes in
    let l = c.args.leaves.now in
    let n = c.args.skeleton.now.nodes in
    let free = subst (λ (p : Point). IsGood kb l.pairs p (kb c.args.key)) c.in-Free.is c.requires.good in
    let fits : 0 < room_of (content_of l n) = subst (λ (p : Point). Fits (content_of l n) p) c.in-Free.is c.requires.fits in
    let shown = shown_rest _ (at n) c.args.skeleton.now.root c.in-Free.gap (keys_in kb l.pairs) c.fork_shown-shown.result c.fork_shown-shown.ensures in
    (lit< tt, (c.requires.whole, (free, (shown, (omega arith, omega arith)))))
