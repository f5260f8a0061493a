use Rattle.std.proofs.Common.{◌≡◌, ℕ, List, lit<, sym, subst, Option}
use Rattle.art_kinds.specs.Nodes.{Node, at}
use Rattle.art_tree.specs.Calls.Placing.{IsShownIn}
use Rattle.art_tree.specs.Leaves.{Numbered, keys_in}
use Rattle.art_tree.specs.Points.{IsFree}
use Rattle.art_tree.proofs.Invariant.Soundness.{sound_same}
use Rattle.art_tree.proofs.tree.add.add_beside.Goals as goal

pub place_beside-requires : goal.place_beside-requires
place_beside-requires g c =
    let kb = g.K.AsBytes.bytes in
    let P = g.row.P in
    let l = c.args.leaves.now in
    let n = c.args.skeleton.now.nodes in
    let root = c.args.skeleton.now.root in
    let p = c.args.gap.now in
    let r = c.requires in
    let m = c.make_room_beside in
    let l' = m.new.leaves in
    let n' = m.new.nodes in
    let whole = sound_same kb l l' n n' root r.whole m.ensures.pairs m.ensures.nodes in
    let free = subst (λ (S : List (Numbered g.row.K.Denot g.row.V.Denot)). IsFree kb S p (kb c.args.key)) (sym m.ensures.pairs) r.free in
    let same : at n ≡ at n' = λ i j. sym (m.ensures.nodes j) i in
    let keyed = subst (λ (S : List (Numbered g.row.K.Denot g.row.V.Denot)). IsShownIn P (keys_in kb S) (at n) root p.nearest p.depth p.fork) (sym m.ensures.pairs) r.fork in
    let shown = subst (λ (f : ℕ → Option Node). IsShownIn P (keys_in kb l'.pairs) f root p.nearest p.depth p.fork) same keyed in
    let fits = c.in_ok-make_room_beside.ensures.fits in
    (lit< tt, (whole, (free, (shown, (fits.0, fits.1)))))

pub returns-clause-placed : goal.returns-clause-placed
returns-clause-placed g c = rw c.make_room_beside.ensures.pairs at c.place_beside.ensures.placed
