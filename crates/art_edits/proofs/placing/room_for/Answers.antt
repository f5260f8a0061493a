use Rattle.art_edits.proofs.Placed.FreePlaces.{never_taken}
use Rattle.art_edits.proofs.placing.room_for.Goals as goal

pub unreachable-requires : goal.unreachable-requires
unreachable-requires g c =
    let kb = g.K.AsBytes.bytes in
    never_taken kb c.args.tree.now.pairs (kb c.args.key.now) c.point-point.result (rw c.as_bytes.ensures at c.point-point.ensures) c.requires.absent c.requires.free c.in-Exact.is
