use Rattle.std.proofs.Common.{◌≡◌, length, arith}
use Rattle.art_rows.specs.Rows.{lengths}
use Rattle.art_rows.proofs.FilingLemmas.{seen_rows}
use Rattle.art_rows.proofs.RowRoomLemmas.{room_less}
use Rattle.art_rows.proofs.Rooms.{spot_has, spot_ids, spot_spare}
use Rattle.art_rows.proofs.Cuts.{cut_at, low_len, high_len, cut_apart, cut_low, cut_high, cut_below, cut_above, cut_put}
use Rattle.art_rows.proofs.leaves.Leaves.put_apart.Goals as goal

pub cut-new-requires-clause-has : goal.cut-new-requires-clause-has
cut-new-requires-clause-has g c = spot_has c.requires.spot (seen_rows c.self.inside c.self.view_is c.self.invariant).apart

pub cut-new-requires-clause-spare : goal.cut-new-requires-clause-spare
cut-new-requires-clause-spare g c =
    let f = seen_rows c.self.inside c.self.view_is c.self.invariant in
    let s = c.requires.spot in
    spot_spare s f.apart (spot_ids s f.apart (λ ids. length ids ≡ 64) c.requires.full) c.args.self.now.spare_rows c.requires.room

pub overflow_sub-upper : goal.overflow_sub-upper
overflow_sub-upper g c = omega (arith, c.if-position-le-HALF.false)

pub put-requires-clause-spot : goal.put-requires-clause-spot
put-requires-clause-spot g c =
    let f = seen_rows c.self.inside c.self.view_is c.self.invariant in
    let x = cut_at c.requires.spot f.apart c.requires.full c.cut-new.result c.cut-new.new.self.rows c.cut-new.ensures.rows in
    rw c.cut-new.ensures.pairs (cut_below x _ c.args.position.index c.requires.spot.index c.if-position-le-HALF.true)

pub put-requires-clause-room : goal.put-requires-clause-room
put-requires-clause-room g c =
    let f = seen_rows c.self.inside c.self.view_is c.self.invariant in
    let x = cut_at c.requires.spot f.apart c.requires.full c.cut-new.result c.cut-new.new.self.rows c.cut-new.ensures.rows in
    let l = low_len x in
    rw (cut_low x) (omega arith)

pub returns-then-position-le-HALF-clause-room : goal.returns-then-position-le-HALF-clause-room
returns-then-position-le-HALF-clause-room g c =
    let f = seen_rows c.self.inside c.self.view_is c.self.invariant in
    let x = cut_at c.requires.spot f.apart c.requires.full c.cut-new.result c.cut-new.new.self.rows c.cut-new.ensures.rows in
    let o = c.args.self.now in
    let n = c.put.new.self in
    let q = c.cut-new.ensures.spare in
    let e = c.put.ensures.spare_rows in
    let i = cut_below x _ c.args.position.index c.requires.spot.index c.if-position-le-HALF.true in
    let u = cut_put x i (cut_apart x c.cut-new.ensures.unused f.apart) n.rows c.put.result o.spare_rows c.cut-new.new.self.spare_rows q c.put.ensures.rows in
    room_less (lengths o.rows) (lengths n.rows) o.spare_rows n.spare_rows (omega arith) (rw e u)

pub put-requires-2-clause-spot : goal.put-requires-2-clause-spot
put-requires-2-clause-spot g c =
    let f = seen_rows c.self.inside c.self.view_is c.self.invariant in
    let x = cut_at c.requires.spot f.apart c.requires.full c.cut-new.result c.cut-new.new.self.rows c.cut-new.ensures.rows in
    let s = c.requires.spot in
    rw c.cut-new.ensures.pairs (cut_above x _ c.args.position.index s.index (omega (arith, c.if-position-le-HALF.false)) s.within)

pub put-requires-2-clause-room : goal.put-requires-2-clause-room
put-requires-2-clause-room g c =
    let f = seen_rows c.self.inside c.self.view_is c.self.invariant in
    let x = cut_at c.requires.spot f.apart c.requires.full c.cut-new.result c.cut-new.new.self.rows c.cut-new.ensures.rows in
    let l = high_len x in
    rw (cut_high x (cut_apart x c.cut-new.ensures.unused f.apart)) (omega arith)

pub returns-clause-room : goal.returns-clause-room
returns-clause-room g c =
    let f = seen_rows c.self.inside c.self.view_is c.self.invariant in
    let x = cut_at c.requires.spot f.apart c.requires.full c.cut-new.result c.cut-new.new.self.rows c.cut-new.ensures.rows in
    let s = c.requires.spot in
    let o = c.args.self.now in
    let n = c.put-2.new.self in
    let q = c.cut-new.ensures.spare in
    let e = c.put-2.ensures.spare_rows in
    let i = cut_above x _ c.args.position.index s.index (omega (arith, c.if-position-le-HALF.false)) s.within in
    let u = cut_put x i (cut_apart x c.cut-new.ensures.unused f.apart) n.rows c.put-2.result o.spare_rows c.cut-new.new.self.spare_rows q c.put-2.ensures.rows in
    room_less (lengths o.rows) (lengths n.rows) o.spare_rows n.spare_rows (omega arith) (rw e u)
