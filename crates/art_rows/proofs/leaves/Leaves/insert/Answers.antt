use Rattle.std.proofs.Common.{◌≡◌, ◌≤◌, ℕ, List, length, sym, ◌∙◌, arith}
use Rattle.std.specs.Prelude.{IfSome}
use Rattle.art_rows.specs.Numbers.{Numbered, AreDistinct, leaf_in}
use Rattle.art_rows.specs.Rows.{IsSpot, lengths}
use Rattle.art_rows.specs.declared.row.Position.{Position}
use Rattle.art_rows.proofs.FilingLemmas.{seen_rows}
use Rattle.art_rows.proofs.NumbersLemmas.{Has-after}
use Rattle.art_rows.proofs.RowRoomLemmas.{room_spare, room_less, load_starts}
use Rattle.art_rows.proofs.Rooms.{spot_has, spot_ids, spot_put, spot_end, spot_front, spot_next, front_turns, end_turns, spot_spare}
use Rattle.art_rows.proofs.RowChanges.{spot-row}
use Rattle.art_rows.proofs.Crowds.{is_full, in_front}
use Rattle.art_rows.proofs.leaves.Leaves.insert.Goals as goal

-- the row of a spot is full if it has at least 64 numbers
full_row : {rows : List (Numbered (List ℕ))} {k : ℕ} {p : Position} (s : IsSpot rows p k) → AreDistinct rows → (n : ℕ) → IfSome (leaf_in rows p.row) (λ ids. n ≡ length ids) → n ≤ 64 → 64 ≤ n → length s.ids ≡ 64
full_row {rows} {k} {p} s d n len most least = spot_ids s d (λ ids. length ids ≡ 64) (is_full (leaf_in rows p.row) n len most least)

pub row_len-requires : goal.row_len-requires
row_len-requires g c =
    let f = seen_rows c.self.inside c.self.view_is c.self.invariant in
    let s = c.in-Some.ensures.some in
    spot_has s f.apart

pub returns-then-row_len-lt-ROW-clause-room : goal.returns-then-row_len-lt-ROW-clause-room
returns-then-row_len-lt-ROW-clause-room g c =
    let f = seen_rows c.self.inside c.self.view_is c.self.invariant in
    let s = c.in-Some.ensures.some in
    let o = c.args.self.now in
    let n = c.put.new.self in
    let e = c.put.ensures.spare_rows in
    room_less (lengths o.rows) (lengths n.rows) o.spare_rows n.spare_rows (omega arith) (rw e (spot_put s f.apart n.rows c.put.result o.spare_rows c.put.ensures.rows))

-- ---- before a full row

pub begin-requires-then-position-eq0-clause-spare_rows : goal.begin-requires-then-position-eq0-clause-spare_rows
begin-requires-then-position-eq0-clause-spare_rows g c =
    let f = seen_rows c.self.inside c.self.view_is c.self.invariant in
    let s = c.in-Some.ensures.some in
    let full = full_row s f.apart c.row_len.result c.row_len.ensures.len c.row_len.ensures.fits c.if-row_len-lt-ROW.false in
    let front = in_front c.args.prev c.args.self.now.pairs c.in-Some.position.index c.in-Some.ensures.later c.if-position-eq0.true in
    let starts = spot_front s f.apart front f.filled full in
    room_spare (lengths c.args.self.now.rows) c.args.self.now.spare_rows (load_starts (lengths c.args.self.now.rows) starts) c.requires.room

pub begin-requires-then-position-eq0-clause-index : goal.begin-requires-then-position-eq0-clause-index
begin-requires-then-position-eq0-clause-index g c = in_front c.args.prev c.args.self.now.pairs c.in-Some.position.index c.in-Some.ensures.later c.if-position-eq0.true

pub returns-then-position-eq0-clause-room : goal.returns-then-position-eq0-clause-room
returns-then-position-eq0-clause-room g c =
    let f = seen_rows c.self.inside c.self.view_is c.self.invariant in
    let s = c.in-Some.ensures.some in
    let full = full_row s f.apart c.row_len.result c.row_len.ensures.len c.row_len.ensures.fits c.if-row_len-lt-ROW.false in
    let front = in_front c.args.prev c.args.self.now.pairs c.in-Some.position.index c.in-Some.ensures.later c.if-position-eq0.true in
    let starts = spot_front s f.apart front f.filled full in
    let b = c.begin-then-position-eq0 in
    let o = c.args.self.now in
    let n = b.new.self in
    let e = b.ensures.spare_rows in
    room_less (lengths o.rows) (lengths n.rows) o.spare_rows n.spare_rows (omega arith) (front_turns o.rows n.rows b.ensures.rows.0 b.result o.spare_rows n.spare_rows starts b.ensures.rows.2 e)

-- ---- at the end of a full row

pub row_after-requires : goal.row_after-requires
row_after-requires g c =
    let f = seen_rows c.self.inside c.self.view_is c.self.invariant in
    let s = c.in-Some.ensures.some in
    spot_has s f.apart

pub begin-requires-in-None-row_after-clause-spare_rows : goal.begin-requires-in-None-row_after-clause-spare_rows
begin-requires-in-None-row_after-clause-spare_rows g c =
    let f = seen_rows c.self.inside c.self.view_is c.self.invariant in
    let s = c.in-Some.ensures.some in
    let full = full_row s f.apart c.row_len.result c.row_len.ensures.len c.row_len.ensures.fits c.if-row_len-lt-ROW.false in
    spot_spare s f.apart full c.args.self.now.spare_rows c.requires.room

pub begin-requires-in-None-row_after-clause-prev_row : goal.begin-requires-in-None-row_after-clause-prev_row
begin-requires-in-None-row_after-clause-prev_row g c =
    let f = seen_rows c.self.inside c.self.view_is c.self.invariant in
    let s = c.in-Some.ensures.some in
    spot_has s f.apart

pub begin-requires-in-None-row_after-clause-index : goal.begin-requires-in-None-row_after-clause-index
begin-requires-in-None-row_after-clause-index g c =
    let f = seen_rows c.self.inside c.self.view_is c.self.invariant in
    let s = c.in-Some.ensures.some in
    let full = full_row s f.apart c.row_len.result c.row_len.ensures.len c.row_len.ensures.fits c.if-row_len-lt-ROW.false in
    spot_end s f.apart (omega (arith, s.within, c.if-position-lt-ROW.false))

pub returns-in-None-row_after-clause-room : goal.returns-in-None-row_after-clause-room
returns-in-None-row_after-clause-room g c =
    let f = seen_rows c.self.inside c.self.view_is c.self.invariant in
    let s = c.in-Some.ensures.some in
    let at = spot-row c.args.self.now.rows _ c.in-Some.position s f.apart in
    let full = full_row s f.apart c.row_len.result c.row_len.ensures.len c.row_len.ensures.fits c.if-row_len-lt-ROW.false in
    let b = c.begin-in-None-row_after in
    let none = sym c.row_after.ensures.next ∙ c.in-None-row_after.is in
    let o = c.args.self.now in
    let n = b.new.self in
    let q = b.ensures.spare_rows in
    room_less (lengths o.rows) (lengths n.rows) o.spare_rows n.spare_rows (omega arith) (end_turns o.rows c.in-Some.position.row s.ids at full none n.rows b.ensures.rows.0 b.result o.spare_rows n.spare_rows b.ensures.rows.2 q)

pub row_len-requires-in-Some-row_after : goal.row_len-requires-in-Some-row_after
row_len-requires-in-Some-row_after g c = Has-after c.args.self.now.rows c.in-Some.position.row c.in-Some-row_after.next (sym c.row_after.ensures.next ∙ c.in-Some-row_after.is)

pub put-requires-in-Some-row_after-clause-spot : goal.put-requires-in-Some-row_after-clause-spot
put-requires-in-Some-row_after-clause-spot g c =
    let f = seen_rows c.self.inside c.self.view_is c.self.invariant in
    let s = c.in-Some.ensures.some in
    let full = full_row s f.apart c.row_len.result c.row_len.ensures.len c.row_len.ensures.fits c.if-row_len-lt-ROW.false in
    let end = spot_end s f.apart (omega (arith, s.within, c.if-position-lt-ROW.false)) in
    spot_next c.args.self.now.rows f.apart c.in-Some.position.row _ c.in-Some-row_after.next (spot_has s f.apart) end (sym c.row_after.ensures.next ∙ c.in-Some-row_after.is)

pub returns-in-Some-row_after-clause-room : goal.returns-in-Some-row_after-clause-room
returns-in-Some-row_after-clause-room g c =
    let f = seen_rows c.self.inside c.self.view_is c.self.invariant in
    let s = c.in-Some.ensures.some in
    let full = full_row s f.apart c.row_len.result c.row_len.ensures.len c.row_len.ensures.fits c.if-row_len-lt-ROW.false in
    let end = spot_end s f.apart (omega (arith, s.within, c.if-position-lt-ROW.false)) in
    let t = spot_next c.args.self.now.rows f.apart c.in-Some.position.row _ c.in-Some-row_after.next (spot_has s f.apart) end (sym c.row_after.ensures.next ∙ c.in-Some-row_after.is) in
    let b = c.put-in-Some-row_after in
    let o = c.args.self.now in
    let n = b.new.self in
    let q = b.ensures.spare_rows in
    room_less (lengths o.rows) (lengths n.rows) o.spare_rows n.spare_rows (omega arith) (rw q (spot_put t f.apart n.rows b.result o.spare_rows b.ensures.rows))
