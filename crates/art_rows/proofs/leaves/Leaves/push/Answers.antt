use Rattle.std.proofs.Common.{◌≡◌, ◌+◌, ◌*◌, ◌<◌, ◌-◌, length, sym, ap, ◌∙◌, refl, arith}
use Rattle.art_rows.specs.Numbers.{last_number}
use Rattle.art_rows.specs.Rows.{lengths}
use Rattle.art_rows.specs.RowRoom.{row_end_room}
use Rattle.art_rows.proofs.FilingLemmas.{seen_rows}
use Rattle.art_rows.proofs.RowsLemmas.{last_number-nth}
use Rattle.art_rows.proofs.RowChanges.{spot_after}
use Rattle.art_rows.proofs.Rooms.{last_row, last_room, last_put, last_begun}
use Rattle.art_rows.proofs.Ends.{last_has, last_index}
use Rattle.art_rows.proofs.Crowds.{nothing_there, at_last, last_leaf_end}
use Rattle.art_rows.proofs.leaves.Leaves.push.Goals as goal

-- ---- no leaves

pub begin-requires-clause-spare_rows : goal.begin-requires-clause-spare_rows
begin-requires-clause-spare_rows g c =
    let l = c.args.self.now in
    let none = nothing_there (seen_rows c.self.inside c.self.view_is c.self.invariant) (sym c.last_position.ensures ∙ c.in_default.is) in
    let e : row_end_room (lengths l.rows) ≡ 0 = ap (λ rs. row_end_room (lengths rs)) none.1 in
    let h : 0 < 64 * l.spare_rows + row_end_room (lengths l.rows) = c.requires.room in
    omega arith

pub returns-in_default-clause-placed : goal.returns-in_default-clause-placed
returns-in_default-clause-placed g c =
    let none = nothing_there (seen_rows c.self.inside c.self.view_is c.self.invariant) (sym c.last_position.ensures ∙ c.in_default.is) in
    rw (ap last_number none.0) c.begin.ensures.placed

pub returns-in_default-clause-room : goal.returns-in_default-clause-room
returns-in_default-clause-room g c =
    let l = c.args.self.now in
    let n = c.begin.new.self in
    let none = nothing_there (seen_rows c.self.inside c.self.view_is c.self.invariant) (sym c.last_position.ensures ∙ c.in_default.is) in
    let e : row_end_room (lengths l.rows) ≡ 0 = ap (λ rs. row_end_room (lengths rs)) none.1 in
    let i : row_end_room (lengths n.rows) ≡ 63 = rw (c.begin.ensures.rows.2, none.1) refl in
    let s = c.begin.ensures.spare_rows in
    omega arith

-- ---- the last row is not full

pub put-requires-clause-prev : goal.put-requires-clause-prev
put-requires-clause-prev g c = last_has c.args.self.now.pairs c.number-last.result (c.number-last.ensures _ (sym c.last_position.ensures ∙ c.in-Some.is))

pub put-requires-clause-spot : goal.put-requires-clause-spot
put-requires-clause-spot g c =
    let l = c.args.self.now in
    let f = seen_rows c.self.inside c.self.view_is c.self.invariant in
    let at = sym c.last_position.ensures ∙ c.in-Some.is in
    rw (last_index l.pairs c.number-last.result f.distinct (c.number-last.ensures _ at)) (spot_after l.rows (length l.pairs - 1) c.in-Some.position at)

pub put-requires-clause-room : goal.put-requires-clause-room
put-requires-clause-room g c =
    let f = seen_rows c.self.inside c.self.view_is c.self.invariant in
    let s = at_last f c.in-Some.position (sym c.last_position.ensures ∙ c.in-Some.is) in
    let n = s.len in
    rw (last_row s f.apart) (omega (arith, n, c.if-position.true))

pub returns-then-position-clause-placed : goal.returns-then-position-clause-placed
returns-then-position-clause-placed g c =
    rw (last_number-nth c.args.self.now.pairs ∙ c.number-last.ensures _ (sym c.last_position.ensures ∙ c.in-Some.is)) c.put.ensures.placed

pub returns-then-position-clause-room : goal.returns-then-position-clause-room
returns-then-position-clause-room g c =
    let l = c.args.self.now in
    let n = c.put.new.self in
    let f = seen_rows c.self.inside c.self.view_is c.self.invariant in
    let p = c.in-Some.position in
    let s = at_last f p (sym c.last_position.ensures ∙ c.in-Some.is) in
    let was : row_end_room (lengths l.rows) ≡ 64 - (p.index + 1) = last_room s f.apart in
    let is : row_end_room (lengths n.rows) ≡ 64 - (p.index + 2) = last_put s f.apart n.rows c.put.result c.put.ensures.rows in
    let e = c.put.ensures.spare_rows in
    let w = c.if-position.true in
    omega arith

-- ---- the last row is full

pub begin-requires-2-clause-spare_rows : goal.begin-requires-2-clause-spare_rows
begin-requires-2-clause-spare_rows g c =
    let l = c.args.self.now in
    let f = seen_rows c.self.inside c.self.view_is c.self.invariant in
    let p = c.in-Some.position in
    let was : row_end_room (lengths l.rows) ≡ 64 - (p.index + 1) = last_room (at_last f p (sym c.last_position.ensures ∙ c.in-Some.is)) f.apart in
    let w = c.if-position.false in
    let h : 0 < 64 * l.spare_rows + row_end_room (lengths l.rows) = c.requires.room in
    omega arith

pub begin-requires-2-clause-prev : goal.begin-requires-2-clause-prev
begin-requires-2-clause-prev g c = last_has c.args.self.now.pairs c.number-last.result (c.number-last.ensures _ (sym c.last_position.ensures ∙ c.in-Some.is))

pub begin-requires-2-clause-prev_row : goal.begin-requires-2-clause-prev_row
begin-requires-2-clause-prev_row g c =
    let f = seen_rows c.self.inside c.self.view_is c.self.invariant in
    rw (last_row (at_last f c.in-Some.position (sym c.last_position.ensures ∙ c.in-Some.is)) f.apart) refl

pub begin-requires-2-clause-index : goal.begin-requires-2-clause-index
begin-requires-2-clause-index g c =
    let f = seen_rows c.self.inside c.self.view_is c.self.invariant in
    let at = sym c.last_position.ensures ∙ c.in-Some.is in
    last_leaf_end f c.in-Some.position at c.number-last.result (c.number-last.ensures _ at)

pub returns-clause-placed : goal.returns-clause-placed
returns-clause-placed g c =
    rw (last_number-nth c.args.self.now.pairs ∙ c.number-last.ensures _ (sym c.last_position.ensures ∙ c.in-Some.is)) c.begin-2.ensures.placed

pub returns-clause-room : goal.returns-clause-room
returns-clause-room g c =
    let l = c.args.self.now in
    let n = c.begin-2.new.self in
    let f = seen_rows c.self.inside c.self.view_is c.self.invariant in
    let p = c.in-Some.position in
    let s = at_last f p (sym c.last_position.ensures ∙ c.in-Some.is) in
    let was : row_end_room (lengths l.rows) ≡ 64 - (p.index + 1) = last_room s f.apart in
    let is : row_end_room (lengths n.rows) ≡ 63 = last_begun s f.apart n.rows _ c.begin-2.result c.begin-2.ensures.rows.2 in
    let e = c.begin-2.ensures.spare_rows in
    let w = c.if-position.false in
    omega arith
