use Rattle.std.proofs.Common.{◌≡◌, ◌≤◌, length, sym, ◌∙◌, ap, arith, Ok, Err}
use Rattle.std.specs.Prelude.{Result, OnOk}
use Rattle.art_rows.specs.Rows.{numbers, lengths}
use Rattle.art_rows.specs.Leaves.{room}
use Rattle.art_rows.proofs.FilingLemmas.{seen_rows, how_many}
use Rattle.art_rows.proofs.RowRoomLemmas.{room_enough, room_more}
use Rattle.art_rows.proofs.leaves.Leaves.reserve.Goals.{then-sure-n, else-sure-n}
use Rattle.art_rows.proofs.leaves.Leaves.reserve.Goals as goal

-- if P implies Q, then `OnOk r P` implies `OnOk r Q`
on_ok : {A E : Type 0} (r : Result A E) (P Q : Type 0) → (P → Q) → OnOk r P → OnOk r Q
on_ok (Ok x) P Q f h = f h
on_ok (Err x) P Q f h = h

pub returns-then-rows-spare-clause-ok : goal.returns-then-rows-spare-clause-ok
returns-then-rows-spare-clause-ok g c =
    let f = seen_rows c.self.inside c.self.view_is c.self.invariant in
    let l = c.args.self.now in
    let u : c.used.result ≡ length (numbers l.rows) = c.used.ensures.count ∙ f.counted ∙ sym (how_many f) in
    let s : c.spare.result ≡ l.spare_rows = c.spare.ensures ∙ ap (λ t. t.spare_rows) c.self.view_is in
    let t = c.if-rows-spare.true in
    elim c.if-sure-n.branch [
      | then-sure-n w ↦ (let r = w.rows-is in room_enough l.rows c.args.n l.spare_rows (rw (← u) (omega arith)))
      | else-sure-n w ↦ (let r = w.rows-is in omega arith)
    ]

pub returns-clause-grows : goal.returns-clause-grows
returns-clause-grows g c = rw c.add_rows.ensures.rows (room_more (lengths c.args.self.now.rows) c.args.self.now.spare_rows c.add_rows.new.self.spare_rows c.add_rows.ensures.grows)

pub returns-clause-ok : goal.returns-clause-ok
returns-clause-ok g c =
    let f = seen_rows c.self.inside c.self.view_is c.self.invariant in
    let l = c.args.self.now in
    let m = c.add_rows.new.self in
    let u : c.used.result ≡ length (numbers l.rows) = c.used.ensures.count ∙ f.counted ∙ sym (how_many f) in
    let to : c.if-sure-n.rows ≤ m.spare_rows → c.args.n ≤ room m = λ h. rw c.add_rows.ensures.rows (elim c.if-sure-n.branch [
      | then-sure-n w ↦ (let r = w.rows-is in room_enough l.rows c.args.n m.spare_rows (rw (← u) (omega arith)))
      | else-sure-n w ↦ (let r = w.rows-is in omega arith)
    ]) in
    on_ok c.add_rows.result (c.if-sure-n.rows ≤ m.spare_rows) (c.args.n ≤ room m) to c.add_rows.ensures.ok
