use Rattle.std.proofs.Common.{◌≡◌, sym, ap, subst, arith}
use Rattle.std.specs.Prelude.{IfSome}
use Rattle.art_slots.specs.Store.{slot_at, used_count}
use Rattle.art_rows.specs.Numbers.{Has}
use Rattle.art_rows.specs.Rows.{row_end}
use Rattle.art_rows.specs.Leaves.{spot_index}
use Rattle.art_rows.proofs.FilingLemmas.{seen, all_filed, pairs_are, no_pair}
use Rattle.art_rows.proofs.FilingChanges.{files_begun, fresh_pair}
use Rattle.art_rows.proofs.leaves.Leaves.begin.Goals as goal

pub put-requires-clause-within : goal.put-requires-clause-within
put-requires-clause-within g c = omega (arith, c.self.invariant.1, c.begin-id.ensures.lies, c.number.ensures.value)

pub put-requires-clause-empty : goal.put-requires-clause-empty
put-requires-clause-empty g c =
    let f = seen c.self.inside c.self.view_is c.self.invariant in
    rw c.number.ensures.value (no_pair f c.begin-id.result.1 (fresh_pair f c.begin-id.result.1 c.begin-id.ensures.fresh))

pub invariant_of-self : goal.invariant_of-self
invariant_of-self g c =
    let f = seen c.self.inside c.self.view_is c.self.invariant in
    let e : c.self.inside.rows.pairs ≡ c.args.self.now.rows = ap (λ t. t.rows) c.self.view_is in
    let r = c.begin-id.result.0 in
    let n = c.begin-id.result.1 in
    let prev_row = subst (λ rs. IfSome c.args.prev_row (Has rs)) (sym e) c.requires.prev_row in
    let index = subst (λ rs. spot_index c.args.prev c.args.self.now.pairs ≡ row_end c.args.prev_row rs) (sym e) c.requires.index in
    let files = files_begun f c.args.prev c.requires.prev n (fresh_pair f n c.begin-id.ensures.fresh) c.args.key c.args.value c.args.prev_row prev_row index r c.begin-id.ensures.unused _ c.begin-id.ensures.rows (slot_at c.put.new.self) (rw c.number.ensures.value at c.put.ensures.now) (rw c.number.ensures.value at c.put.ensures.others) (used_count c.put.new.self) c.put.ensures.used in
    (all_filed c.put.new.self files, omega (arith, c.self.invariant.1, c.put.ensures.len, c.begin-id.ensures.top))

pub returns-clause-fresh : goal.returns-clause-fresh
returns-clause-fresh g c = fresh_pair (seen c.self.inside c.self.view_is c.self.invariant) c.begin-id.result.1 c.begin-id.ensures.fresh

pub returns-clause-placed : goal.returns-clause-placed
returns-clause-placed g c =
    let f = seen c.self.inside c.self.view_is c.self.invariant in
    let e : c.self.inside.rows.pairs ≡ c.args.self.now.rows = ap (λ t. t.rows) c.self.view_is in
    let r = c.begin-id.result.0 in
    let n = c.begin-id.result.1 in
    let prev_row = subst (λ rs. IfSome c.args.prev_row (Has rs)) (sym e) c.requires.prev_row in
    let index = subst (λ rs. spot_index c.args.prev c.args.self.now.pairs ≡ row_end c.args.prev_row rs) (sym e) c.requires.index in
    pairs_are c.put.new.self (files_begun f c.args.prev c.requires.prev n (fresh_pair f n c.begin-id.ensures.fresh) c.args.key c.args.value c.args.prev_row prev_row index r c.begin-id.ensures.unused _ c.begin-id.ensures.rows (slot_at c.put.new.self) (rw c.number.ensures.value at c.put.ensures.now) (rw c.number.ensures.value at c.put.ensures.others) (used_count c.put.new.self) c.put.ensures.used)

pub returns-clause-rows : goal.returns-clause-rows
returns-clause-rows g c =
    let e : c.self.inside.rows.pairs ≡ c.args.self.now.rows = ap (λ t. t.rows) c.self.view_is in
    (c.begin-id.result.0, rw (← e) c.begin-id.ensures.unused, rw (← e) c.begin-id.ensures.rows)
