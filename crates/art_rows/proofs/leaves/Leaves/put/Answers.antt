use Rattle.std.proofs.Common.{refl, ap, arith}
use Rattle.art_slots.specs.Store.{slot_at, used_count}
use Rattle.art_rows.proofs.FilingLemmas.{seen, all_filed, pairs_are, no_pair}
use Rattle.art_rows.proofs.RowChanges.{spot-row}
use Rattle.art_rows.proofs.FilingChanges.{files_put, fresh_pair}
use Rattle.art_rows.proofs.leaves.Leaves.put.Goals as goal

pub insert-id-requires-clause-has : goal.insert-id-requires-clause-has
insert-id-requires-clause-has g c =
    let s = rw (← ap (λ t. t.rows) c.self.view_is) at c.requires.spot in
    rw (spot-row c.self.inside.rows.pairs _ c.args.position s (seen c.self.inside c.self.view_is c.self.invariant).apart) refl

pub insert-id-requires-clause-room : goal.insert-id-requires-clause-room
insert-id-requires-clause-room g c = rw (← ap (λ t. t.rows) c.self.view_is) at c.requires.room

pub insert-id-requires-clause-index : goal.insert-id-requires-clause-index
insert-id-requires-clause-index g c =
    let s = rw (← ap (λ t. t.rows) c.self.view_is) at c.requires.spot in
    rw (spot-row c.self.inside.rows.pairs _ c.args.position s (seen c.self.inside c.self.view_is c.self.invariant).apart) s.within

pub put-requires-clause-within : goal.put-requires-clause-within
put-requires-clause-within g c = omega (arith, c.self.invariant.1, c.insert-id.ensures.lies, c.number.ensures.value)

pub put-requires-clause-empty : goal.put-requires-clause-empty
put-requires-clause-empty g c =
    let f = seen c.self.inside c.self.view_is c.self.invariant in
    rw c.number.ensures.value (no_pair f c.insert-id.result (fresh_pair f c.insert-id.result c.insert-id.ensures.fresh))

pub invariant_of-self : goal.invariant_of-self
invariant_of-self g c =
    let f = seen c.self.inside c.self.view_is c.self.invariant in
    let s = rw (← ap (λ t. t.rows) c.self.view_is) at c.requires.spot in
    let none = fresh_pair f c.insert-id.result c.insert-id.ensures.fresh in
    (all_filed c.put.new.self (files_put f c.args.prev c.requires.prev c.insert-id.result none c.args.key c.args.value c.args.position s c.insert-id.new.self.pairs c.insert-id.ensures.rows (slot_at c.put.new.self) (rw c.number.ensures.value at c.put.ensures.now) (rw c.number.ensures.value at c.put.ensures.others) (used_count c.put.new.self) c.put.ensures.used), omega (arith, c.self.invariant.1, c.put.ensures.len, c.insert-id.ensures.top))

pub returns-clause-fresh : goal.returns-clause-fresh
returns-clause-fresh g c = fresh_pair (seen c.self.inside c.self.view_is c.self.invariant) c.insert-id.result c.insert-id.ensures.fresh

pub returns-clause-placed : goal.returns-clause-placed
returns-clause-placed g c =
    let f = seen c.self.inside c.self.view_is c.self.invariant in
    let s = rw (← ap (λ t. t.rows) c.self.view_is) at c.requires.spot in
    let none = fresh_pair f c.insert-id.result c.insert-id.ensures.fresh in
    pairs_are c.put.new.self (files_put f c.args.prev c.requires.prev c.insert-id.result none c.args.key c.args.value c.args.position s c.insert-id.new.self.pairs c.insert-id.ensures.rows (slot_at c.put.new.self) (rw c.number.ensures.value at c.put.ensures.now) (rw c.number.ensures.value at c.put.ensures.others) (used_count c.put.new.self) c.put.ensures.used)
