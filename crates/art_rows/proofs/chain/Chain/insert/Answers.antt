use Rattle.std.proofs.Common.{◌≡◌}
use Rattle.art_rows.specs.Numbers.{next_number}
use Rattle.art_slots.specs.Store.{slot_at}
use Rattle.art_rows.proofs.LinksLemmas.{seen, all_linked, pairs_are, still_linked, made_before, made_next, store_inserted}
use Rattle.art_rows.proofs.chain.Chain.insert.Goals.{in-None, in-Some}
use Rattle.art_rows.proofs.chain.Chain.insert.Goals as goal

pub set_next-requires : goal.set_next-requires
set_next-requires g c =
    let l = seen c.self.inside c.self.view_is c.self.invariant in
    let at : (c.match-prev.prev ≡ c.args.prev) × (c.match-prev.next ≡ next_number c.args.prev c.args.self.now.pairs) = elim c.match-prev.branch [
      | in-None w ↦ (cc, rw (w.next-is, w.in-None.is) l.starts)
      | in-Some w ↦ (cc, rw (w.next-is, w.in-Some.is) w.next_of-next.ensures)
    ] in
    made_before c.self.inside.records.store l c.match-prev.prev c.match-prev.next (rw at.0 at.1) (rw at.0 c.requires.prev) c.fill-number.result c.fill-number.ensures.fresh c.args.item c.fill-number.new.self.store c.fill-number.ensures.now c.fill-number.ensures.others

pub set_prev-requires : goal.set_prev-requires
set_prev-requires g c =
    let l = seen c.self.inside c.self.view_is c.self.invariant in
    let at : (c.match-prev.prev ≡ c.args.prev) × (c.match-prev.next ≡ next_number c.args.prev c.args.self.now.pairs) = elim c.match-prev.branch [
      | in-None w ↦ (cc, rw (w.next-is, w.in-None.is) l.starts)
      | in-Some w ↦ (cc, rw (w.next-is, w.in-Some.is) w.next_of-next.ensures)
    ] in
    still_linked c.match-prev.next (slot_at c.fill-number.new.self.store) (slot_at c.set_next.new.records.store) _ _ c.set_next.ensures.leaves (made_next c.self.inside.records.store l c.match-prev.prev c.match-prev.next (rw at.0 at.1) (rw at.0 c.requires.prev) c.fill-number.result c.fill-number.ensures.fresh c.args.item c.fill-number.new.self.store c.fill-number.ensures.now c.fill-number.ensures.others)

pub invariant_of-self : goal.invariant_of-self
invariant_of-self g c =
    let l = seen c.self.inside c.self.view_is c.self.invariant in
    let at : (c.match-prev.prev ≡ c.args.prev) × (c.match-prev.next ≡ next_number c.args.prev c.args.self.now.pairs) = elim c.match-prev.branch [
      | in-None w ↦ (cc, rw (w.next-is, w.in-None.is) l.starts)
      | in-Some w ↦ (cc, rw (w.next-is, w.in-Some.is) w.next_of-next.ensures)
    ] in
    all_linked c.set_prev.new.records.store (store_inserted c.self.inside.records.store l c.match-prev.prev c.match-prev.next (rw at.0 at.1) (rw at.0 c.requires.prev) c.fill-number.result c.fill-number.ensures.fresh c.args.item c.fill-number.new.self.store c.fill-number.ensures.now c.fill-number.ensures.others c.fill-number.ensures.used c.set_next.new.records.store c.set_prev.new.records.store c.set_next.ensures.leaves c.set_prev.ensures.leaves c.set_next.ensures.used c.set_prev.ensures.used _ _ c.set_next.ensures.first c.set_prev.ensures.last)

pub returns-clause-placed : goal.returns-clause-placed
returns-clause-placed g c =
    let l = seen c.self.inside c.self.view_is c.self.invariant in
    let at : (c.match-prev.prev ≡ c.args.prev) × (c.match-prev.next ≡ next_number c.args.prev c.args.self.now.pairs) = elim c.match-prev.branch [
      | in-None w ↦ (cc, rw (w.next-is, w.in-None.is) l.starts)
      | in-Some w ↦ (cc, rw (w.next-is, w.in-Some.is) w.next_of-next.ensures)
    ] in
    rw (← at.0) (pairs_are c.set_prev.new.records.store (store_inserted c.self.inside.records.store l c.match-prev.prev c.match-prev.next (rw at.0 at.1) (rw at.0 c.requires.prev) c.fill-number.result c.fill-number.ensures.fresh c.args.item c.fill-number.new.self.store c.fill-number.ensures.now c.fill-number.ensures.others c.fill-number.ensures.used c.set_next.new.records.store c.set_prev.new.records.store c.set_next.ensures.leaves c.set_prev.ensures.leaves c.set_next.ensures.used c.set_prev.ensures.used _ _ c.set_next.ensures.first c.set_prev.ensures.last))
