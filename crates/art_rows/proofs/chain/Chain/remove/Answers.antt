use Rattle.art_slots.specs.Store.{slot_at}
use Rattle.art_rows.proofs.LinksLemmas.{seen, all_linked, pairs_are, still_linked, taken_before, taken_after, store_removed}
use Rattle.art_rows.proofs.chain.Chain.remove.Goals as goal

pub set_next-requires : goal.set_next-requires
set_next-requires g c =
    let l = seen c.self.inside c.self.view_is c.self.invariant in
    taken_before c.self.inside.records.store l c.args.id c.requires c.take-link.result c.take-link.ensures.value c.take-link.new.self.store c.take-link.ensures.others

pub set_prev-requires : goal.set_prev-requires
set_prev-requires g c =
    let l = seen c.self.inside c.self.view_is c.self.invariant in
    still_linked c.take-link.result.next (slot_at c.take-link.new.self.store) (slot_at c.set_next.new.records.store) _ _ c.set_next.ensures.leaves (taken_after c.self.inside.records.store l c.args.id c.requires c.take-link.result c.take-link.ensures.value c.take-link.new.self.store c.take-link.ensures.others)

pub invariant_of-self : goal.invariant_of-self
invariant_of-self g c =
    let l = seen c.self.inside c.self.view_is c.self.invariant in
    all_linked c.set_prev.new.records.store (store_removed c.self.inside.records.store l c.args.id c.requires c.take-link.result c.take-link.ensures.value c.take-link.new.self.store c.take-link.ensures.others c.take-link.ensures.gone c.take-link.ensures.used c.set_next.new.records.store c.set_prev.new.records.store c.set_next.ensures.leaves c.set_prev.ensures.leaves c.set_next.ensures.used c.set_prev.ensures.used _ _ c.set_next.ensures.first c.set_prev.ensures.last)

pub returns-clause-rest : goal.returns-clause-rest
returns-clause-rest g c =
    let l = seen c.self.inside c.self.view_is c.self.invariant in
    pairs_are c.set_prev.new.records.store (store_removed c.self.inside.records.store l c.args.id c.requires c.take-link.result c.take-link.ensures.value c.take-link.new.self.store c.take-link.ensures.others c.take-link.ensures.gone c.take-link.ensures.used c.set_next.new.records.store c.set_prev.new.records.store c.set_next.ensures.leaves c.set_prev.ensures.leaves c.set_next.ensures.used c.set_prev.ensures.used _ _ c.set_next.ensures.first c.set_prev.ensures.last)
