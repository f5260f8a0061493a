use Rattle.art_rows.proofs.LinksLemmas.{seen, all_linked, pairs_are, store_same}
use Rattle.art_rows.proofs.chain.Chain.add_slot.Goals as goal

pub invariant_of-self : goal.invariant_of-self
invariant_of-self g c =
    let l = seen c.self.inside c.self.view_is c.self.invariant in
    all_linked c.add_spare.new.self.store (store_same c.self.inside.records.store l c.add_spare.new.self.store c.add_spare.ensures.same c.add_spare.ensures.used)

pub returns-clause-pairs : goal.returns-clause-pairs
returns-clause-pairs g c =
    let l = seen c.self.inside c.self.view_is c.self.invariant in
    pairs_are c.add_spare.new.self.store (store_same c.self.inside.records.store l c.add_spare.new.self.store c.add_spare.ensures.same c.add_spare.ensures.used)
