use Rattle.art_slots.proofs.store.Store.clone.Goals as goal

pub returns-clause-used : goal.returns-clause-used
returns-clause-used g c = rw (← c.self.view_is) c.in_ok-clone.ensures.used
