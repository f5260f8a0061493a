use Rattle.std.proofs.Common.{ap, ◌∙◌, sym, Some, arith}
use Rattle.art_slots.specs.declared.slots.Slot.TheVariants.{Used, Spare}
use Rattle.art_slots.proofs.StoreSlots.{spares-take, counts-set, now-set, others-set}
use Rattle.art_slots.proofs.slots.Slots.take.Goals as goal

pub invariant_of-self : goal.invariant_of-self
invariant_of-self g c =
    let i = c.self.inside in
    let found = c.index_mut.ensures.value ∙ ap Some (sym c.replace.ensures.value ∙ c.in-Used.is) in
    rw c.replace.ensures.after (spares-take i.slab.slots i.free i.spare c.args.id c.in-Used.record c.self.invariant found)

pub returns-clause-gone : goal.returns-clause-gone
returns-clause-gone g c =
    let found = c.index_mut.ensures.value ∙ ap Some (sym c.replace.ensures.value ∙ c.in-Used.is) in
    rw c.replace.ensures.after (now-set c.self.inside.slab.slots c.args.id (Used c.in-Used.record) (Spare c.self.inside.free) found)

pub returns-clause-others : goal.returns-clause-others
returns-clause-others g c =
    let found = c.index_mut.ensures.value ∙ ap Some (sym c.replace.ensures.value ∙ c.in-Used.is) in
    rw (← c.self.view_is) (others-set c.self.inside.slab.slots c.args.id (Used c.in-Used.record) c.replace.new.dest found)

pub returns-clause-used : goal.returns-clause-used
returns-clause-used g c =
    let found = c.index_mut.ensures.value ∙ ap Some (sym c.replace.ensures.value ∙ c.in-Used.is) in
    let k = (counts-set c.self.inside.slab.slots c.args.id (Used c.in-Used.record) (Spare c.self.inside.free) found).0 in
    rw (← c.self.view_is, c.replace.ensures.after) (omega arith)
