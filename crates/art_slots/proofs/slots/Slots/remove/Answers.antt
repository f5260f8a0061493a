use Rattle.std.proofs.Common.{arith}
use Rattle.art_slots.specs.declared.slots.Slot.TheVariants.{Used, Spare}
use Rattle.art_slots.proofs.StoreSlots.{used_at, spares-take, counts-set, now-set, others-set}
use Rattle.art_slots.proofs.slots.Slots.remove.Goals as goal

pub invariant_of-self : goal.invariant_of-self
invariant_of-self g c =
    let i = c.self.inside in
    let u = used_at i.slab.slots c.args.id (rw (← c.self.view_is) at c.requires) in
    spares-take i.slab.slots i.free i.spare c.args.id u.0 c.self.invariant u.1

pub returns-clause-gone : goal.returns-clause-gone
returns-clause-gone g c =
    let i = c.self.inside in
    let u = used_at i.slab.slots c.args.id (rw (← c.self.view_is) at c.requires) in
    now-set i.slab.slots c.args.id (Used u.0) (Spare i.free) u.1

pub returns-clause-others : goal.returns-clause-others
returns-clause-others g c =
    let i = c.self.inside in
    let u = used_at i.slab.slots c.args.id (rw (← c.self.view_is) at c.requires) in
    rw (← c.self.view_is) (others-set i.slab.slots c.args.id (Used u.0) (Spare i.free) u.1)

pub returns-clause-used : goal.returns-clause-used
returns-clause-used g c =
    let i = c.self.inside in
    let u = used_at i.slab.slots c.args.id (rw (← c.self.view_is) at c.requires) in
    let k = (counts-set i.slab.slots c.args.id (Used u.0) (Spare i.free) u.1).0 in
    rw (← c.self.view_is) (omega arith)
