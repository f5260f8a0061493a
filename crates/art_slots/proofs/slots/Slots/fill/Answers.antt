use Rattle.std.proofs.Common.{◌∙◌, ap, Some, arith}
use Rattle.art_slots.specs.declared.slots.Slot.TheVariants.{Used, Spare}
use Rattle.art_slots.proofs.StoreSlots.{spares-fill, counts-set, now-set, others-set}
use Rattle.art_slots.proofs.slots.Slots.fill.Goals as goal

pub invariant_of-self : goal.invariant_of-self
invariant_of-self g c =
    let i = c.self.inside in
    spares-fill i.slab.slots i.free i.spare c.in-Some.id c.in-Spare.next c.args.fresh c.self.invariant c.in-Some.is (c.index.ensures ∙ ap Some c.in-Spare.is)

pub returns-clause-now : goal.returns-clause-now
returns-clause-now g c = now-set c.self.inside.slab.slots c.in-Some.id (Spare c.in-Spare.next) (Used c.args.fresh) (c.index.ensures ∙ ap Some c.in-Spare.is)

pub returns-clause-others : goal.returns-clause-others
returns-clause-others g c = rw (← c.self.view_is) (others-set c.self.inside.slab.slots c.in-Some.id (Spare c.in-Spare.next) (Used c.args.fresh) (c.index.ensures ∙ ap Some c.in-Spare.is))

pub returns-clause-used : goal.returns-clause-used
returns-clause-used g c =
    let k = (counts-set c.self.inside.slab.slots c.in-Some.id (Spare c.in-Spare.next) (Used c.args.fresh) (c.index.ensures ∙ ap Some c.in-Spare.is)).0 in
    rw (← c.self.view_is) (omega arith)

pub returns-clause-small : goal.returns-clause-small
returns-clause-small g c =
    let b = c.self.invariant.numbered c.in-Some.id (Spare c.in-Spare.next) (c.index.ensures ∙ ap Some c.in-Spare.is) in
    let t = c.self.invariant.small in
    omega arith

pub returns-clause-below : goal.returns-clause-below
returns-clause-below g c = rw (← c.self.view_is) (c.self.invariant.numbered c.in-Some.id (Spare c.in-Spare.next) (c.index.ensures ∙ ap Some c.in-Spare.is))
