use Rattle.std.proofs.Common.{◌≡◌, ◌<◌, ap, sym, subst, arith}
use Rattle.slab.specs.Slab.{slab_len}
use Rattle.art_slots.specs.Chain.{room_of}
use Rattle.art_slots.specs.Slots.{Slots}
use Rattle.art_slots.proofs.StoreSlots.{spares-put, others-put, used-put, room-some}
use Rattle.art_slots.proofs.slots.Slots.put.Goals as goal

pub invariant_of-self : goal.invariant_of-self
invariant_of-self g c =
    let i = c.self.inside in
    let r = c.insert_reserved-id.ensures in
    let room : room_of (slab_len i.slab) i.slab.capacity ≡ c.args.self.now.room = ap (λ (s : Slots g.row.T.Denot). s.room) c.self.view_is in
    let k = room-some (slab_len i.slab) i.slab.capacity (subst (λ n. 0 < n) (sym room) c.requires) in
    spares-put i.slab.slots c.insert_reserved-id.new.self.slots c.insert_reserved-id.result c.args.fresh r.was_vacant r.updates.changed r.updates.others i.free i.spare r.len
    (omega (arith, r.len))
    (omega (arith, r.key_in_range, r.capacity))
    c.self.invariant c.above-self-inside.result c.above-self-inside.ensures

pub returns-clause-others : goal.returns-clause-others
returns-clause-others g c =
    let r = c.insert_reserved-id.ensures in
    rw (← c.self.view_is) (others-put c.self.inside.slab.slots c.insert_reserved-id.new.self.slots c.insert_reserved-id.result c.args.fresh r.was_vacant r.updates.changed r.updates.others)

pub returns-clause-used : goal.returns-clause-used
returns-clause-used g c =
    let r = c.insert_reserved-id.ensures in
    rw (← c.self.view_is) (used-put c.self.inside.slab.slots c.insert_reserved-id.new.self.slots c.insert_reserved-id.result c.args.fresh r.was_vacant r.updates.changed r.updates.others)
