use Rattle.std.proofs.Common.{◌≡◌, ◌<◌, ap, ◌∙◌, sym, subst, map, arith}
use Rattle.slab.specs.Slab.{slab_len}
use Rattle.art_slots.specs.Chain.{used_of, room_of}
use Rattle.art_slots.specs.Slots.{Slots}
use Rattle.art_slots.specs.Store.{slot_at}
use Rattle.art_slots.proofs.StoreSlots.{spares-add, same-add, count-same, room-some}
use Rattle.art_slots.proofs.slots.Slots.add_spare.Goals as goal

pub invariant_of-self : goal.invariant_of-self
invariant_of-self g c =
    let i = c.self.inside in
    let r = c.insert_reserved-id.ensures in
    let room : room_of (slab_len i.slab) i.slab.capacity ≡ c.args.self.now.room = ap (λ (s : Slots g.row.T.Denot). s.room) c.self.view_is in
    let k = room-some (slab_len i.slab) i.slab.capacity (subst (λ n. 0 < n) (sym room) c.requires) in
    spares-add i.slab.slots c.insert_reserved-id.new.self.slots i.free i.spare c.insert_reserved-id.result r.was_vacant r.updates.changed r.updates.others r.len
    (omega (arith, r.len))
    (omega (arith, r.key_in_range, r.capacity))
    c.self.invariant c.above-self-inside.result c.above-self-inside.ensures

pub returns-clause-same : goal.returns-clause-same
returns-clause-same g c j =
    let i = c.self.inside in
    let r = c.insert_reserved-id.ensures in
    same-add i.slab.slots c.insert_reserved-id.new.self.slots i.free i.spare c.insert_reserved-id.result r.was_vacant r.updates.changed r.updates.others j
    ∙ ap (λ (s : Slots g.row.T.Denot). slot_at s.store j) c.self.view_is

pub returns-clause-used : goal.returns-clause-used
returns-clause-used g c = count-same c.args.self.now.store.slots (map used_of c.insert_reserved-id.new.self.slots) (returns-clause-same g c)
