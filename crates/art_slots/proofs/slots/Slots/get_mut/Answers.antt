use Rattle.std.proofs.Common.{refl, ap, ◌∙◌}
use Rattle.std.proofs.lemmas.List.{map-set}
use Rattle.art_slots.specs.Chain.{used_of}
use Rattle.art_slots.specs.declared.slots.Slot.TheVariants.{Used}
use Rattle.art_slots.proofs.StoreSlots.{at-map, used_at, spares-rewrite, slots-rewrite}
use Rattle.art_slots.proofs.slots.Slots.get_mut.Goals as goal

pub invariant_of-self-lent : goal.invariant_of-self-lent
invariant_of-self-lent g c w =
    let xs = c.self.inside.slab.slots in
    let u = used_at xs c.args.id (rw (← c.self.view_is) at c.requires) in
    spares-rewrite xs c.self.inside.free c.self.inside.spare c.args.id u.0 w c.self.invariant u.1

pub returns : goal.returns
returns g c = (
  (refl, λ w. rw (← c.self.view_is, map-set, slots-rewrite c.self.inside.slab.slots c.args.id w (rw (← c.self.view_is) at c.requires))),
  record {
    writes_back = tt;
    value = rw (← c.self.view_is) (at-map c.self.inside.slab.slots c.args.id ∙ ap used_of c.index_mut.ensures.value ∙ c.record_mut.ensures.value);
    below = (let u = used_at c.self.inside.slab.slots c.args.id (rw (← c.self.view_is) at c.requires) in rw (← c.self.view_is) (c.self.invariant.numbered c.args.id (Used u.0) u.1));
  },
)
