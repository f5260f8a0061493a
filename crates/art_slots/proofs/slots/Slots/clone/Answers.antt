use Rattle.std.proofs.Common.{refl, map}
use Rattle.art_slots.proofs.slots.Slots.clone.Goals as goal
use Rattle.art_slots.specs.Chain.{used_of}
use Rattle.art_slots.proofs.Copies.{spares-copies, count-copies, at-copy, records-copy}

pub invariant_of-result : goal.invariant_of-result
invariant_of-result g c = spares-copies g.T.Clone.is_clone c.self.inside.slab.slots c.in_ok-clone.field-0.slots c.self.inside.free c.self.inside.spare c.in_ok-clone.ensures.cases.slots c.self.invariant

pub returns : goal.returns
returns g c =
    let copies = records-copy g.T.Clone.is_clone c.self.inside.slab.slots c.in_ok-clone.field-0.slots c.in_ok-clone.ensures.cases.slots in
    record {
      cloned = λ j. rw (← c.self.view_is) (at-copy g.T.Clone.is_clone (map used_of c.self.inside.slab.slots) (map used_of c.in_ok-clone.field-0.slots) copies j);
      used = rw (← c.self.view_is) (count-copies g.T.Clone.is_clone (map used_of c.self.inside.slab.slots) (map used_of c.in_ok-clone.field-0.slots) copies);
      spare = rw (← c.self.view_is) refl;
      top = rw (← c.self.view_is) refl;
    }
