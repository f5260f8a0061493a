use Rattle.std.proofs.Common.{◌≡◌, ◌<◌, ◌∙◌, length, get_or, Some, refl, sym}
use Rattle.art_slots.proofs.Packed.{vals, full_at, held-at, holds-set, holds-vals, vals-of}
use Rattle.art_slots.proofs.dense.Dense.get_mut.Goals as goal

pub index_mut-requires : goal.index_mut-requires
index_mut-requires g c =
    let xs = c.self.inside.slab.slots in
    full_at xs (vals xs) c.self.invariant c.args.key (rw (← c.self.view_is) at c.requires)

pub invariant_of-self-lent : goal.invariant_of-self-lent
invariant_of-self-lent g c w =
    let xs = c.self.inside.slab.slots in
    let l : c.args.key < length (vals xs) = rw (← c.self.view_is) at c.requires in
    holds-vals _ _ (holds-set xs (vals xs) c.self.invariant c.args.key w l)

pub returns : goal.returns
returns g c =
    let xs = c.self.inside.slab.slots in
    let l : c.args.key < length (vals xs) = rw (← c.self.view_is) at c.requires in
    let v = c.index_mut.result.now in
    let e : Some v ≡ Some (get_or (vals xs) c.args.key v) = sym c.index_mut.ensures.value ∙ held-at xs (vals xs) c.self.invariant c.args.key v l in (
      (refl, λ w. rw (← c.self.view_is, vals-of _ _ (holds-set xs (vals xs) c.self.invariant c.args.key w l)) refl),
      record {
        writes_back = tt;
        value = rw (← c.self.view_is) cc;
      },
    )
