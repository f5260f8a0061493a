use Rattle.std.proofs.Common.{◌≡◌, [], ◌∷◌, ◌++◌, length, ◌∙◌, arith}
use Rattle.art_slots.proofs.Packed.{vals, length-vals, holds-push, holds-vals, vals-of}
use Rattle.art_slots.specs.Dense.{Holds}
use Rattle.art_slots.proofs.dense.Dense.push_reserved.Goals as goal

pub insert_reserved-requires : goal.insert_reserved-requires
insert_reserved-requires g c =
    let r = rw (← c.self.view_is) at c.requires.room in
    omega (arith, r, length-vals c.self.inside.slab.slots)

holds : (g : _) → (c : goal.After-insert_reserved g) → Holds c.insert_reserved.new.self.slots (vals c.self.inside.slab.slots ++ c.args.value ∷ [])
holds g c =
    let xs = c.self.inside.slab.slots in
    let r = c.insert_reserved.ensures in
    let key : c.insert_reserved.result ≡ length (vals xs) = r.key ∙ rw (← c.self.view_is) at c.requires.next in
    holds-push xs (vals xs) c.self.invariant c.insert_reserved.new.self.slots c.args.value (rw key at r.updates.changed) (rw key at r.updates.others)

pub invariant_of-self : goal.invariant_of-self
invariant_of-self g c = holds-vals _ _ (holds g c)

pub returns-clause-items : goal.returns-clause-items
returns-clause-items g c = rw (← c.self.view_is) (vals-of _ _ (holds g c))
