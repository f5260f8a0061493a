use Rattle.art_slots.proofs.Packed.{vals, holds-copies, holds-vals, vals-of}
use Rattle.art_slots.proofs.dense.Dense.clone.Goals as goal

pub invariant_of-result : goal.invariant_of-result
invariant_of-result g c =
    let xs = c.self.inside.slab.slots in
    let ys = c.in_ok-clone.field-0.slots in
    let r = holds-copies g.T.Clone.is_clone xs ys (vals xs) c.in_ok-clone.ensures.cases.slots c.self.invariant in
    holds-vals ys r.0 r.1

pub returns : goal.returns
returns g c =
    let xs = c.self.inside.slab.slots in
    let ys = c.in_ok-clone.field-0.slots in
    let r = holds-copies g.T.Clone.is_clone xs ys (vals xs) c.in_ok-clone.ensures.cases.slots c.self.invariant in
    rw (← c.self.view_is, vals-of ys r.0 r.1) r.2
