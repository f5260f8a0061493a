use Rattle.std.proofs.Common.{refl, sym, ◌∙◌, ◌≡◌, length}
use Rattle.art_slots.proofs.Packed.{vals, length-vals}
use Rattle.art_slots.proofs.dense.Dense.has_next.Goals as goal

pub returns : goal.returns
returns g c =
    let e : c.len.result ≡ length (vals c.self.inside.slab.slots) = c.len.ensures ∙ sym (length-vals c.self.inside.slab.slots) in
    rw (← c.self.view_is, c.vacant_key.ensures.value, e) refl
