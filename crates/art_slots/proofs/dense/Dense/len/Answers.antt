use Rattle.std.proofs.Common.{◌∙◌, sym}
use Rattle.art_slots.proofs.Packed.{length-vals}
use Rattle.art_slots.proofs.dense.Dense.len.Goals as goal

pub returns : goal.returns
returns g c = rw (← c.self.view_is) (c.len.ensures ∙ sym (length-vals c.self.inside.slab.slots))
