use Rattle.std.proofs.Common.{ap, sym, ◌∙◌, ◌*◌}
use Rattle.art_slots.proofs.Blocks.{length-joined}
use Rattle.art_slots.proofs.halves.Halves.len.Goals as goal

pub returns-clause-len : goal.returns-clause-len
returns-clause-len c = rw (← c.self.view_is) (ap (λ n. n * 64) c.len.ensures ∙ sym (length-joined c.self.inside.blocks.items c.self.invariant.0))
