use Rattle.std.proofs.Common.{sym, ◌∙◌}
use Rattle.art_slots.proofs.Numbers.{length-numbers}
use Rattle.art_slots.proofs.words.Words.len.Goals as goal

pub returns-clause-len : goal.returns-clause-len
returns-clause-len c = rw (← c.self.view_is) (c.len.ensures.len ∙ sym (length-numbers c.self.inside.low c.self.inside.high))
