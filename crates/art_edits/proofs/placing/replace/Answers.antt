use Rattle.std.proofs.Common.{◌∙◌, lit<, ap, Ok}
use Rattle.art_edits.proofs.Placed.Adding.{added_conflicts, stored_has, stored_takes, stored_exchanged}
use Rattle.art_edits.proofs.placing.replace.Goals as goal

pub swap-requires : goal.swap-requires
swap-requires g c =
    let is = c.in-Ok-Stored.is ∙ ap Ok c.in-Ok-Stored.field-0-is in
    let d = c.law.ensures in
    (lit< tt, (stored_has _ _ _ _ c.add.ensures.added is d.content d.distinct, stored_takes _ _ _ _ c.add.ensures.added is d.content d.distinct))

pub returns-in-Ok-Stored-clause-put : goal.returns-in-Ok-Stored-clause-put
returns-in-Ok-Stored-clause-put g c = stored_exchanged _ _ _ _ c.add.ensures.added (c.in-Ok-Stored.is ∙ ap Ok c.in-Ok-Stored.field-0-is) c.law.ensures.content c.law.ensures.distinct c.swap.ensures.value c.swap.ensures.pairs

pub returns-in-Ok-Conflict-clause-put : goal.returns-in-Ok-Conflict-clause-put
returns-in-Ok-Conflict-clause-put g c = added_conflicts g.K.AsBytes.bytes c.args.tree.now c.add.new.self (c.args.key, c.args.value) c.add.ensures.added (c.in-Ok-Conflict.is ∙ ap Ok c.in-Ok-Conflict.field-0-is)
