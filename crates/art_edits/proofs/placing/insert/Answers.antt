use Rattle.std.proofs.Common.{◌∙◌, lit<, ap, sym, Ok, Some}
use Rattle.art_edits.proofs.Placed.Adding.{added_new, added_conflicts, stored_has, stored_written}
use Rattle.art_edits.proofs.placing.insert.Goals as goal

pub returns-in-Ok-Placed-clause-put : goal.returns-in-Ok-Placed-clause-put
returns-in-Ok-Placed-clause-put g c = added_new _ _ _ _ c.add.ensures.added (c.in-Ok-Placed.is ∙ ap Ok c.in-Ok-Placed.field-0-is)

pub value_mut-requires : goal.value_mut-requires
value_mut-requires g c = (lit< tt, stored_has _ _ _ _ c.add.ensures.added (c.in-Ok-Stored.is ∙ ap Ok c.in-Ok-Stored.field-0-is) c.law.ensures.content c.law.ensures.distinct)

pub returns-in-Ok-Stored-clause-put : goal.returns-in-Ok-Stored-clause-put
returns-in-Ok-Stored-clause-put g c = stored_written _ _ _ _ c.add.ensures.added (c.in-Ok-Stored.is ∙ ap Ok c.in-Ok-Stored.field-0-is) c.law.ensures.content c.law.ensures.distinct (c.value_mut.ensures.value ∙ ap Some (sym c.replace.ensures.value)) c.replace.ensures.after

pub returns-in-Ok-Conflict-clause-put : goal.returns-in-Ok-Conflict-clause-put
returns-in-Ok-Conflict-clause-put g c = added_conflicts g.K.AsBytes.bytes c.args.tree.now c.add.new.self (c.args.key, c.args.value) c.add.ensures.added (c.in-Ok-Conflict.is ∙ ap Ok c.in-Ok-Conflict.field-0-is)
