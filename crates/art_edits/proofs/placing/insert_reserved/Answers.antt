use Rattle.std.proofs.Common.{◌∙◌, lit<, ap, sym, Ok, Some}
use Rattle.art_edits.proofs.Placed.Adding.{added_new, added_conflicts, stored_has, stored_written}
use Rattle.art_edits.proofs.placing.insert_reserved.Goals as goal

pub returns-in-Placed-clause-put : goal.returns-in-Placed-clause-put
returns-in-Placed-clause-put g c = added_new _ _ _ _ c.add_within.ensures.added (ap Ok c.in-Placed.is)

pub value_mut-requires : goal.value_mut-requires
value_mut-requires g c = (lit< tt, stored_has _ _ _ _ c.add_within.ensures.added (ap Ok c.in-Stored.is) c.law.ensures.content c.law.ensures.distinct)

pub returns-in-Stored-clause-put : goal.returns-in-Stored-clause-put
returns-in-Stored-clause-put g c = stored_written _ _ _ _ c.add_within.ensures.added (ap Ok c.in-Stored.is) c.law.ensures.content c.law.ensures.distinct (c.value_mut.ensures.value ∙ ap Some (sym c.replace.ensures.value)) c.replace.ensures.after

pub returns-in-Conflict-clause-put : goal.returns-in-Conflict-clause-put
returns-in-Conflict-clause-put g c = added_conflicts g.K.AsBytes.bytes c.args.tree.now c.add_within.new.self (c.args.key, c.args.value) c.add_within.ensures.added (ap Ok c.in-Conflict.is)
