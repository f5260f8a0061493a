use Rattle.std.proofs.Common.{◌∙◌, lit<, ap, sym, Ok, Some}
use Rattle.art_edits.proofs.Placed.Adding.{stored_has, stored_written, added_new}
use Rattle.art_edits.proofs.placing.insert_disjoint.Goals as goal

pub value_mut-requires : goal.value_mut-requires
value_mut-requires g c = (lit< tt, stored_has _ _ _ _ c.add_disjoint.ensures.added (c.in-Ok-Stored.is ∙ ap Ok c.in-Ok-Stored.field-0-is) c.add_disjoint.ensures.content c.add_disjoint.ensures.distinct)

pub returns-in-Ok-Placed-clause-put : goal.returns-in-Ok-Placed-clause-put
returns-in-Ok-Placed-clause-put g c = let p = added_new _ _ _ _ c.add_disjoint.ensures.added (c.in-Ok-Placed.is ∙ ap Ok c.in-Ok-Placed.field-0-is) in (p.1, p.2)

pub returns-in-Ok-Stored-clause-put : goal.returns-in-Ok-Stored-clause-put
returns-in-Ok-Stored-clause-put g c =
    let p = stored_written _ _ _ _ c.add_disjoint.ensures.added (c.in-Ok-Stored.is ∙ ap Ok c.in-Ok-Stored.field-0-is) c.add_disjoint.ensures.content c.add_disjoint.ensures.distinct (c.value_mut.ensures.value ∙ ap Some (sym c.replace.ensures.value)) c.replace.ensures.after in
    (p.1, p.2)
