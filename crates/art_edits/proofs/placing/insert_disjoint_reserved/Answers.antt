use Rattle.std.proofs.Common.{◌∙◌, lit<, ap, sym, Ok, Some}
use Rattle.blart_keys.specs.Stored.{pair_at}
use Rattle.art_edits.proofs.Placed.Adding.{stored_has, stored_written, added_new}
use Rattle.art_edits.proofs.placing.insert_disjoint_reserved.Goals as goal

pub value_mut-requires : goal.value_mut-requires
value_mut-requires g c = (lit< tt, stored_has _ _ _ _ c.add_disjoint_reserved.ensures.added (ap Ok c.in-Stored.is) c.add_disjoint_reserved.ensures.content c.add_disjoint_reserved.ensures.distinct)

pub returns-in-Placed-clause-old : goal.returns-in-Placed-clause-old
unfolding pair_at
returns-in-Placed-clause-old g c = (added_new g.K.AsBytes.bytes c.args.tree.now c.add_disjoint_reserved.new.tree (c.args.key, c.args.value) c.add_disjoint_reserved.ensures.added (ap Ok c.in-Placed.is)).2

pub returns-in-Placed-clause-put : goal.returns-in-Placed-clause-put
returns-in-Placed-clause-put g c = (added_new _ _ _ _ c.add_disjoint_reserved.ensures.added (ap Ok c.in-Placed.is)).1

pub returns-in-Stored-clause-old : goal.returns-in-Stored-clause-old
unfolding pair_at
returns-in-Stored-clause-old g c = (stored_written _ _ _ _ c.add_disjoint_reserved.ensures.added (ap Ok c.in-Stored.is) c.add_disjoint_reserved.ensures.content c.add_disjoint_reserved.ensures.distinct (c.value_mut.ensures.value ∙ ap Some (sym c.replace.ensures.value)) c.replace.ensures.after).2

pub returns-in-Stored-clause-put : goal.returns-in-Stored-clause-put
returns-in-Stored-clause-put g c = (stored_written _ _ _ _ c.add_disjoint_reserved.ensures.added (ap Ok c.in-Stored.is) c.add_disjoint_reserved.ensures.content c.add_disjoint_reserved.ensures.distinct (c.value_mut.ensures.value ∙ ap Some (sym c.replace.ensures.value)) c.replace.ensures.after).1
