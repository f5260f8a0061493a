use Rattle.std.proofs.Common.{◌∙◌, sym, ap, Ok}
use Rattle.std.proofs.lemmas.Bool.{false≢true}
use Rattle.art_edits.proofs.Placed.Adding.{added_pair, added_absent, stored_same, added_stored}
use Rattle.art_edits.proofs.placing.insert_absent_reserved.Goals as goal

pub returns-in-Placed-clause-added : goal.returns-in-Placed-clause-added
returns-in-Placed-clause-added g c = λ absent. added_pair _ _ _ _ c.add_disjoint_reserved.ensures.added (ap Ok c.in-Placed.is)

pub returns-in-Placed-clause-stays : goal.returns-in-Placed-clause-stays
returns-in-Placed-clause-stays g c = λ there. absurd (false≢true (sym (added_absent g.K.AsBytes.bytes c.args.tree.now c.add_disjoint_reserved.new.tree (c.args.key, c.args.value) c.add_disjoint_reserved.ensures.added (ap Ok c.in-Placed.is)) ∙ there))

pub returns-in-Stored-clause-added : goal.returns-in-Stored-clause-added
returns-in-Stored-clause-added g c = λ absent. absurd (false≢true (sym absent ∙ added_stored g.K.AsBytes.bytes c.args.tree.now c.add_disjoint_reserved.new.tree (c.args.key, c.args.value) c.add_disjoint_reserved.ensures.added (ap Ok c.in-Stored.is)))

pub returns-in-Stored-clause-stays : goal.returns-in-Stored-clause-stays
returns-in-Stored-clause-stays g c = λ there. stored_same g.K.AsBytes.bytes c.args.tree.now c.add_disjoint_reserved.new.tree (c.args.key, c.args.value) c.add_disjoint_reserved.ensures.added (ap Ok c.in-Stored.is)
