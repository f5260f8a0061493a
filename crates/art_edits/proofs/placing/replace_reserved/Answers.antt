use Rattle.std.proofs.Common.{lit<, ap, Ok}
use Rattle.art_edits.proofs.Placed.Adding.{added_pair, stored_has, stored_takes, stored_exchanged}
use Rattle.art_edits.proofs.placing.replace_reserved.Goals as goal

pub swap-requires : goal.swap-requires
swap-requires g c =
    let d = c.add_disjoint_reserved.ensures in
    (lit< tt, (stored_has _ _ _ _ d.added (ap Ok c.in-Stored.is) d.content d.distinct, stored_takes _ _ _ _ d.added (ap Ok c.in-Stored.is) d.content d.distinct))

pub returns-in-Placed-clause-put : goal.returns-in-Placed-clause-put
returns-in-Placed-clause-put g c = added_pair _ _ _ _ c.add_disjoint_reserved.ensures.added (ap Ok c.in-Placed.is)

pub returns-in-Stored-clause-put : goal.returns-in-Stored-clause-put
returns-in-Stored-clause-put g c = (stored_exchanged _ _ _ _ c.add_disjoint_reserved.ensures.added (ap Ok c.in-Stored.is) c.add_disjoint_reserved.ensures.content c.add_disjoint_reserved.ensures.distinct c.swap.ensures.value c.swap.ensures.pairs).1
