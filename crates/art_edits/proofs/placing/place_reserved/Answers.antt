use Rattle.std.proofs.Common.{◌∙◌, ap, sym, Ok}
use Rattle.std.proofs.lemmas.Bool.{false≢true}
use Rattle.art_edits.proofs.Placed.Adding.{added_conflicts, added_stored}
use Rattle.art_edits.proofs.placing.place_reserved.Goals as goal

pub unreachable-requires : goal.unreachable-requires
unreachable-requires g c = false≢true (sym c.requires.absent ∙ added_stored g.K.AsBytes.bytes c.args.tree.now c.add_within.new.self (c.args.key, c.args.value) c.add_within.ensures.added (ap Ok c.in-Stored.is))

pub unreachable-requires-in-Conflict : goal.unreachable-requires-in-Conflict
unreachable-requires-in-Conflict g c = false≢true (sym c.requires.free ∙ (added_conflicts g.K.AsBytes.bytes c.args.tree.now c.add_within.new.self (c.args.key, c.args.value) c.add_within.ensures.added (ap Ok c.in-Conflict.is)).0)
