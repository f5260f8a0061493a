use Rattle.std.proofs.Common.{refl}
use Rattle.art_slots.specs.Store.{with_record}
use Rattle.art_rows.proofs.FilingLemmas.{seen, all_filed, pairs_are}
use Rattle.art_rows.proofs.FilingChanges.{files_changed_at, cells_changed}
use Rattle.art_rows.proofs.leaves.Leaves.exchange.Goals as goal

pub invariant_of-self : goal.invariant_of-self
invariant_of-self g c =
    let f = seen c.self.inside c.self.view_is c.self.invariant in
    (all_filed (with_record c.self.inside.records c.number.result (record { key = c.replace-old_key.new.dest; value = c.replace-old_value.new.dest })) (files_changed_at c.self.inside.records f c.args.id c.number.result c.number.ensures.value c.get_mut-leaf.result.now c.get_mut-leaf.ensures.value c.args.key c.args.value _ (rw (c.replace-old_key.ensures.after, c.replace-old_value.ensures.after) refl)), cells_changed c.self.inside.records c.self.inside.rows c.number.result _ c.self.invariant.1)

pub returns-clause-pairs : goal.returns-clause-pairs
returns-clause-pairs g c =
    let f = seen c.self.inside c.self.view_is c.self.invariant in
    pairs_are (with_record c.self.inside.records c.number.result (record { key = c.replace-old_key.new.dest; value = c.replace-old_value.new.dest })) (files_changed_at c.self.inside.records f c.args.id c.number.result c.number.ensures.value c.get_mut-leaf.result.now c.get_mut-leaf.ensures.value c.args.key c.args.value _ (rw (c.replace-old_key.ensures.after, c.replace-old_value.ensures.after) refl))
