use Rattle.std.proofs.Common.{◌≡◌, ap, subst, ◌∙◌, None, arith}
use Rattle.art_slots.specs.Store.{slot_at, used_count}
use Rattle.art_rows.proofs.FilingLemmas.{seen, all_filed, pairs_are, has_record, has_row_at, if_row_at}
use Rattle.art_rows.proofs.Rooms.{taken_room}
use Rattle.art_rows.proofs.FilingChanges.{files_removed, taken_out}
use Rattle.art_rows.proofs.leaves.Leaves.remove_at.Goals as goal

pub take-leaf-requires : goal.take-leaf-requires
take-leaf-requires g c =
    let f = seen c.self.inside c.self.view_is c.self.invariant in
    rw c.number.ensures.value (has_record f c.args.id c.requires.has)

pub remove-requires-clause-has : goal.remove-requires-clause-has
remove-requires-clause-has g c =
    let at = rw (← ap (λ t. t.rows) c.self.view_is) at c.requires.at in
    has_row_at (seen c.self.inside c.self.view_is c.self.invariant) _ c.args.position at

pub remove-requires-clause-within : goal.remove-requires-clause-within
remove-requires-clause-within g c =
    let at = rw (← ap (λ t. t.rows) c.self.view_is) at c.requires.at in
    if_row_at (seen c.self.inside c.self.view_is c.self.invariant) _ c.args.position at

pub invariant_of-self : goal.invariant_of-self
invariant_of-self g c =
    let f = seen c.self.inside c.self.view_is c.self.invariant in
    let at = rw (← ap (λ t. t.rows) c.self.view_is) at c.requires.at in
    let bound = c.self.invariant.1 in
    (all_filed c.take-leaf.new.self (files_removed f c.args.id c.requires.has c.remove.new.self.pairs (taken_out f c.args.id c.requires.has c.args.position at c.remove.new.self.pairs c.remove.ensures.one c.remove.ensures.more) (slot_at c.take-leaf.new.self) (subst (λ n. slot_at c.take-leaf.new.self n ≡ None) c.number.ensures.value c.take-leaf.ensures.gone) (λ j ne. c.take-leaf.ensures.others j (λ e. ne (e ∙ c.number.ensures.value))) (used_count c.take-leaf.new.self) c.take-leaf.ensures.used), omega (arith, c.take-leaf.ensures.len, c.remove.ensures.top))

pub returns-clause-rest : goal.returns-clause-rest
returns-clause-rest g c =
    let f = seen c.self.inside c.self.view_is c.self.invariant in
    let at = rw (← ap (λ t. t.rows) c.self.view_is) at c.requires.at in
    pairs_are c.take-leaf.new.self (files_removed f c.args.id c.requires.has c.remove.new.self.pairs (taken_out f c.args.id c.requires.has c.args.position at c.remove.new.self.pairs c.remove.ensures.one c.remove.ensures.more) (slot_at c.take-leaf.new.self) (subst (λ n. slot_at c.take-leaf.new.self n ≡ None) c.number.ensures.value c.take-leaf.ensures.gone) (λ j ne. c.take-leaf.ensures.others j (λ e. ne (e ∙ c.number.ensures.value))) (used_count c.take-leaf.new.self) c.take-leaf.ensures.used)

pub returns-clause-room : goal.returns-clause-room
returns-clause-room g c =
    let f = seen c.self.inside c.self.view_is c.self.invariant in
    let at = rw (← ap (λ t. t.rows) c.self.view_is) at c.requires.at in
    let a = taken_room c.self.inside.rows.pairs _ c.args.position at f.apart c.remove.new.self.pairs c.self.inside.rows.spare c.remove.new.self.spare c.remove.ensures.one c.remove.ensures.more c.remove.ensures.gains c.remove.ensures.keeps in
    rw (← c.self.view_is) a
