use Rattle.std.proofs.Common.{◌≡◌, List, refl, Some, ap, sym, ◌∙◌, subst}
use Rattle.art_slots.specs.Store.{slot_at, with_record}
use Rattle.art_rows.specs.Numbers.{Numbered}
use Rattle.art_rows.specs.Leaves.{Leaves, with_value}
use Rattle.art_rows.proofs.FilingLemmas.{seen, all_filed, pairs_are, record_is}
use Rattle.art_rows.proofs.FilingChanges.{files_changed_at, cells_changed, with_value-pair}
use Rattle.art_rows.proofs.leaves.Leaves.get_mut.Goals as goal

pub invariant_of-self-lent : goal.invariant_of-self-lent
invariant_of-self-lent g c w =
    let f = seen c.self.inside c.self.view_is c.self.invariant in
    let r = c.get_mut.result.now in
    (all_filed (with_record c.self.inside.records c.number.result (record r { value = w })) (files_changed_at c.self.inside.records f c.args.id c.number.result c.number.ensures.value r c.get_mut.ensures.value r.key w _ refl), cells_changed c.self.inside.records c.self.inside.rows c.number.result _ c.self.invariant.1)

pub returns : goal.returns
returns g c =
    let f = seen c.self.inside c.self.view_is c.self.invariant in
    let r = c.get_mut.result.now in
    let is = (record_is f c.args.id r (subst (λ n. slot_at c.self.inside.records n ≡ Some r) c.number.ensures.value c.get_mut.ensures.value)) in
    let with_pairs : List (Numbered (g.row.K.Denot × g.row.V.Denot)) → Leaves g.row.K.Denot g.row.V.Denot = λ ps. record { pairs = ps; rows = c.self.inside.rows.pairs; spare_rows = c.self.inside.rows.spare } in (
      (refl, λ w. ap with_pairs (pairs_are (with_record c.self.inside.records c.number.result (record r { value = w })) (files_changed_at c.self.inside.records f c.args.id c.number.result c.number.ensures.value r c.get_mut.ensures.value r.key w _ refl) ∙ sym (with_value-pair c.args.self.now.pairs c.args.id r.key r.value w is)) ∙ ap (λ (t : Leaves g.row.K.Denot g.row.V.Denot). record t { pairs = with_value c.args.self.now.pairs c.args.id w }) c.self.view_is),
      record {
        writes_back = tt;
        value = rw (c.pair_mut.ensures.key, c.pair_mut.ensures.value) is;
      },
    )
