use Rattle.std.proofs.Common.{List, refl, ap, ◌∙◌}
use Rattle.art_slots.specs.Store.{with_record}
use Rattle.art_rows.specs.Numbers.{Numbers, Numbered, with_pair}
use Rattle.art_rows.proofs.LinksLemmas.{seen, all_linked, pairs_are, stored_pair, store_changed}
use Rattle.art_rows.proofs.chain.Chain.get_mut.Goals as goal

pub invariant_of-self-lent : goal.invariant_of-self-lent
invariant_of-self-lent g c w =
    let l = seen c.self.inside c.self.view_is c.self.invariant in
    all_linked (with_record c.self.inside.records.store c.args.id (record c.get_mut.result.now { item = w })) (store_changed c.self.inside.records.store l c.args.id c.get_mut.result.now _ c.get_mut.ensures.value w refl)

pub returns : goal.returns
returns g c =
    let l = seen c.self.inside c.self.view_is c.self.invariant in
    let with_pairs : List (Numbered g.row.T.Denot) → Numbers g.row.T.Denot = λ ps. record { pairs = ps; spare = c.self.inside.records.store.spare; room = c.self.inside.records.room; top = c.self.inside.records.top; next = c.self.inside.records.next } in (
      (refl, λ w. ap with_pairs (pairs_are (with_record c.self.inside.records.store c.args.id (record c.get_mut.result.now { item = w })) (store_changed c.self.inside.records.store l c.args.id c.get_mut.result.now _ c.get_mut.ensures.value w refl)) ∙ ap (λ (t : Numbers g.row.T.Denot). record t { pairs = with_pair c.args.self.now.pairs c.args.id w }) c.self.view_is),
      record {
        writes_back = tt;
        below = rw (← c.self.view_is) c.get_mut.ensures.below;
        value = rw c.item_mut.ensures.item (stored_pair c.self.inside.records.store l c.args.id c.get_mut.result.now c.get_mut.ensures.value);
      },
    )
