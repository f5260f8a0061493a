use Rattle.std.proofs.Common.{◌∙◌, ap, sym, refl, lit<, option_map}
use Rattle.blart_keys.specs.Bytes.{begins}
use Rattle.blart_keys.specs.Stored.{written_at_front, pair_at_front}
use Rattle.blart_keys.proofs.StoredLemmas.{written_front_writes, written_at_front-none}
use Rattle.art_tree.specs.Leaves.{with_value}
use Rattle.art_tree.specs.Pairs.{pairs_of}
use Rattle.blart_map.specs.Content.{pairs}
use Rattle.art_edits.proofs.Numbers.{found_has, found_value, found_none}
use Rattle.art_edits.proofs.Placed.Writing.{written_front}
use Rattle.blart_map.proofs.map.TreeMap.prefix_get_mut.Goals as goal

pub value_mut-requires : goal.value_mut-requires
unfolding pairs
value_mut-requires g c =
    let kb = g.K.AsBytes.bytes in
    let q = g.Q.AsBytes.bytes c.args.query.now in
    (lit< tt, found_has c.self.inside.tree.pairs c.law.ensures.distinct (λ pair. begins (kb pair.0) q) c.in-Some.id (rw c.as_bytes.ensures at c.in-Some.ensures.found))

pub returns-in-Some : goal.returns-in-Some
unfolding pair_at_front pairs
returns-in-Some g c =
    let kb = g.K.AsBytes.bytes in
    let q = g.Q.AsBytes.bytes c.args.query.now in
    let ps = c.self.inside.tree.pairs in
    let found = rw c.as_bytes.ensures at c.in-Some.ensures.found in
    let seen = sym c.value_mut.ensures.value ∙ found_value ps c.law.ensures.distinct (λ pair. begins (kb pair.0) q) c.in-Some.id found in
    let e = λ (v : g.row.V.Denot). written_front kb ps c.law.ensures.content c.law.ensures.distinct q c.in-Some.id found v ∙ ap (λ S. written_at_front kb S q v) (ap pairs_of c.self.view_is) in (
      (refl, λ v. written_front_writes kb (pairs_of c.args.self.now) q v (pairs_of (with_value ps c.in-Some.id v)) (e v), refl),
      record {
        writes_back = tt;
        value = rw (← c.self.view_is) seen;
        stored = rw (← c.self.view_is) seen;
      },
    )

pub returns-in-None : goal.returns-in-None
unfolding pair_at_front pairs
returns-in-None g c =
    let kb = g.K.AsBytes.bytes in
    let q = g.Q.AsBytes.bytes c.args.query.now in
    let ps = c.self.inside.tree.pairs in
    let found = rw c.as_bytes.ensures at c.in-None.ensures.found in
    let none = found_none ps c.law.ensures.distinct (λ pair. begins (kb pair.0) q) found in (
      (refl, λ v. written_front_writes kb (pairs_of c.args.self.now) q v (pairs_of ps) (written_at_front-none kb (pairs_of ps) q v (sym none) ∙ ap (λ S. written_at_front kb S q v) (ap pairs_of c.self.view_is)), c.self.view_is),
      record {
        writes_back = tt;
        value = rw (← c.self.view_is) (ap (option_map (λ pair. pair.1)) none);
        stored = rw (← c.self.view_is) (ap (option_map (λ pair. pair.1)) none);
      },
    )
