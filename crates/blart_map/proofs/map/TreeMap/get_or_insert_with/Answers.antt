use Rattle.std.proofs.Common.{refl, sym, ap, ◌∙◌, ◌≡◌, Some, option_map, subst}
use Rattle.std.proofs.lemmas.Bool.{false≢true}
use Rattle.art_tree.specs.Pairs.{pairs_of}
use Rattle.blart_map.specs.Content.{pairs}
use Rattle.art_edits.proofs.Placed.SettingAt.{exact_set_at, exact_or_else, new_has, new_or_else, new_set_at}
use Rattle.blart_map.proofs.map.TreeMap.get_or_insert_with.Goals as goal

pub returns-in-Some : goal.returns-in-Some
unfolding pairs
returns-in-Some g c =
    let kb = g.K.AsBytes.bytes in
    let ps = c.args.self.now in
    let content = c.leaf_of_disjoint.ensures.content in
    let distinct = c.leaf_of_disjoint.ensures.distinct in
    let good = c.in-Some.ensures.good in (
      (refl, (λ w o. exact_set_at kb ps (pairs_of ps) refl content distinct c.args.key c.in-Some.leaf good w), tt),
      record {
        writes_back = tt;
        value = exact_or_else kb ps (pairs_of ps) refl content distinct c.args.key c.in-Some.leaf good c.value_mut.result.now (g.F.FnOnce.post c.args.value tt) c.value_mut.ensures.value;
        absent = tt;
      },
    )

pub returns : goal.returns
unfolding pairs
returns g c =
    let ps = c.args.self.now in (
      (refl, (λ w o. absurd (false≢true o)), c.in-Err.ensures.err),
      record {
        writes_back = tt;
        value = tt;
        absent = new_has g.K.AsBytes.bytes ps (pairs_of ps) refl c.leaf_of_disjoint.ensures.content c.leaf_of_disjoint.ensures.distinct c.args.key c.in-None.ensures.absent;
      },
    )

pub returns-in-Ok : goal.returns-in-Ok
unfolding pairs
returns-in-Ok g c =
    let kb = g.K.AsBytes.bytes in
    let ps = c.args.self.now in
    let content = c.leaf_of_disjoint.ensures.content in
    let distinct = c.leaf_of_disjoint.ensures.distinct in
    let absent = c.in-None.ensures.absent in
    let made = c.in-Ok.ensures.placed in
    let placed = made.2 in
    let v0 : g.row.V.Denot = made.0 in
    let got = c.value_mut-in-Ok in
    let seen : Some v0 ≡ Some got.result.now = sym (ap (option_map (λ p. p.1)) placed.now) ∙ got.ensures.value in
    let is : got.result.now ≡ v0 = cc in (
      (
        refl,
        (λ w o. new_set_at kb ps (pairs_of ps) refl content distinct c.args.key absent ps c.place_new_with.new.self v0 c.in-Ok.id refl placed.put placed.whole placed.distinct placed.now w),
        tt,
      ),
      record {
        writes_back = tt;
        value = new_or_else kb ps (pairs_of ps) refl content distinct c.args.key absent got.result.now (g.F.FnOnce.post c.args.value tt) (subst (g.F.FnOnce.post c.args.value tt) (sym is) made.1);
        absent = tt;
      },
    )
