use Rattle.std.proofs.Common.{refl, sym, ap, ◌∙◌, not}
use Rattle.blart_keys.specs.Stored.{overlaps}
use Rattle.blart_map.specs.Content.{pairs}
use Rattle.art_edits.proofs.Placed.Inserting.{conflict_pairs, exact_has, opens}
use Rattle.art_edits.proofs.Related.EntryOf.{exact_bytes, exact_pair, exact_kind, exact_free, exact_some, open_absent, open_free, open_found, open_pair, open_kind}
use Rattle.blart_map.proofs.map.TreeMap.try_entry.Goals as goal

pub invariant_of-result : goal.invariant_of-result
invariant_of-result g c =
    let kb = g.K.AsBytes.bytes in
    record { stands = exact_has kb c.args.self.now c.numbers_law.ensures.content c.numbers_law.ensures.distinct (kb c.args.key) c.in-Exact.id (rw c.as_bytes.ensures at c.in-Exact.ensures) }

pub invariant_of-self : goal.invariant_of-self
invariant_of-self g c =
    let kb = g.K.AsBytes.bytes in
    let ps = c.args.self.now in
    let q = kb c.args.key in
    let good = rw c.as_bytes.ensures at c.point_of.ensures in
    let able = opens c.point_of.result c.in-Empty.is in
    record {
      absent = open_absent kb ps c.numbers_law.ensures.content c.numbers_law.ensures.distinct q c.point_of.result good able;
      free = open_free kb ps c.numbers_law.ensures.content c.numbers_law.ensures.distinct q c.point_of.result good able;
    }

pub returns-in-Exact : goal.returns-in-Exact
unfolding pairs overlaps
returns-in-Exact g c =
    let kb = g.K.AsBytes.bytes in
    let ps = c.args.self.now in
    let q = kb c.args.key in
    let content = c.numbers_law.ensures.content in
    let distinct = c.numbers_law.ensures.distinct in
    let id = c.in-Exact.id in
    let good = rw c.as_bytes.ensures at c.in-Exact.ensures in (
      (refl, (λ w. refl), tt),
      record {
        stands = tt;
        found = exact_free kb ps content distinct q id good;
        same_map = refl;
        unchanged = refl;
        is_for = record {
          same_bytes = exact_bytes kb ps content distinct q id good;
          pair = exact_pair kb ps content distinct q id good;
          kind = exact_kind kb ps content distinct q id good;
          fresh = λ e. exact_some kb ps content distinct q id good e;
        };
      },
    )

pub returns-in-Related : goal.returns-in-Related
unfolding pairs overlaps
returns-in-Related g c =
    let kb = g.K.AsBytes.bytes in
    let good = rw c.as_bytes.ensures at c.in-Related.ensures in (
      (refl, (λ w. tt), refl),
      record {
        stands = tt;
        found = sym (ap not (conflict_pairs kb c.args.self.now (kb c.args.key) ∙ good.0));
        same_map = tt;
        unchanged = tt;
        is_for = tt;
      },
    )

pub returns : goal.returns
unfolding pairs overlaps
returns g c =
    let kb = g.K.AsBytes.bytes in
    let ps = c.args.self.now in
    let q = kb c.args.key in
    let content = c.numbers_law.ensures.content in
    let distinct = c.numbers_law.ensures.distinct in
    let good = rw c.as_bytes.ensures at c.point_of.ensures in
    let able = opens c.point_of.result c.in-Empty.is in (
      (refl, (λ w. refl), tt),
      record {
        stands = tt;
        found = open_found kb ps content distinct q c.point_of.result good able;
        same_map = refl;
        unchanged = refl;
        is_for = record {
          same_bytes = refl;
          pair = open_pair kb ps content distinct q c.point_of.result good able;
          kind = open_kind kb ps content distinct q c.point_of.result good able;
          fresh = λ e. refl;
        };
      },
    )
