use Rattle.std.proofs.Common.{refl}
use Rattle.blart_keys.specs.Stored.{overlaps}
use Rattle.blart_map.specs.Content.{pairs}
use Rattle.art_edits.proofs.Placed.Inserting.{exact_has, opens}
use Rattle.blart_map.proofs.Related.InnerPairs.{to_spans}
use Rattle.art_edits.proofs.Related.EntryOf.{exact_bytes, exact_pair, exact_kind, exact_some, exact_inner, related_inner, open_inner, related_kind, related_pair, open_absent, open_free, open_pair, open_kind}
use Rattle.blart_map.proofs.map.TreeMap.prefix_entry.Goals as goal

pub invariant_of-result : goal.invariant_of-result
invariant_of-result g c =
    let kb = g.K.AsBytes.bytes in
    record { stands = exact_has kb c.args.self.now c.numbers_law.ensures.content c.numbers_law.ensures.distinct (kb c.args.key) c.in-Exact.id (rw c.as_bytes.ensures at c.in-Exact.ensures) }

pub invariant_of-result-in-Related : goal.invariant_of-result-in-Related
invariant_of-result-in-Related g c =
    let kb = g.K.AsBytes.bytes in
    let good = rw c.as_bytes.ensures at c.in-Related.ensures in
    record { stands = to_spans kb c.args.self.now (kb c.args.key) c.in-Related.first c.in-Related.last good.1 good.2 }

pub invariant_of-result-in-Empty : goal.invariant_of-result-in-Empty
invariant_of-result-in-Empty g c =
    let kb = g.K.AsBytes.bytes in
    let ps = c.args.self.now in
    let q = kb c.args.key in
    let good = rw c.as_bytes.ensures at c.point_of-point.ensures in
    let able = opens c.point_of-point.result c.in-Empty.is in
    record {
      absent = open_absent kb ps c.numbers_law.ensures.content c.numbers_law.ensures.distinct q c.point_of-point.result good able;
      free = open_free kb ps c.numbers_law.ensures.content c.numbers_law.ensures.distinct q c.point_of-point.result good able;
    }

pub returns-in-Exact-clause-is_for : goal.returns-in-Exact-clause-is_for
unfolding pairs overlaps
returns-in-Exact-clause-is_for g c =
    let kb = g.K.AsBytes.bytes in
    let ps = c.args.self.now in
    let q = kb c.args.key in
    let content = c.numbers_law.ensures.content in
    let distinct = c.numbers_law.ensures.distinct in
    let id = c.in-Exact.id in
    let good = rw c.as_bytes.ensures at c.in-Exact.ensures in
    record {
      same_bytes = exact_bytes kb ps content distinct q id good;
      pair = exact_pair kb ps content distinct q id good;
      kind = exact_kind kb ps content distinct q id good;
      inner = exact_inner kb ps content distinct q id good;
      fresh = λ e. exact_some kb ps content distinct q id good e;
    }

pub returns-in-Related-clause-is_for : goal.returns-in-Related-clause-is_for
unfolding pairs overlaps
returns-in-Related-clause-is_for g c =
    let kb = g.K.AsBytes.bytes in
    let ps = c.args.self.now in
    let q = kb c.args.key in
    let content = c.numbers_law.ensures.content in
    let distinct = c.numbers_law.ensures.distinct in
    let good = rw c.as_bytes.ensures at c.in-Related.ensures in
    record {
      same_bytes = refl;
      pair = related_pair kb ps content distinct q c.in-Related.first c.in-Related.last good;
      kind = related_kind kb ps content distinct q c.in-Related.first c.in-Related.last good;
      inner = related_inner kb ps content distinct q c.in-Related.first c.in-Related.last good;
      fresh = λ e. refl;
    }

pub returns-clause-is_for : goal.returns-clause-is_for
unfolding pairs overlaps
returns-clause-is_for g c =
    let kb = g.K.AsBytes.bytes in
    let ps = c.args.self.now in
    let q = kb c.args.key in
    let content = c.numbers_law.ensures.content in
    let distinct = c.numbers_law.ensures.distinct in
    let good = rw c.as_bytes.ensures at c.point_of-point.ensures in
    let able = opens c.point_of-point.result c.in-Empty.is in
    record {
      same_bytes = refl;
      pair = open_pair kb ps content distinct q c.point_of-point.result good able;
      kind = open_kind kb ps content distinct q c.point_of-point.result good able;
      inner = open_inner kb ps content distinct q c.point_of-point.result good able;
      fresh = λ e. refl;
    }
