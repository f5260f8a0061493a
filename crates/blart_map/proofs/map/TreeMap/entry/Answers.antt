use Rattle.std.proofs.Common.{refl}
use Rattle.blart_map.specs.Content.{pairs}
use Rattle.art_edits.proofs.Related.EntryOf.{exact_bytes, exact_pair, exact_kind, exact_some, absent_pair, vacant_kind}
use Rattle.blart_map.proofs.map.TreeMap.entry.Goals as goal

pub returns-in-Some-clause-is_for : goal.returns-in-Some-clause-is_for
unfolding pairs
returns-in-Some-clause-is_for g c =
    let kb = g.K.AsBytes.bytes in
    let ps = c.args.self.now in
    let q = kb c.args.key in
    let content = c.leaf_of_disjoint.ensures.content in
    let distinct = c.leaf_of_disjoint.ensures.distinct in
    let id = c.in-Some.id in
    let good = c.in-Some.ensures.good in
    record {
      same_bytes = exact_bytes kb ps content distinct q id good;
      pair = exact_pair kb ps content distinct q id good;
      kind = exact_kind kb ps content distinct q id good;
      fresh = λ e. exact_some kb ps content distinct q id good e;
    }

pub returns-clause-is_for : goal.returns-clause-is_for
unfolding pairs
returns-clause-is_for g c =
    let kb = g.K.AsBytes.bytes in
    let ps = c.args.self.now in
    let q = kb c.args.key in
    let content = c.leaf_of_disjoint.ensures.content in
    let distinct = c.leaf_of_disjoint.ensures.distinct in
    let absent = c.in-None.ensures.absent in
    record {
      same_bytes = refl;
      pair = absent_pair kb ps content distinct q absent;
      kind = vacant_kind kb ps content distinct q absent c.in-None.ensures.free;
      fresh = λ e. refl;
    }
