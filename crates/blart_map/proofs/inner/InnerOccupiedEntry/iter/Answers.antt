use Rattle.std.proofs.Common.{lit<, sym, ap, ◌∙◌, subst}
use Rattle.blart_keys.specs.Bytes.{related}
use Rattle.blart_keys.specs.Stored.{CanCount}
use Rattle.blart_keys.proofs.StoredLemmas.{can_count_filter}
use Rattle.art_tree.specs.Pairs.{pairs_of}
use Rattle.blart_map.specs.Content.{pairs}
use Rattle.blart_map.proofs.Related.InnerPairs.{inner_span, subtree_pairs}
use Rattle.blart_map.proofs.inner.InnerOccupiedEntry.iter.Goals as goal

pub iter_between-requires : goal.iter_between-requires
iter_between-requires g c =
    let e = c.args.self.now in
    let kb = g.K.AsBytes.bytes in
    (lit< tt, (lit< tt, (inner_span kb e.map.now (kb e.key) e.first e.last c.numbers_law.ensures.content c.numbers_law.ensures.distinct e.stands).0))

pub returns-clause-value : goal.returns-clause-value
unfolding pairs
returns-clause-value g c =
    let e = c.args.self.now in
    let kb = g.K.AsBytes.bytes in
    let content = c.numbers_law.ensures.content in
    let distinct = c.numbers_law.ensures.distinct in
    c.iter_between.ensures ∙ ap pairs_of (inner_span kb e.map.now (kb e.key) e.first e.last content distinct e.stands).1
    ∙ sym (subtree_pairs kb e.map.now (kb e.key) e.first e.last content distinct e.stands)

pub returns-clause-fits : goal.returns-clause-fits
unfolding pairs
returns-clause-fits g c =
    let e = c.args.self.now in
    let kb = g.K.AsBytes.bytes in
    subst CanCount (sym (returns-clause-value g c)) (can_count_filter (λ pair. related (kb pair.0) (kb e.key)) (pairs_of e.map.now) c.law.ensures.fits)
