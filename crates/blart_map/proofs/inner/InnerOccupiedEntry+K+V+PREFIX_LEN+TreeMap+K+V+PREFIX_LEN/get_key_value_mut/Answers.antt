use Rattle.std.proofs.Common.{refl, ◌∙◌}
use Rattle.blart_map.specs.Content.{pairs}
use Rattle.blart_map.proofs.Related.InnerPairs.{only_tested, only_answered}
use Rattle.blart_map.proofs.inner.InnerOccupiedEntry+K+V+PREFIX_LEN+TreeMap+K+V+PREFIX_LEN.get_key_value_mut.Goals as goal

pub returns : goal.returns
unfolding pairs
returns g c =
    let e = c.args.self in
    let kb = g.K.AsBytes.bytes in
    let content = c.numbers_law.ensures.content in
    let distinct = c.numbers_law.ensures.distinct in (
      (refl, (λ w. c.only_entry.follows.holds w), c.only_entry.follows.holds-at-none),
      record {
        stands = tt;
        found = c.only_entry.ensures.found ∙ only_tested kb e.map.now (kb e.key) e.first e.last content distinct e.stands;
        same_map = c.only_entry.ensures.same_map;
        unchanged = c.only_entry.ensures.unchanged;
        pair = only_answered kb e.map.now (kb e.key) e.first e.last content distinct e.stands (λ o. o.map.now) (λ o. o.id) c.only_entry.result c.only_entry.ensures.found c.only_entry.ensures.unchanged c.only_entry.ensures.leaf;
      },
    )
