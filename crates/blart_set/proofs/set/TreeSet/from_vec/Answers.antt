use Rattle.std.proofs.Common.{[], map, subst}
use Rattle.blart_keys.specs.Bulk.{PutsAll}
use Rattle.blart_keys.specs.Stored.{kept_item}
use Rattle.blart_map.specs.Content.{pairs}
use Rattle.blart_set.specs.Elements.{elements}
use Rattle.blart_set.proofs.Pairs.{puts_all-keys}
use Rattle.blart_set.proofs.set.TreeSet.from_vec.Goals as goal

pub returns-clause-made : goal.returns-clause-made
unfolding elements
returns-clause-made g c =
    let kb = g.K.AsBytes.bytes in
    subst (λ l. PutsAll kb kept_item [] l (map (λ p. p.0) (pairs c.in_ok-map.map))) c.in_ok-pairs.ensures.units (puts_all-keys kb [] c.in_ok-pairs.pairs.items (pairs c.in_ok-map.map) c.in_ok-map.ensures.made)
