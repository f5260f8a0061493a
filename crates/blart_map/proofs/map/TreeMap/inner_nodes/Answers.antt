use Rattle.std.proofs.Common.{◌≡◌, ◌∙◌, ap, sym, subst}
use Rattle.std.specs.FinSet as set
use Rattle.blart_keys.specs.Fronts.{fronts}
use Rattle.blart_keys.specs.Steps.{bytes}
use Rattle.blart_keys.proofs.Mapped.{fronts-map}
use Rattle.art_tree.specs.Pairs.{pairs_of}
use Rattle.blart_map.specs.Content.{pairs}
use Rattle.blart_map.proofs.map.TreeMap.inner_nodes.Goals as goal

pub returns-clause-value : goal.returns-clause-value
unfolding pairs
returns-clause-value g c =
    let kb = g.K.AsBytes.bytes in
    subst (λ S. c.inner_nodes.result ≡ set.len (fronts (bytes kb) S)) (ap pairs_of c.self.view_is)
    (c.inner_nodes.ensures.value ∙ ap (λ l. set.len l) (sym (fronts-map (λ p. p.1) (bytes kb) c.self.inside.tree.pairs)))
