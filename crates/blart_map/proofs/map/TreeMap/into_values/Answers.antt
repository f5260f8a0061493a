use Rattle.std.proofs.Common.{◌∙◌, ap, map}
use Rattle.art_tree.specs.Pairs.{pairs_of}
use Rattle.blart_map.specs.Content.{pairs}
use Rattle.blart_map.proofs.map.TreeMap.into_values.Goals as goal

pub returns-clause-value : goal.returns-clause-value
unfolding pairs
returns-clause-value g c = c.new-values.ensures ∙ ap (map (λ pair. pair.1)) (ap pairs_of c.self.view_is)
