use Rattle.std.proofs.Common.{◌∙◌, ap, sym}
use Rattle.std.specs.Option.{is_some}
use Rattle.blart_keys.proofs.StoredLemmas.{stores_is, is_some-map}
use Rattle.art_tree.specs.Pairs.{pairs_of}
use Rattle.blart_map.specs.Content.{pairs}
use Rattle.blart_map.proofs.map.TreeMap.contains_key.Goals as goal

pub returns-clause-value : goal.returns-clause-value
unfolding pairs
returns-clause-value g c =
    c.is_some.ensures
    ∙ sym (is_some-map (λ pair. (pair.0.now, pair.1.now)) c.get_key_value.result)
    ∙ ap is_some c.get_key_value.ensures.pair
    ∙ sym (stores_is g.K.AsBytes.bytes (pairs_of c.args.self.now) (g.Q.AsBytes.bytes c.args.query.now))

pub returns-clause-stored : goal.returns-clause-stored
unfolding pairs
returns-clause-stored g c = c.is_some.ensures ∙ sym (is_some-map (λ pair. (pair.0.now, pair.1.now)) c.get_key_value.result) ∙ ap is_some c.get_key_value.ensures.pair
