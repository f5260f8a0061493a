use Rattle.std.proofs.Common.{◌∙◌}
use Rattle.blart_map.specs.Content.{pairs}
use Rattle.blart_set.specs.Elements.{elements}
use Rattle.blart_set.proofs.Compared.{hash-keys}
use Rattle.blart_set.proofs.compare.hash.TreeSetHash.hash.Goals as goal

pub returns : goal.returns
unfolding elements
returns g c = rw (← c.self.view_is) (c.hash.ensures ∙ hash-keys g.H.Hasher.write c.args.state.now g.K.Hash.hash_input (pairs c.self.inside.map))
