use Rattle.blart_keys.specs.Steps.{bytes}
use Rattle.blart_keys.proofs.Mapped.{content_map}
use Rattle.blart_map.specs.Content.{pairs}
use Rattle.blart_map.proofs.reserved.Room.law.Goals as goal

pub returns : goal.returns
unfolding pairs
returns g c = content_map (λ p. p.1) (bytes g.K.AsBytes.bytes) c.args.self.now.tree.pairs c.law.ensures.content
