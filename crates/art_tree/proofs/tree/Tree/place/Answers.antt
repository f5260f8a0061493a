use Rattle.blart_keys.specs.Steps.{bytes as pair_bytes}
use Rattle.blart_keys.proofs.Mapped.{put_map}
use Rattle.art_tree.proofs.tree.Tree.place.Goals as goal

pub returns-clause-put : goal.returns-clause-put
returns-clause-put g c = rw (← c.self.view_is) (put_map (λ p. p.1) (pair_bytes g.K.AsBytes.bytes) c.self.inside.leaves.pairs c.place_at.new.leaves.pairs (c.place_at.result, (c.args.key, c.args.value)) c.place_at.ensures.placed.put)
