use Rattle.std.proofs.Common.{◌∙◌, lit<, sym, ap, map}
use Rattle.blart_keys.specs.Bounds.{bound_bytes}
use Rattle.blart_map.specs.Content.{pairs}
use Rattle.blart_set.specs.Elements.{elements}
use Rattle.blart_set.proofs.Pairs.{between-keys, can_range-keys}
use Rattle.blart_set.proofs.set.TreeSet.cursor.Goals as goal

pub cursor-requires : goal.cursor-requires
unfolding elements
cursor-requires g c = (lit< tt, can_range-keys g.K.AsBytes.bytes (pairs c.self.inside.map) (bound_bytes g.Q.AsBytes.bytes c.args.start) (bound_bytes g.Q.AsBytes.bytes c.args.end) (rw (← c.self.view_is) at c.requires))

pub returns-clause-left : goal.returns-clause-left
unfolding elements
returns-clause-left g c = rw (← c.self.view_is) (ap (map (λ p. p.0)) c.cursor.ensures.left ∙ sym (between-keys g.K.AsBytes.bytes (pairs c.self.inside.map) (bound_bytes g.Q.AsBytes.bytes c.args.start) (bound_bytes g.Q.AsBytes.bytes c.args.end)))
