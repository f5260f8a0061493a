use Rattle.std.proofs.Common.{lit<, ◌≡◌}
use Rattle.blart_map.specs.Content.{pairs}
use Rattle.blart_set.specs.Elements.{elements}
use Rattle.blart_set.proofs.Images.{keeps-keys, clones-keys, some_images}
use Rattle.blart_set.proofs.set.TreeSet.clone.Goals as goal

pub clone-requires : goal.clone-requires
unfolding elements
clone-requires g c = (lit< tt, keeps-keys g.K.AsBytes.bytes g.K.Clone.is_clone (λ x y. y ≡ x) (pairs c.self.inside.map) (rw (← c.self.view_is) at c.requires))

pub returns-in-Ok-clause-cloned : goal.returns-in-Ok-clause-cloned
unfolding elements
returns-in-Ok-clause-cloned g c = rw (← c.self.view_is) (clones-keys g.K.AsBytes.bytes g.K.Clone.is_clone (λ x y. y ≡ x) (pairs c.self.inside.map) (pairs c.in-Ok.map) c.in-Ok.ensures.cloned)

pub returns-in-Err-clause-refused : goal.returns-in-Err-clause-refused
unfolding elements
returns-in-Err-clause-refused g c = rw (← c.self.view_is) (some_images (λ p. p.0) (pairs c.self.inside.map) c.in-Err.ensures.refused)
