use Rattle.blart_set.specs.Elements.{elements}
use Rattle.blart_set.proofs.walks.TreeSetIntoIterator.into_iter.Goals as goal

pub returns : goal.returns
unfolding elements
returns g c = rw (← c.self.view_is) record { into_iter_gives = c.into_keys.ensures.value }
