use Rattle.blart_map.specs.Content.{pairs}
use Rattle.blart_map.proofs.map.TreeMap.retain_by.Goals as goal

pub returns : goal.returns
unfolding pairs
returns g c = rw (← c.self.view_is) c.retain_by.ensures
