use Rattle.blart_map.proofs.compare.ord.TreeMapPartialOrd.partial_cmp.Goals as goal

pub returns : goal.returns
returns g c = rw (← c.iter.ensures.value, ← c.iter-2.ensures.value) c.partial_cmp.ensures
