use Rattle.blart_map.proofs.compare.eq.TreeMapPartialEq.eq.Goals as goal

pub returns-then-len : goal.returns-then-len
returns-then-len g c = rw (← c.iter-then-len.ensures.value, ← c.iter.ensures.value) c.eq.ensures
