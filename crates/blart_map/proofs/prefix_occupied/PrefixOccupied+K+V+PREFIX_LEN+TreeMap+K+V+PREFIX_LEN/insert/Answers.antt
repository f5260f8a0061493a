use Rattle.std.proofs.Common.{refl}
use Rattle.blart_map.proofs.prefix_occupied.PrefixOccupied+K+V+PREFIX_LEN+TreeMap+K+V+PREFIX_LEN.insert.Goals as goal

pub returns-in-Leaf : goal.returns-in-Leaf
returns-in-Leaf g c = rw c.in-Leaf.is ((refl, λ w. refl), record { writes_back = tt; value = c.write.ensures.value; written = c.write.ensures.written })

pub returns-in-Inner : goal.returns-in-Inner
returns-in-Inner g c = rw c.in-Inner.is ((refl, λ w. refl), record { writes_back = tt; value = c.insert.ensures.value; written = c.insert.ensures.written })
