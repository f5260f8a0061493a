use Rattle.std.proofs.Common.{refl}
use Rattle.blart_map.proofs.prefix_entry.PrefixEntry+K+V+PREFIX_LEN+TreeMap+K+V+PREFIX_LEN.or_insert_with_entry.Goals as goal

pub default-requires : goal.default-requires
default-requires g c = c.requires (rw (c.in-Occupied-Inner.is, c.in-Occupied-Inner.field-0-is) refl)

pub returns-in-Occupied-Inner-clause-set : goal.returns-in-Occupied-Inner-clause-set
returns-in-Occupied-Inner-clause-set g c =
    rw (c.in-Occupied-Inner.is, c.in-Occupied-Inner.field-0-is) (c.default.result, c.default.ensures, c.insert_entry.ensures)
