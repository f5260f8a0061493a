use Rattle.std.proofs.Common.{refl, sym, ap, Some}
use Rattle.blart_map.proofs.prefix_entry.PrefixEntry+K+V+PREFIX_LEN+TreeMap+K+V+PREFIX_LEN.or_insert_with_key_entry.Goals as goal

pub returns-in-Occupied-Inner-clause-set : goal.returns-in-Occupied-Inner-clause-set
returns-in-Occupied-Inner-clause-set g c =
    rw (c.in-Occupied-Inner.is, c.in-Occupied-Inner.field-0-is) (c.default-value.result, (_, c.default-value.ensures, c.key.ensures), c.insert_entry.ensures)

pub returns-in-Occupied-Leaf-clause-set : goal.returns-in-Occupied-Leaf-clause-set
returns-in-Occupied-Leaf-clause-set g c = rw (c.in-Occupied-Leaf.is, c.in-Occupied-Leaf.field-0-is) refl

pub returns-in-Vacant-clause-set : goal.returns-in-Vacant-clause-set
returns-in-Vacant-clause-set g c = rw c.in-Vacant.is c.insert_entry_with_key.ensures.set

pub default-value-requires : goal.default-value-requires
default-value-requires g c =
    let inner = c.in-Occupied-Inner in
    c.requires (rw (inner.is, inner.field-0-is) refl) c.key.result (rw (inner.is, inner.field-0-is) (ap Some (sym c.key.ensures)))
