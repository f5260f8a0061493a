use Rattle.std.proofs.Common.{rules, refl}
use Rattle.blart_map.proofs.Related.PrefixValues.{or_made}
use Rattle.blart_map.proofs.entry.Entry+K+V+PREFIX_LEN+TreeMap+K+V+PREFIX_LEN.or_insert_with_key.Goals as goal

pub returns-in-Occupied : goal.returns-in-Occupied
returns-in-Occupied g c =
    let into = c.into_mut.ensures in
    rw c.in-Occupied.is ((refl, (λ w o. into.written w), tt), record { writes_back = tt; value = or_made _ _ _ into.value; absent = tt })

pub returns-in-Vacant : goal.returns-in-Vacant
returns-in-Vacant g c =
    let f = c.insert_with_key.follows in
    rw c.in-Vacant.is ((refl, f.holds, f.holds-at-none), record { writes_back = tt; value = c.insert_with_key.ensures.value; absent = search rules })
