use Rattle.std.proofs.Common.{rules, refl, sym, subst}
use Rattle.blart_map.proofs.Related.PrefixValues.{or_made}
use Rattle.blart_map.proofs.prefix_kind.PrefixKind+K+V+PREFIX_LEN+TreeMap+K+V+PREFIX_LEN.or_insert_with.Goals as goal

pub returns-in-Leaf : goal.returns-in-Leaf
returns-in-Leaf g c =
    let into = c.into_mut.ensures in
    rw c.in-Leaf.is ((refl, (λ w o. into.written w), tt), record { writes_back = tt; value = or_made _ _ (g.F.FnOnce.post c.args.default tt) into.value; vacant = tt })

pub returns-in-Inner : goal.returns-in-Inner
returns-in-Inner g c =
    let made = subst (g.F.FnOnce.post c.args.default tt) (sym c.insert.ensures.value) c.default.ensures in
    rw c.in-Inner.is ((refl, (λ w o. c.insert.ensures.written w), tt), record { writes_back = tt; value = made; vacant = tt })

pub returns-in-Vacant : goal.returns-in-Vacant
returns-in-Vacant g c =
    let f = c.insert_with.follows in
    rw c.in-Vacant.is ((refl, f.holds, f.holds-at-none), record { writes_back = tt; value = c.insert_with.ensures.value; vacant = search rules })
