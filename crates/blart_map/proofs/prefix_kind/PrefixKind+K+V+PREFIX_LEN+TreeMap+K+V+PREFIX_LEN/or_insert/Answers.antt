use Rattle.std.proofs.Common.{rules, refl, sym, ap}
use Rattle.std.specs.Option.{unwrap_or}
use Rattle.blart_map.proofs.prefix_kind.PrefixKind+K+V+PREFIX_LEN+TreeMap+K+V+PREFIX_LEN.or_insert.Goals as goal

pub returns-in-Leaf : goal.returns-in-Leaf
returns-in-Leaf g c =
    let into = c.into_mut.ensures in
    rw c.in-Leaf.is ((refl, (λ w o. into.written w), tt), record { writes_back = tt; value = ap (λ v. unwrap_or v c.args.default) (sym into.value); vacant = tt })

pub returns-in-Inner : goal.returns-in-Inner
returns-in-Inner g c = rw c.in-Inner.is ((refl, (λ w o. c.insert.ensures.written w), tt), record { writes_back = tt; value = c.insert.ensures.value; vacant = tt })

pub returns-in-Vacant : goal.returns-in-Vacant
returns-in-Vacant g c =
    let f = c.insert-in-Vacant.follows in
    rw c.in-Vacant.is ((refl, f.holds, f.holds-at-none), record { writes_back = tt; value = c.insert-in-Vacant.ensures.value; vacant = search rules })
