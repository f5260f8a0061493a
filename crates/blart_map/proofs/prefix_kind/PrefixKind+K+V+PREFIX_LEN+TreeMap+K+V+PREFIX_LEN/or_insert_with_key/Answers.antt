use Rattle.std.proofs.Common.{rules, refl, sym, ap, subst, Some}
use Rattle.blart_map.proofs.Related.PrefixValues.{or_made}
use Rattle.blart_map.proofs.prefix_kind.PrefixKind+K+V+PREFIX_LEN+TreeMap+K+V+PREFIX_LEN.or_insert_with_key.Goals as goal

pub returns-in-Leaf : goal.returns-in-Leaf
returns-in-Leaf g c =
    let into = c.into_mut.ensures in
    rw c.in-Leaf.is ((refl, (λ w o. into.written w), tt), record { writes_back = tt; value = or_made _ _ _ into.value; vacant = tt })

pub returns-in-Inner : goal.returns-in-Inner
returns-in-Inner g c =
    let made = subst (λ v. g.F.FnOnce.post c.args.default (c.key.result, tt) v) (sym c.insert.ensures.value) c.default-value.ensures in
    rw c.in-Inner.is ((refl, (λ w s. c.insert.ensures.written w), tt), record { writes_back = tt; value = (c.key.result, made, c.key.ensures); vacant = tt })

pub returns-in-Vacant : goal.returns-in-Vacant
returns-in-Vacant g c =
    let f = c.insert_with_key.follows in
    rw c.in-Vacant.is ((refl, f.holds, f.holds-at-none), record { writes_back = tt; value = c.insert_with_key.ensures.value; vacant = search rules })

pub default-value-requires : goal.default-value-requires
default-value-requires g c = c.requires (rw c.in-Inner.is refl) c.key.result (rw c.in-Inner.is (ap Some (sym c.key.ensures)))
