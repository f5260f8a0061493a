use Rattle.std.proofs.Common.{refl, ap, ◌∙◌, is_some}
use Rattle.blart_keys.specs.Bytes.{begins}
use Rattle.blart_keys.specs.Stored.{pair_at_front}
use Rattle.blart_map.specs.Content.{pairs}
use Rattle.art_edits.proofs.Numbers.{found, found_has, found_pair, found_none}
use Rattle.blart_map.proofs.map.TreeMap.prefix_get_key_value_mut.Goals as goal

pub invariant_of-self : goal.invariant_of-self
invariant_of-self g c =
    let kb = g.K.AsBytes.bytes in
    let q = g.Q.AsBytes.bytes c.args.query.now in
    record { stands = found_has c.args.self.now c.numbers_law.ensures.distinct (λ pair. begins (kb pair.0) q) c.in-Some.id (rw c.as_bytes.ensures at c.in-Some.ensures) }

pub returns-in-Some : goal.returns-in-Some
unfolding pair_at_front pairs
returns-in-Some g c =
    let kb = g.K.AsBytes.bytes in
    let q = g.Q.AsBytes.bytes c.args.query.now in
    let ps = c.args.self.now in
    let distinct = c.numbers_law.ensures.distinct in
    let e = rw c.as_bytes.ensures at c.in-Some.ensures in
    let r = found ps distinct (λ pair. begins (kb pair.0) q) c.in-Some.id e in
    let there = found_pair ps distinct (λ pair. begins (kb pair.0) q) c.in-Some.id r.0 e r.2 in (
      (refl, (λ w. refl), tt),
      record {
        stands = tt;
        found = ap (λ o. is_some o) there;
        same_map = refl;
        unchanged = refl;
        pair = r.2 ∙ there;
      },
    )

pub returns-in-None : goal.returns-in-None
unfolding pair_at_front pairs
returns-in-None g c =
    let kb = g.K.AsBytes.bytes in
    let q = g.Q.AsBytes.bytes c.args.query.now in
    let ps = c.args.self.now in
    let none = found_none ps c.numbers_law.ensures.distinct (λ pair. begins (kb pair.0) q) (rw c.as_bytes.ensures at c.in-None.ensures) in (
      (refl, (λ w. tt), refl),
      record {
        stands = tt;
        found = ap (λ o. is_some o) none;
        same_map = tt;
        unchanged = tt;
        pair = tt;
      },
    )
