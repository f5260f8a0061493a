use Rattle.std.proofs.Common.{rules, refl, Result, Ok, Err, IfOk}
use Rattle.blart_map.proofs.prefix_kind.PrefixKind+K+V+PREFIX_LEN+TreeMap+K+V+PREFIX_LEN.or_insert_with_key_entry.Goals as goal

-- what holds of the result and a value with `Made` holds of the result and some such value
some_value : {V O E : Type 0} (r : Result O E) (Made : V → Type 0) (Holds : V → O → Type 0) (w : V) → Made w → IfOk r (Holds w) → IfOk r (λ o. (v : V) × Made v × Holds v o)
some_value (Ok o) Made Holds w made holds = (w, made, holds)
some_value (Err e) Made Holds w made holds = tt

pub returns-in-Inner : goal.returns-in-Inner
returns-in-Inner g c =
    let f = c.over.follows in
    rw c.in-Inner.is (
      (refl, f.holds, f.holds-at-none),
      record { stands = tt; set = some_value _ _ _ c.default-made.result (c.key.result, c.default-made.ensures, c.key.ensures) c.over.ensures.set; vacant = search rules },
    )
