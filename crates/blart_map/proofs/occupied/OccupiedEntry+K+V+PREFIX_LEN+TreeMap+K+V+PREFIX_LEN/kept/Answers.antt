use Rattle.std.proofs.Common.{refl, ap, true}
use mathlib.Core.Bool.{Bool-set}
use Rattle.blart_map.proofs.occupied.OccupiedEntry+K+V+PREFIX_LEN+TreeMap+K+V+PREFIX_LEN.kept.Goals as goal

pub returns : goal.returns
returns g c =
    let o = c.args.self in (
      (refl, (λ w. refl), tt),
      record { stands = tt; same = ap (λ q. record o { stands = q }) (Bool-set _ true _ o.stands); never = tt },
    )
