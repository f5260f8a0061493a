use Rattle.std.proofs.Common.{refl, ap}
use Rattle.blart_map.specs.Content.{pairs}
use Rattle.blart_map.proofs.map.TreeMap.reserve.Goals as goal

pub returns-in-Ok : goal.returns-in-Ok
returns-in-Ok g c = (
  (refl, (λ w. refl), tt),
  record {
    stands = tt;
    same_map = refl;
    unchanged = ap pairs c.in-Ok.ensures.same;
    meanwhile = c.in-Ok.ensures.empty;
    left = c.in-Ok.ensures.left;
    refused = tt;
  },
)

pub returns-in-Err : goal.returns-in-Err
returns-in-Err g c = (
  (refl, (λ w. tt), c.in-Err.ensures.err),
  record {
    stands = tt;
    same_map = tt;
    unchanged = tt;
    meanwhile = tt;
    left = tt;
    refused = c.in-Err.ensures.refused;
  },
)
