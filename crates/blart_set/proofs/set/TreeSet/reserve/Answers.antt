use Rattle.std.proofs.Common.{refl, ap}
use Rattle.blart_set.specs.Elements.{elements}
use Rattle.blart_set.proofs.set.TreeSet.reserve.Goals as goal

pub returns-in-Ok : goal.returns-in-Ok
returns-in-Ok g c = (
  (refl, (λ w. refl), tt),
  record {
    stands = tt;
    same_set = refl;
    unchanged = ap elements c.in-Ok.ensures.same;
    meanwhile = c.in-Ok.ensures.empty;
    left = c.in-Ok.ensures.left;
    refused = tt;
  },
)

pub returns-in-Err : goal.returns-in-Err
returns-in-Err g c = (
  (refl, (λ w. tt), c.in-Err.ensures.err),
  record {
    stands = tt;
    same_set = tt;
    unchanged = tt;
    meanwhile = tt;
    left = tt;
    refused = c.in-Err.ensures.refused;
  },
)
