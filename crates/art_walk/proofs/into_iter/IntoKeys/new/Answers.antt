use Rattle.std.proofs.Common.{ap, map}
use Rattle.art_walk.proofs.into_iter.IntoKeys.new.Goals as goal

pub returns : goal.returns
returns g c = ap (map (λ p. p.0)) c.new.ensures
