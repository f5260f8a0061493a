use Rattle.std.proofs.Common.{ap, map}
use Rattle.art_walk.proofs.into_iter.IntoValues.new.Goals as goal

pub returns : goal.returns
returns g c = ap (map (λ p. p.1)) c.new.ensures
