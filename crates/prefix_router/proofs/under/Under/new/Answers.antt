use Rattle.std.proofs.Common.{filter}
use Rattle.blart_keys.specs.KeyBytes.{vec_bytes}
use Rattle.blart_keys.proofs.ByteLemmas.{begins-itself}
use Rattle.prefix_router.proofs.NestingLemmas.{from_front}
use Rattle.prefix_router.proofs.under.Under.new.Goals as goal

pub invariant_of-result : goal.invariant_of-result
invariant_of-result g c = begins-itself c.args.front.now

pub returns : goal.returns
returns g c i = filter (λ p. from_front c.args.front.now (vec_bytes p.0) i) c.args.routes.now.mounts
