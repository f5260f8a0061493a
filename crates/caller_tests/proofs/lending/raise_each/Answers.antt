use Rattle.std.proofs.Common.{◌+◌, ◌<◌, ◌^◌, lit<, rules}
use Rattle.blart.proofs.CallerLemmas.{callable_on_such_values}
use Rattle.caller_tests.proofs.lending.raise_each.Goals as goal

pub for_each-requires : goal.for_each-requires
for_each-requires g c = (lit< tt, callable_on_such_values _ (λ p. p.1 + 1 < 2 ^ 64) (λ f x small p e. rw e (search rules)) _ _ _ c.values_mut.ensures.left c.requires)
