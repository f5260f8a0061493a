use Rattle.std.proofs.Common.{◌<◌, ◌+◌, ◌^◌, lit<, rules}
use Rattle.blart.proofs.CallerLemmas.{callable_on_such_pairs, map_from_retained}
use Rattle.caller_tests.proofs.picking.raise_all.Goals as goal

pub retain-requires : goal.retain-requires
retain-requires g c = (lit< tt, callable_on_such_pairs _ (λ p. p.1 + 1 < 2 ^ 32) (λ f k v small p q hp hq. rw hq (search rules)) _ _ c.requires)

pub returns : goal.returns
returns g c = map_from_retained _ (λ f. Unit {0}) (λ p. p.1 + 1) (λ f k v b w h i t. search rules) _ _ _ tt c.retain.ensures
