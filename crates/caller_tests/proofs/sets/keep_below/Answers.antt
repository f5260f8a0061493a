use Rattle.std.proofs.Common.{◌≡◌, rules, ltb, refl, sym}
use Rattle.blart.proofs.CallerLemmas.{filter_from_asked}
use Rattle.caller_tests.proofs.sets.keep_below.Goals as goal

pub returns : goal.returns
returns g c = filter_from_asked _ (λ f. f.0.now ≡ c.args.bound) (λ n. ltb n c.args.bound) (λ f x b h i t. rw (sym i) (search rules)) _ _ _ refl c.retain.ensures
