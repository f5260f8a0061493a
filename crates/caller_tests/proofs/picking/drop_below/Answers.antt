use Rattle.std.proofs.Common.{◌≡◌, rules, leb, refl, sym}
use Rattle.blart.proofs.CallerLemmas.{filter_from_retained}
use Rattle.caller_tests.proofs.picking.drop_below.Goals as goal

pub returns : goal.returns
returns g c = filter_from_retained _ (λ f. f.0.now ≡ c.args.bound) (λ p. leb c.args.bound p.1) (λ f k v b w h i t. rw (sym i) (search rules)) _ _ _ refl c.retain.ensures
