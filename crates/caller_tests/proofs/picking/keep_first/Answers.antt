use Rattle.std.proofs.Common.{◌≡◌, ◌∙◌, ◌-◌, rules, ltb, refl, sym}
use Rattle.blart.proofs.CallerLemmas.{kept_by_retained, take_from_kept}
use Rattle.caller_tests.proofs.picking.keep_first.Goals as goal

pub returns : goal.returns
returns g c = kept_by_retained _ (λ f n. f.0.now ≡ n) (λ n x. ltb 0 n) (λ n x. n - 1) (λ f n k v b w h i t. rw (sym i) (search rules)) _ c.args.count _ _ refl c.retain.ensures ∙ take_from_kept c.args.count _
