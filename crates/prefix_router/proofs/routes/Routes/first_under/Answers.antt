use Rattle.std.proofs.Common.{ap, subst, ◌&&◌}
use Rattle.blart_keys.specs.Bounds.{is_from_start, slice_bound}
use Rattle.blart_keys.specs.Bytes.{begins, less}
use Rattle.blart_keys.specs.KeyBytes.{vec_bytes}
use Rattle.blart_keys.specs.Stored.{shown}
use Rattle.prefix_router.proofs.MountsLemmas.{seen_best}
use Rattle.prefix_router.specs.Best.{IsBest}
use Rattle.prefix_router.specs.Tables.{all_mounts}
use Rattle.prefix_router.proofs.routes.Routes.first_under.Goals as goal

pub returns : goal.returns
returns g c =
    let best = subst (λ xs. IsBest vec_bytes (λ r. is_from_start (slice_bound c.args.low) r && begins c.args.front.now r) less (all_mounts xs) (shown c.first_under.result)) c.deref.ensures.value c.first_under.ensures in
    seen_best c.self.inside.tables.items c.args.self.now.mounts (ap (λ v. v.mounts) c.self.view_is) (λ r. is_from_start (slice_bound c.args.low) r && begins c.args.front.now r) less (shown c.first_under.result) best
