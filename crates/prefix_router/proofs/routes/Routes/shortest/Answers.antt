use Rattle.std.proofs.Common.{ap, subst, ◌&&◌, leb, length}
use Rattle.blart_keys.specs.Bytes.{begins}
use Rattle.blart_keys.specs.KeyBytes.{vec_bytes}
use Rattle.blart_keys.specs.Stored.{shown}
use Rattle.prefix_router.proofs.MountsLemmas.{seen_best}
use Rattle.prefix_router.specs.Best.{IsBest, is_shorter}
use Rattle.prefix_router.specs.Tables.{all_mounts}
use Rattle.prefix_router.proofs.routes.Routes.shortest.Goals as goal

pub returns : goal.returns
returns g c =
    let best = subst (λ xs. IsBest vec_bytes (λ r. begins r c.args.path.now && leb c.args.least (length r)) is_shorter (all_mounts xs) (shown c.shortest.result)) c.deref.ensures.value c.shortest.ensures in
    seen_best c.self.inside.tables.items c.args.self.now.mounts (ap (λ v. v.mounts) c.self.view_is) (λ r. begins r c.args.path.now && leb c.args.least (length r)) is_shorter (shown c.shortest.result) best
