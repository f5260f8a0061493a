use Rattle.std.proofs.Common.{ap, subst}
use Rattle.blart_keys.specs.Bytes.{begins}
use Rattle.blart_keys.specs.KeyBytes.{vec_bytes}
use Rattle.blart_keys.specs.Stored.{shown}
use Rattle.prefix_router.proofs.MountsLemmas.{seen_ranked, seen_longest}
use Rattle.prefix_router.proofs.NestingLemmas.{longest_from}
use Rattle.prefix_router.specs.Best.{IsBest, is_longer}
use Rattle.prefix_router.specs.Tables.{all_mounts}
use Rattle.prefix_router.proofs.routes.Routes.resolve_counted.Goals as goal

pub returns-clause-longest : goal.returns-clause-longest
returns-clause-longest g c =
    let best = subst (λ xs. IsBest vec_bytes (λ r. begins r c.args.path.now) is_longer (all_mounts xs) (shown c.longest.result)) c.deref.ensures.value c.longest.ensures.best in
    seen_longest c.self.inside.tables.items c.args.self.now.mounts (ap (λ v. v.mounts) c.self.view_is) c.args.path.now (shown c.longest.result) best

pub returns-clause-value : goal.returns-clause-value
returns-clause-value g c =
    let best = subst (λ xs. IsBest vec_bytes (λ r. begins r c.args.path.now) is_longer (all_mounts xs) (shown c.longest.result)) c.deref.ensures.value c.longest.ensures.best in
    let seen = ap (λ v. v.mounts) c.self.view_is in
    longest_from vec_bytes c.args.self.now.mounts (seen_ranked c.self.inside.tables.items c.args.self.now.mounts seen) c.args.path.now (shown c.longest.result) (seen_longest c.self.inside.tables.items c.args.self.now.mounts seen c.args.path.now (shown c.longest.result) best)
