use Rattle.std.proofs.Common.{◌∙◌, ap, sym}
use Rattle.blart_keys.specs.KeyBytes.{vec_bytes}
use Rattle.blart_keys.specs.Stored.{value_at}
use Rattle.prefix_router.proofs.MountsLemmas.{seen_value}
use Rattle.prefix_router.specs.Tables.{all_mounts}
use Rattle.prefix_router.proofs.routes.Routes.get.Goals as goal

pub returns : goal.returns
returns g c =
    c.target_at.ensures ∙ ap (λ xs. value_at vec_bytes (all_mounts xs) c.args.path.now) c.deref.ensures.value
    ∙ sym (seen_value c.self.inside.tables.items c.args.self.now.mounts (ap (λ v. v.mounts) c.self.view_is) c.args.path.now)
