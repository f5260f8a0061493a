use Rattle.std.proofs.Common.{ap}
use Rattle.blart_keys.specs.KeyBytes.{vec_bytes}
use Rattle.prefix_router.proofs.AscendingLemmas.{ascends_from}
use Rattle.prefix_router.proofs.MountsLemmas.{seen_ranked}
use Rattle.prefix_router.proofs.routes.Routes.law.Goals as goal

pub returns-clause-ascends : goal.returns-clause-ascends
returns-clause-ascends g c = ascends_from vec_bytes c.args.self.now.mounts (seen_ranked c.self.inside.tables.items c.args.self.now.mounts (ap (λ v. v.mounts) c.self.view_is))
