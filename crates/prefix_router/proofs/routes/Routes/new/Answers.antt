use Rattle.prefix_router.proofs.MountsLemmas.{counted_none, no_mounts, no_lead}
use Rattle.prefix_router.specs.Tables.{mounts_of}
use Rattle.prefix_router.proofs.routes.Routes.new.Goals as goal

pub invariant_of-result : goal.invariant_of-result
invariant_of-result g c = counted_none c.new.result.items c.new.ensures.items

pub returns-clause-empty : goal.returns-clause-empty
returns-clause-empty g c = no_mounts c.new.result.items c.new.ensures.items

pub returns-clause-routes : goal.returns-clause-routes
returns-clause-routes g c = no_lead (mounts_of c.new.result.items) (no_mounts c.new.result.items c.new.ensures.items)
