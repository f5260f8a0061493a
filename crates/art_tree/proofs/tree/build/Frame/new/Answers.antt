use Rattle.std.proofs.Common.{◌∙◌, arith}
use Rattle.art_tree.proofs.tree.build.Frame.new.Goals as goal

pub invariant_of-result : goal.invariant_of-result
invariant_of-result g c = (λ j. c.reserve.ensures.same j ∙ c.new-nodes.ensures.none j, c.in-Ok.ensures.items)

pub returns-in-Ok : goal.returns-in-Ok
returns-in-Ok g c = record { enough = omega (arith, c.in_default.ensures.fits, c.in-Ok.ensures.capacity); refused = tt }
