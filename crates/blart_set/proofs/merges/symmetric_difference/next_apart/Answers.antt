use Rattle.std.proofs.Common.{sym, ◌∙◌, arith, inl}
use Rattle.blart_set.proofs.Comparing.{compared_then}
use Rattle.blart_set.proofs.Stepping.{symmetric_difference_rest_one, symmetric_difference_rest_skip}
use Rattle.blart_set.proofs.merges.symmetric_difference.next_apart.Goals as goal

pub returns-in-Some-of_one-clause-steps : goal.returns-in-Some-of_one-clause-steps
returns-in-Some-of_one-clause-steps g c = c.sides.invariant.0 ∙ symmetric_difference_rest_one g.K.AsBytes.bytes c.sides.sides c.step.new.self c.in-Some.side c.in-Some-of_one.element (sym c.of_one.ensures ∙ c.in-Some-of_one.is) c.in-Some.ensures.steps

pub sides-preserved : goal.sides-preserved
sides-preserved g c = (c.sides.invariant.0 ∙ symmetric_difference_rest_skip g.K.AsBytes.bytes c.sides.sides c.step.new.self c.in-Some.side (sym c.of_one.ensures ∙ c.in_default-of_one.is) c.in-Some.ensures.steps, omega (arith, c.sides.invariant.1, c.in-Some.ensures.counted), λ a b. inl (compared_then c.args.sides.now c.sides.sides c.step.new.self c.sides.invariant.2 c.in-Some.ensures.compared (omega (arith, c.sides.invariant.1)) (omega (arith, c.in-Some.ensures.counted)) a b))

pub returns-in-Some-of_one-clause-compared : goal.returns-in-Some-of_one-clause-compared
returns-in-Some-of_one-clause-compared g c = compared_then c.args.sides.now c.sides.sides c.step.new.self c.sides.invariant.2 c.in-Some.ensures.compared (omega (arith, c.sides.invariant.1)) (omega (arith, c.in-Some.ensures.counted))

pub returns-clause-compared : goal.returns-clause-compared
returns-clause-compared g c = compared_then c.args.sides.now c.sides.sides c.step.new.self c.sides.invariant.2 c.in_default.ensures.compared (omega (arith, c.sides.invariant.1)) (omega (arith, c.in_default.ensures.counted))
