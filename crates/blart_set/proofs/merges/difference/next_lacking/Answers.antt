use Rattle.std.proofs.Common.{sym, ◌∙◌, arith, inl}
use Rattle.blart_set.proofs.Comparing.{compared_then}
use Rattle.blart_set.proofs.Stepping.{difference_rest_left, difference_rest_skip}
use Rattle.blart_set.proofs.merges.difference.next_lacking.Goals as goal

pub returns-in-Some-of_left-clause-steps : goal.returns-in-Some-of_left-clause-steps
returns-in-Some-of_left-clause-steps g c = c.sides.invariant.0 ∙ difference_rest_left g.K.AsBytes.bytes c.sides.sides c.step_left.new.self c.in-Some.side c.in-Some-of_left.element (sym c.of_left.ensures ∙ c.in-Some-of_left.is) c.in-Some.ensures.steps

pub sides-preserved : goal.sides-preserved
sides-preserved g c = (c.sides.invariant.0 ∙ difference_rest_skip g.K.AsBytes.bytes c.sides.sides c.step_left.new.self c.in-Some.side (sym c.of_left.ensures ∙ c.in_default-of_left.is) c.in-Some.ensures.steps, omega (arith, c.sides.invariant.1, c.in-Some.ensures.counted), λ a b. inl (compared_then c.args.sides.now c.sides.sides c.step_left.new.self c.sides.invariant.2 c.in-Some.ensures.compared (omega (arith, c.sides.invariant.1)) (omega (arith, c.in-Some.ensures.counted)) a b))

pub returns-in-Some-of_left-clause-compared : goal.returns-in-Some-of_left-clause-compared
returns-in-Some-of_left-clause-compared g c = compared_then c.args.sides.now c.sides.sides c.step_left.new.self c.sides.invariant.2 c.in-Some.ensures.compared (omega (arith, c.sides.invariant.1)) (omega (arith, c.in-Some.ensures.counted))

pub returns-clause-compared : goal.returns-clause-compared
returns-clause-compared g c = compared_then c.args.sides.now c.sides.sides c.step_left.new.self c.sides.invariant.2 c.in_default.ensures.compared (omega (arith, c.sides.invariant.1)) (omega (arith, c.in_default.ensures.counted))
