use Rattle.std.proofs.Common.{sym, ◌∙◌, arith, inl}
use Rattle.blart_set.proofs.Comparing.{compared_then}
use Rattle.blart_set.proofs.Stepping.{intersection_rest_both, intersection_rest_skip, intersection_rest_over}
use Rattle.blart_set.proofs.merges.intersection.next_shared.Goals as goal

pub returns-in-Some-of_both-clause-steps : goal.returns-in-Some-of_both-clause-steps
returns-in-Some-of_both-clause-steps g c = c.sides.invariant.0 ∙ intersection_rest_both g.K.AsBytes.bytes c.sides.sides c.step_both.new.self c.in-Some.side c.in-Some-of_both.element (sym c.of_both.ensures ∙ c.in-Some-of_both.is) c.in-Some.ensures.steps

pub sides-preserved : goal.sides-preserved
sides-preserved g c = (c.sides.invariant.0 ∙ intersection_rest_skip g.K.AsBytes.bytes c.sides.sides c.step_both.new.self c.in-Some.side (sym c.of_both.ensures ∙ c.in_default-of_both.is) c.in-Some.ensures.steps, omega (arith, c.sides.invariant.1, c.in-Some.ensures.counted), λ a b. inl (compared_then c.args.sides.now c.sides.sides c.step_both.new.self c.sides.invariant.2 c.in-Some.ensures.compared (omega (arith, c.sides.invariant.1)) (omega (arith, c.in-Some.ensures.counted)) a b))

pub returns-clause-steps : goal.returns-clause-steps
returns-clause-steps g c =
    let none = intersection_rest_over g.K.AsBytes.bytes c.sides.sides c.in_default.ensures.end in
    (c.sides.invariant.0 ∙ none, rw c.in_default.ensures.unchanged none)

pub returns-in-Some-of_both-clause-compared : goal.returns-in-Some-of_both-clause-compared
returns-in-Some-of_both-clause-compared g c = compared_then c.args.sides.now c.sides.sides c.step_both.new.self c.sides.invariant.2 c.in-Some.ensures.compared (omega (arith, c.sides.invariant.1)) (omega (arith, c.in-Some.ensures.counted))

pub returns-clause-compared : goal.returns-clause-compared
returns-clause-compared g c = compared_then c.args.sides.now c.sides.sides c.step_both.new.self c.sides.invariant.2 c.in_default.ensures.compared (omega (arith, c.sides.invariant.1)) (omega (arith, c.in_default.ensures.counted))
