use Rattle.blart_set.proofs.Orders.{drop_ascends}
use Rattle.blart_set.proofs.Stepping.{steps_right, steps_left}
use Rattle.blart_set.proofs.merges.sides.Sides.step.Goals as goal

pub returns-in_default-clause-steps : goal.returns-in_default-clause-steps
returns-in_default-clause-steps g c = rw (← c.self.view_is) (rw c.advance.ensures (steps_right g.K.AsBytes.bytes c.self.inside.left c.self.inside.right c.self.invariant.0 c.self.invariant.1 0 0 c.in_ok-y.y c.in_default.ensures c.in_ok-y.ensures))

pub invariant_of-self-in_default-peek : goal.invariant_of-self-in_default-peek
invariant_of-self-in_default-peek g c = (rw c.advance-in_default-peek.ensures (drop_ascends g.K.AsBytes.bytes c.self.inside.left c.self.invariant.0), c.self.invariant.1)

pub returns-in_default-peek-clause-steps : goal.returns-in_default-peek-clause-steps
returns-in_default-peek-clause-steps g c = rw (← c.self.view_is) (rw c.advance-in_default-peek.ensures (steps_left g.K.AsBytes.bytes c.self.inside.left c.self.inside.right c.self.invariant.0 c.self.invariant.1 0 0 c.in-Some.x c.in-Some.ensures c.in_default-peek.ensures))
