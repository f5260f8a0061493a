use Rattle.std.proofs.Common.{sym}
use Rattle.blart_set.proofs.Orders.{drop_ascends}
use Rattle.blart_set.proofs.Stepping.{steps_less, steps_equal, steps_greater}
use Rattle.blart_set.proofs.merges.sides.Sides.step_least.Goals as goal

pub invariant_of-self : goal.invariant_of-self
invariant_of-self g c = (rw c.advance.ensures (drop_ascends g.K.AsBytes.bytes c.self.inside.left c.self.invariant.0), c.self.invariant.1)

pub invariant_of-self-in-Equal : goal.invariant_of-self-in-Equal
invariant_of-self-in-Equal g c = (rw c.advance-in-Equal.ensures (drop_ascends g.K.AsBytes.bytes c.self.inside.left c.self.invariant.0), rw c.advance-in-Equal-2.ensures (drop_ascends g.K.AsBytes.bytes c.self.inside.right c.self.invariant.1))

pub invariant_of-self-in-Greater : goal.invariant_of-self-in-Greater
invariant_of-self-in-Greater g c = (c.self.invariant.0, rw c.advance-in-Greater.ensures (drop_ascends g.K.AsBytes.bytes c.self.inside.right c.self.invariant.1))

pub returns-in-Less-clause-steps : goal.returns-in-Less-clause-steps
returns-in-Less-clause-steps g c = rw (← c.self.view_is) (rw c.advance.ensures (steps_less g.K.AsBytes.bytes c.self.inside.left c.self.inside.right c.self.invariant.0 c.self.invariant.1 0 0 c.args.x c.args.y (rw (← c.self.view_is) at c.requires.left) (rw (← c.self.view_is) at c.requires.right) (sym c.in-Less.ensures.order)))

pub returns-in-Equal-clause-steps : goal.returns-in-Equal-clause-steps
returns-in-Equal-clause-steps g c = rw (← c.self.view_is) (rw c.advance-in-Equal.ensures (rw c.advance-in-Equal-2.ensures (steps_equal g.K.AsBytes.bytes c.self.inside.left c.self.inside.right c.self.invariant.0 c.self.invariant.1 0 0 c.args.x c.args.y (rw (← c.self.view_is) at c.requires.left) (rw (← c.self.view_is) at c.requires.right) (sym c.in-Equal.ensures.order))))

pub returns-in-Greater-clause-steps : goal.returns-in-Greater-clause-steps
returns-in-Greater-clause-steps g c = rw (← c.self.view_is) (rw c.advance-in-Greater.ensures (steps_greater g.K.AsBytes.bytes c.self.inside.left c.self.inside.right c.self.invariant.0 c.self.invariant.1 0 0 c.args.x c.args.y (rw (← c.self.view_is) at c.requires.left) (rw (← c.self.view_is) at c.requires.right) (sym c.in-Greater.ensures.order)))
