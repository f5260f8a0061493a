use Rattle.std.proofs.Common.{rules}
use Rattle.blart_set.specs.Merging.{union_rest}
use Rattle.blart_set.proofs.Stepping.{union_rest_step, longer}
use Rattle.blart_set.proofs.merges.union.UnionIterator.next.Goals as goal

pub returns-clause-steps : goal.returns-clause-steps
returns-clause-steps g c = rw (← c.self.view_is) (rw c.element.ensures (union_rest_step g.K.AsBytes.bytes c.self.inside.sides c.step.new.self c.in_ok-side.side c.in_ok-side.ensures.steps))

pub returns-clause-goes : goal.returns-clause-goes
returns-clause-goes g c =
    let less = longer (union_rest g.K.AsBytes.bytes c.args.self.now) (union_rest g.K.AsBytes.bytes c.step.new.self) c.element.result.now (returns-clause-steps g c) in
    record { on = λ finite. (tt, finite, less); keeps = tt; rests = λ _. tt; counted = search rules; compared = search rules }
