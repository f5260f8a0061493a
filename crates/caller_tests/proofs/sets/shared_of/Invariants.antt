use Rattle.std.proofs.Common.{◌≡◌, ◌++◌, length}
use Rattle.blart.specs.Words.{elements, intersection, intersection_rest}
use Rattle.caller_tests.proofs.sets.shared_of.Given as goal

abbrev pub invariant-loop-element : goal.invariant-loop-element
invariant-loop-element g l = intersection g.K.AsBytes.bytes (elements l.a) (elements l.b) ≡ l.both.items ++ intersection_rest g.K.AsBytes.bytes l.element-iterator

abbrev pub decreases-loop-element : goal.decreases-loop-element
decreases-loop-element g l = length (intersection_rest g.K.AsBytes.bytes l.element-iterator)
