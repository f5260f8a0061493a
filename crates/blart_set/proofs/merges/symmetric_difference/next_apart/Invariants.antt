use Rattle.std.proofs.Common.{◌≡◌, ◌+◌, length}
use Rattle.blart_set.specs.Merging.{symmetric_difference_rest, Counts}
use Rattle.blart_set.proofs.Comparing.{HasOrRests}
use Rattle.blart_set.proofs.merges.symmetric_difference.next_apart.Given as goal

abbrev pub invariant-sides : goal.invariant-sides
invariant-sides g l = (symmetric_difference_rest g.K.AsBytes.bytes l.initial.sides ≡ symmetric_difference_rest g.K.AsBytes.bytes l.sides) × Counts l.initial.sides l.sides × HasOrRests l.initial.sides l.sides

abbrev pub decreases-sides : goal.decreases-sides
decreases-sides g l = length l.sides.left + length l.sides.right
