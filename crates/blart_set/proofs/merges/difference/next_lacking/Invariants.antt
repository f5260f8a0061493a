use Rattle.std.proofs.Common.{◌≡◌, ◌+◌, length}
use Rattle.blart_set.specs.Merging.{difference_rest, Counts}
use Rattle.blart_set.proofs.Comparing.{HasOrRests}
use Rattle.blart_set.proofs.merges.difference.next_lacking.Given as goal

abbrev pub invariant-sides : goal.invariant-sides
invariant-sides g l = (difference_rest g.K.AsBytes.bytes l.initial.sides ≡ difference_rest g.K.AsBytes.bytes l.sides) × Counts l.initial.sides l.sides × HasOrRests l.initial.sides l.sides

abbrev pub decreases-sides : goal.decreases-sides
decreases-sides g l = length l.sides.left + length l.sides.right
