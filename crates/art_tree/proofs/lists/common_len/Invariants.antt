use Rattle.std.proofs.Common.{◌≡◌, ◌+◌, ◌-◌, ◌≤◌, length, drop}
use Rattle.blart_keys.specs.Bytes.{common}
use Rattle.art_tree.proofs.lists.common_len.Given as goal

abbrev pub invariant-loop-n : goal.invariant-loop-n
invariant-loop-n l = record { in_a : l.n ≤ length l.a; so_far : l.n + length (common (drop l.n l.a) (drop l.n l.b)) ≡ length (common l.a l.b) }

abbrev pub decreases-loop-n : goal.decreases-loop-n
decreases-loop-n l = length l.a - l.n
