use Rattle.std.proofs.Common.{◌≡◌, ◌≤◌, length, drop, All}
use Rattle.art_tree.proofs.tree.build.first_at.Given as goal

abbrev pub invariant-back : goal.invariant-back
invariant-back l = record { within : l.from ≤ length l.loose; group : All (λ e. e.depth ≡ l.depth) (drop l.from l.loose) }

abbrev pub decreases-back : goal.decreases-back
decreases-back l = l.from
