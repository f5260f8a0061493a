use Rattle.std.proofs.Common.{◌≡◌, ◌&&◌, length}
use Rattle.std.specs.Cmp.Lexicographic.{pointwise}
use Rattle.art_walk.proofs.compare.eq.Given as goal

abbrev pub invariant-loop-key : goal.invariant-loop-key
invariant-loop-key g l = (length l.left ≡ length l.right) × (pointwise (λ p q. g.K.PartialEq.eq p.0 q.0 && g.V.PartialEq.eq p.1 q.1) l.left l.right ≡ pointwise (λ p q. g.K.PartialEq.eq p.0 q.0 && g.V.PartialEq.eq p.1 q.1) l.initial.left l.initial.right)

abbrev pub decreases-loop-key : goal.decreases-loop-key
decreases-loop-key g l = length l.left
