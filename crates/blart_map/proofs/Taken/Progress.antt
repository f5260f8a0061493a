-- A walk that takes pairs out makes progress.
use Rattle.std.proofs.Common.{ℕ, ◌<◌, Option, Some, None, IfSome}
use Rattle.std.specs.Iterator.{MakesProgress, at_most}

-- a walk makes progress if it may be called again, and has fewer pairs left if it returned one
pub goes_on : {S A : Type 0} (can : S → Type 0) (left : S → ℕ) (s t : S) (r : Option A) → can t → IfSome r (λ _. left t < left s) → MakesProgress can (λ s. at_most (left s)) s r t
goes_on can left s t None again less = record { on = λ finite. tt; keeps = tt; rests = λ _. tt }
goes_on can left s t (Some x) again less = record { on = λ finite. (again, finite, less); keeps = again; rests = λ _. tt }
