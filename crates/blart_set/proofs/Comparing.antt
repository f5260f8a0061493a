-- That a merge has compared, or has passed nothing so far.
use Rattle.std.proofs.Common.{◌≡◌, ◌<◌, ◌≤◌, ◌⊎◌, inl, inr, length, subst, arith}
use Rattle.blart_set.specs.Merging.{Merge, HasCompared}

-- if both sides had something left, something was compared, or the merge is unchanged
abbrev pub HasOrRests : {K : Type 0} → Merge K → Merge K → Type 0
HasOrRests old new = 0 < length old.left → 0 < length old.right → (old.compares < new.compares) ⊎ (new ≡ old)

module _ {K : Type 0} (s m n : Merge K) (before : HasOrRests s m) where
  -- one more step
  pub compared_then : HasCompared m n → s.compares ≤ m.compares → m.compares ≤ n.compares → HasCompared s n
  compared_then step first then = λ a b. elim (before a b) [
    | inl less ↦ omega arith
    | inr same ↦ let f : HasCompared s n = subst (λ (x : Merge K). HasCompared x n) same step in f a b
  ]
