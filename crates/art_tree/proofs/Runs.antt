-- The leaves beside the ends of a walk.
use Rattle.std.proofs.Common.{◌≡◌, ◌≢◌, ℕ, List, Option, Some, None, sym, subst}
use Rattle.std.specs.Prelude.{IfSome}
use Rattle.art_tree.specs.Leaves.{Following, Numbered, RunsBefore, StandsAfter}
use Rattle.art_tree.specs.Spans.{StandsBeside}

module _ {K V : Type 0} (ps : List (Numbered K V)) (rows : List (ℕ × List ℕ)) (first last : ℕ) (following : Following) (before : List ℕ) where
  -- the leaves beside the two ends
  pub stands_after : (ends : Option (ℕ × ℕ)) → ends ≡ Some (first, last) → StandsBeside ends following before ps rows → first ≢ last → StandsAfter ps rows first following
  stands_after ends e f = (subst (λ (o : Option (ℕ × ℕ)). StandsBeside o following before ps rows) e f).0

  pub runs_before : (ends : Option (ℕ × ℕ)) → ends ≡ Some (first, last) → StandsBeside ends following before ps rows → RunsBefore ps last before
  runs_before ends e f = (subst (λ (o : Option (ℕ × ℕ)). StandsBeside o following before ps rows) e f).1

  -- if another leaf is the first end, and the last one is unchanged
  pub beside_first : (ends : Option (ℕ × ℕ)) (now : Following) → IfSome ends (λ e. e.1 ≡ last) → IfSome ends (λ e. StandsAfter ps rows e.0 now) → RunsBefore ps last before → StandsBeside ends now before ps rows
  beside_first None now s r b = tt
  beside_first (Some e) now s r b = (λ _. r, subst (λ n. RunsBefore ps n before) (sym s) b)

  -- if another leaf is the last end, and the first one is unchanged
  pub beside_last : (ends : Option (ℕ × ℕ)) (now : List ℕ) → IfSome ends (λ e. e.0 ≡ first) → IfSome ends (λ e. RunsBefore ps e.1 now) → (first ≡ last → ends ≡ None) → (first ≢ last → StandsAfter ps rows first following) → StandsBeside ends following now ps rows
  beside_last None now s r one b = tt
  beside_last (Some e) now s r one b = ((λ _. subst (λ n. StandsAfter ps rows n following) (sym s) (b (λ q. let z : Some e ≡ None = one q in absurd cc))), r)
