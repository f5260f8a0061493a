-- The best of the pairs whose bytes pass a test.
use Rattle.std.specs.Prelude.{◌≡◌, ℕ, Bool, true, List, length, ltb, Option, None, Some, if◌then◌else◌}
use Rattle.std.specs.declared.ops.Bound.{Bound}
use Rattle.std.specs.declared.ops.Bound.TheVariants.{Included, Excluded, Unbounded}
use Rattle.blart_keys.specs.Bytes.{begins}
use Rattle.blart_keys.specs.Stored.{pair_at}

-- a has more bytes than b
abbrev pub is_longer : List ℕ → List ℕ → Bool
is_longer a b = ltb (length b) (length a)

-- a has fewer bytes than b
abbrev pub is_shorter : List ℕ → List ℕ → Bool
is_shorter a b = ltb (length a) (length b)

-- a start bound at bytes that begin with f
abbrev pub StartsUnder : List ℕ → Bound (List ℕ) → Type 0
StartsUnder f (Included b) = begins f b ≡ true
StartsUnder f (Excluded b) = begins f b ≡ true
StartsUnder f Unbounded = ⊥

module _ {K V : Type 0} (kb : K → List ℕ) where
  -- S has the pair p, its bytes pass, and S has no better bytes that pass. If there is no p, S has
  -- no bytes that pass
  abbrev pub IsBest : (List ℕ → Bool) → (List ℕ → List ℕ → Bool) → List (K × V) → Option (K × V) → Type 0
  IsBest test is_better S None = (r : List ℕ) → test r ≡ true → pair_at kb S r ≡ None
  IsBest test is_better S (Some p) = (pair_at kb S (kb p.0) ≡ Some p) × (test (kb p.0) ≡ true) × ((r : List ℕ) → test r ≡ true → is_better r (kb p.0) ≡ true → pair_at kb S r ≡ None)

  -- the second pair if it is better, and else the first; the one there is
  abbrev pub better : (List ℕ → List ℕ → Bool) → Option (K × V) → Option (K × V) → Option (K × V)
  better is_better None o = o
  better is_better (Some x) None = Some x
  better is_better (Some x) (Some y) = if is_better (kb y.0) (kb x.0) then Some y else Some x
