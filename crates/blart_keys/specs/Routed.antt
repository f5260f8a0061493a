-- What a query finds, and what overlaps, after a call.
use Rattle.std.specs.Prelude.{◌≡◌, ◌≢◌, ℕ, true, false, List, Option, None, Some, if◌then◌else◌}
use Rattle.blart_keys.specs.Bytes.{begins, related}
use Rattle.blart_keys.specs.Stored.{overlaps}

-- the item, unless its bytes are a prefix of q
abbrev pub spared_item : {X : Type 0} → (X → List ℕ) → List ℕ → Option X → Option X
spared_item bytes q None = None
spared_item bytes q (Some x) = if begins (bytes x) q then None else Some x

-- S' has the bytes q too: it overlaps all others that are related to q, and the rest as S does
pub record OverlapsToo {K V : Type 0} (kb : K → List ℕ) (S S' : List (K × V)) (q : List ℕ) : Type 0 where
  pub there : overlaps kb S' q ≡ overlaps kb S q
  pub near : (r : List ℕ) → related r q ≡ true → r ≢ q → overlaps kb S' r ≡ true
  pub others : (r : List ℕ) → related r q ≡ false → overlaps kb S' r ≡ overlaps kb S r
