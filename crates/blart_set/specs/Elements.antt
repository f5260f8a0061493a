-- What contracts see of a set: its elements in byte order, each under its leaf's number.
use Rattle.std.specs.Prelude.{◌≡◌, ◌≢◌, ℕ, Bool, true, false, List, map}
use Rattle.blart_keys.specs.declared.calls.TryInsertError.{TryInsertError}
use Rattle.blart_keys.specs.declared.calls.TryInsertError.TheVariants.{Prefix, Memory}
use Rattle.blart_keys.specs.Bytes.{related}
use Rattle.blart_keys.specs.Content.{conflict, stores}
pub use Rattle.blart_map.specs.Content.{Numbered, pairs}

-- the elements without the numbers; it stays closed in proofs
unfoldable pub elements : {K V : Type 0} → List (Numbered K V) → List K
elements leaves = map (λ p. p.0) (pairs leaves)

-- an insertion at q returns this error: q conflicts, or it fails to allocate and q is new
abbrev pub RefusesElement : {K : Type 0} → (K → List ℕ) → List K → List ℕ → TryInsertError → Type 0
RefusesElement kb S q (Prefix e) = conflict kb S q ≡ true
RefusesElement kb S q (Memory e) = (conflict kb S q ≡ false) × (stores kb S q ≡ false)

-- S' has the bytes q if and only if `there` is true, and of all other bytes those that S has
abbrev pub UpdatesElement : {K : Type 0} → (K → List ℕ) → List K → List K → List ℕ → Bool → Type 0
UpdatesElement kb S S' q there = (stores kb S' q ≡ there) × ((r : List ℕ) → r ≢ q → stores kb S' r ≡ stores kb S r)

-- S' has the bytes q, no others that are related to q, and of all others those that S has
pub record OverwritesElement {K : Type 0} (kb : K → List ℕ) (S S' : List K) (q : List ℕ) : Type 0 where
  pub there : stores kb S' q ≡ true
  pub gone : (r : List ℕ) → related r q ≡ true → r ≢ q → stores kb S' r ≡ false
  pub others : (r : List ℕ) → related r q ≡ false → stores kb S' r ≡ stores kb S r
