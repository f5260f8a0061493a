-- Bounds on byte lists.
use Rattle.std.specs.Prelude.{◌≡◌, ◌⊎◌, ℕ, Bool, true, not, List, []}
use Rattle.std.specs.declared.ops.Bound.{Bound}
use Rattle.std.specs.declared.ops.Bound.TheVariants.{Included, Excluded, Unbounded}
use denote.Ref.{Bor}
use Rattle.blart_keys.specs.Bytes.{less}

-- b is within a start bound
abbrev pub is_from_start : Bound (List ℕ) → List ℕ → Bool
is_from_start (Included lo) b = not (less b lo)
is_from_start (Excluded lo) b = less lo b
is_from_start Unbounded b = true

-- b is within an end bound
abbrev pub is_up_to_end : Bound (List ℕ) → List ℕ → Bool
is_up_to_end (Included hi) b = not (less hi b)
is_up_to_end (Excluded hi) b = less b hi
is_up_to_end Unbounded b = true

-- the start is not greater than the end, and they are not equal if both are excluded
abbrev pub in_order : Bound (List ℕ) → Bound (List ℕ) → Bool
in_order (Included lo) (Included hi) = not (less hi lo)
in_order (Included lo) (Excluded hi) = not (less hi lo)
in_order (Included lo) Unbounded = true
in_order (Excluded lo) (Included hi) = not (less hi lo)
in_order (Excluded lo) (Excluded hi) = less lo hi
in_order (Excluded lo) Unbounded = true
in_order Unbounded hi = true

-- there are no items, or the bounds are in order
abbrev pub CanRange : {X : Type 0} → List X → Bound (List ℕ) → Bound (List ℕ) → Type 0
CanRange S lo hi = (S ≡ []) ⊎ (in_order lo hi ≡ true)

-- a bound on a query, by the query's bytes
abbrev pub bound_bytes : {Q : Type 0} → (Q → List ℕ) → Bound (Bor Q) → Bound (List ℕ)
bound_bytes bytes (Included q) = Included (bytes q.now)
bound_bytes bytes (Excluded q) = Excluded (bytes q.now)
bound_bytes bytes Unbounded = Unbounded

-- a bound of bytes, by the bytes themselves
abbrev pub slice_bound : Bound (Bor (List ℕ)) → Bound (List ℕ)
slice_bound b = bound_bytes (λ q. q) b
