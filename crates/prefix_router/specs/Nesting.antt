-- Paths that nest: the pairs whose bytes are prefixes of a path, and the longest of them.
use Rattle.std.specs.Prelude.{◌≡◌, ℕ, ◌-◌, ◌<◌, Bool, true, false, List, length, ltb, slice_get, filter, Option, None, Some, option_map, bytes_eq, if◌then◌else◌}
use Rattle.blart_keys.specs.Bytes.{begins}
use Rattle.blart_keys.specs.Stored.{pair_at}

module _ {K V : Type 0} (kb : K → List ℕ) where
  -- the pairs whose bytes are a prefix of q; if the pairs ascend, from the shortest to the longest
  abbrev pub fronts_of : List (K × V) → List ℕ → List (K × V)
  fronts_of S q = filter (λ p. begins (kb p.0) q) S

  -- the last of these pairs, which is the longest; it stays closed in proofs
  unfoldable pub longest_front : List (K × V) → List ℕ → Option (K × V)
  longest_front S q = slice_get (fronts_of S q) (length (fronts_of S q) - 1)

  -- S has the pair p, its bytes are a prefix of q, and S has no longer prefix of q. If there is no
  -- p, S has no prefix of q
  abbrev pub IsLongestFront : List (K × V) → List ℕ → Option (K × V) → Type 0
  IsLongestFront S q None = (r : List ℕ) → begins r q ≡ true → pair_at kb S r ≡ None
  IsLongestFront S q (Some p) = (pair_at kb S (kb p.0) ≡ Some p) × (begins (kb p.0) q ≡ true) × ((r : List ℕ) → begins r q ≡ true → length (kb p.0) < length r → pair_at kb S r ≡ None)

  -- where q leads: the bytes and the value of the longest prefix of q
  abbrev pub lead : List (K × V) → List ℕ → Option (List ℕ × V)
  lead S q = option_map (λ p. (kb p.0, p.1)) (longest_front S q)

-- the first of two leads if its bytes are more, and else the second
abbrev pub longer : {V : Type 0} → Option (List ℕ × V) → List ℕ × V → List ℕ × V
longer None y = y
longer (Some x) y = if ltb (length y.0) (length x.0) then x else y

-- the lead has the bytes q
abbrev pub leads_by : {V : Type 0} → List ℕ → Option (List ℕ × V) → Bool
leads_by q None = false
leads_by q (Some x) = bytes_eq x.0 q
