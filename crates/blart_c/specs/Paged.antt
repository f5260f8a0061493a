-- What a page has of a list of pairs.
use Rattle.std.specs.Prelude.{ℕ, ◌≡◌, ◌+◌, ◌≤◌, Bool, true, false, List, [], ◌∷◌, ◌++◌, length, take, drop, map, slice_get, option_map, unwrap_or, if◌then◌else◌}
use Rattle.std.specs.declared.ops.Bound.{Bound}
use Rattle.std.specs.declared.ops.Bound.TheVariants.{Included, Excluded}
use Rattle.blart_keys.specs.Bytes.{less}
use Rattle.blart_c.specs.Held.{Pair, key_length}

-- the start bound of a page, which excludes q itself if `skip` is true
abbrev pub start_at : Bool → List ℕ → Bound (List ℕ)
start_at true q = Excluded q
start_at false q = Included q

-- the end bound of a page
abbrev pub end_at : Bool → List ℕ → Bound (List ℕ)
end_at true q = Included q
end_at false q = Excluded q

-- the start bound of a page of the keys that begin with p: p, if q is less
abbrev pub later : Bool → List ℕ → List ℕ → Bound (List ℕ)
later skip q p = if less q p then Included p else start_at skip q

-- the bytes of the keys, one key after another
abbrev pub key_bytes : List Pair → List ℕ
key_bytes [] = []
key_bytes (pair ∷ pairs) = pair.0.items ++ key_bytes pairs

-- where each key ends, if the first begins at n
abbrev pub ends_from : ℕ → List Pair → List ℕ
ends_from n [] = []
ends_from n (pair ∷ pairs) = (n + key_length pair) ∷ ends_from (n + key_length pair) pairs

-- the values
abbrev pub values_of : List Pair → List ℕ
values_of = map (λ pair. pair.1)

-- the buffer `old`, once it begins with `new`
abbrev pub over : List ℕ → List ℕ → List ℕ
over new old = new ++ drop (length new) old

-- the first n pairs fit into buffers of these lengths
pub record Fits (S : List Pair) (n key_room end_room value_room : ℕ) : Type 0 where
  pub stored : n ≤ length S
  pub keys : length (key_bytes (take n S)) ≤ key_room
  pub ends : n ≤ end_room
  pub values : n ≤ value_room

-- the first n pairs of S are copied into the buffers, and no more would fit
pub record IsPage (S : List Pair) (n : ℕ) (keys keys' ends ends' values values' : List ℕ) (needed : ℕ) : Type 0 where
  pub fits : Fits S n (length keys) (length ends) (length values)
  pub most : ¬ Fits S (n + 1) (length keys) (length ends) (length values)
  pub copied_keys : keys' ≡ over (key_bytes (take n S)) keys
  pub copied_ends : ends' ≡ over (ends_from 0 (take n S)) ends
  pub copied_values : values' ≡ over (values_of (take n S)) values
  pub next : needed ≡ unwrap_or (option_map key_length (slice_get S n)) 0
