-- What a map holds, in the terms of the calls.
use Rattle.std.specs.Prelude.{ℕ, ◌-◌, List, Vec, Option, option_map, length, slice_get}
use Rattle.std.specs.Global.{Global}
use Rattle.std.specs.declared.ops.Bound.TheVariants.{Excluded, Unbounded}
use Rattle.blart_keys.specs.Content.{between}
use Rattle.blart_keys.specs.KeyBytes.{vec_bytes}
use Rattle.blart_keys.specs.Steps.{bytes}
use Rattle.blart_map.specs.Content.{pairs}
use Rattle.blart_c.specs.declared.handle.ArtMap.{ArtMap}

-- a pair of a map
abbrev pub Pair : Type 0
Pair = Vec ℕ Global × ℕ

-- the pairs of the map to which a handle leads
abbrev pub held : ArtMap → List Pair
held m = pairs m.tree.map

-- a pair as C sees it: the key's bytes, and the value
abbrev pub plain : Pair → List ℕ × ℕ
plain pair = (pair.0.items, pair.1)

-- the number of bytes of the key
abbrev pub key_length : Pair → ℕ
key_length pair = length pair.0.items

-- the pairs whose keys are greater than q
abbrev pub above : List Pair → List ℕ → List Pair
above S q = between (bytes vec_bytes) S (Excluded q) Unbounded

-- the pairs whose keys are less than q
abbrev pub below : List Pair → List ℕ → List Pair
below S q = between (bytes vec_bytes) S Unbounded (Excluded q)

-- the first pair, as C sees it
abbrev pub first_of : List Pair → Option (List ℕ × ℕ)
first_of S = option_map plain (slice_get S 0)

-- the last pair
abbrev pub last_of : List Pair → Option (List ℕ × ℕ)
last_of S = option_map plain (slice_get S (length S - 1))
