-- The longest common prefixes of neighbours.
use Rattle.std.specs.Prelude.{ℕ, List, [], ◌∷◌, filter_map, length, slice_get, if◌then◌else◌}
use Rattle.std.specs.Ordering.{nat_cmp}
use Rattle.std.specs.FinSet as set
use Rattle.blart_keys.specs.Bytes.{bytes_cmp, common}
use Rattle.blart_keys.specs.Content.{under}

module _ {X : Type 0} (bytes : X → List ℕ) where
  -- the longest common prefix of each two neighbours, in order
  abbrev pub commons : List X → List (List ℕ)
  commons [] = []
  commons (x ∷ []) = []
  commons (x ∷ y ∷ S) = common (bytes x) (bytes y) ∷ commons (y ∷ S)

  -- the set of these prefixes
  abbrev pub fronts : List X → set.FinSet bytes_cmp
  fronts S = set.from_list (commons S)

  -- the next bytes after f in the items that begin with f, if f is one of these prefixes
  abbrev pub parts : List X → List ℕ → set.FinSet nat_cmp
  parts S f = if set.contains (fronts S) f then set.from_list (filter_map (λ x. slice_get (bytes x) (length f)) (under bytes S f)) else set.empty
