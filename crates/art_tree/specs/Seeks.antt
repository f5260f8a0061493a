-- The pair at the end of a bound, and the ends of some pairs.
use Rattle.std.specs.Prelude.{ℕ, Bool, true, false, List, [], ◌∷◌, length, Option, option_map, None}
use Rattle.std.specs.declared.ops.Bound.{Bound}
use Rattle.std.specs.declared.ops.Bound.TheVariants.{Included, Excluded, Unbounded}
use Rattle.blart_keys.specs.Content.{between}
use Rattle.art_tree.specs.Leaves.{Numbered, first_number, last_number}

-- the number of bytes of a bound
abbrev pub bound_len : Bound (List ℕ) → ℕ
bound_len (Included b) = length b
bound_len (Excluded b) = length b
bound_len Unbounded = 0

module _ {K V : Type 0} where
  -- the number of the first pair within a start bound, or of the last pair within an end bound
  abbrev pub number_within : (Numbered K V → List ℕ) → List (Numbered K V) → Bound (List ℕ) → Bool → Option ℕ
  number_within bytes S b true = first_number (between bytes S b Unbounded)
  number_within bytes S b false = last_number (between bytes S Unbounded b)

  -- the numbers of the first pair and of the last pair, if there are pairs
  abbrev pub ends : List (Numbered K V) → Option (ℕ × ℕ)
  ends [] = None
  ends (p ∷ ps) = option_map (λ last. (p.0, last)) (last_number (p ∷ ps))
