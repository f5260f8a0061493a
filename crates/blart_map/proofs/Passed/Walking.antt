-- What a walk over a tree says of the pairs of a map.
use Rattle.std.proofs.Common.{◌≡◌, ℕ, List, [], ◌∷◌, max, length, refl, ap}
use Rattle.art_tree.specs.Leaves.{Numbered, bytes}
use Rattle.art_tree.specs.Longest.{longest}
use Rattle.blart_keys.specs.Steps.{bytes as pair_bytes}
use Rattle.art_tree.specs.Pairs.{pairs_of}

module _ {K V : Type 0} (key_bytes : K → List ℕ) where
  -- the longest key is the same without numbers
  pub longest_pairs : (ps : List (Numbered K V)) → longest (pair_bytes key_bytes) (pairs_of ps) ≡ longest (bytes key_bytes) ps
  longest_pairs [] = refl
  longest_pairs (p ∷ ps) = ap (max (length (bytes key_bytes p))) (longest_pairs ps)
