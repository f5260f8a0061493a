-- Pairs without the ids of their leaves.
use Rattle.std.specs.Prelude.{List, map}
use Rattle.art_tree.specs.Leaves.{Numbered}

-- the pairs in their order, without the ids of their leaves
abbrev pub pairs_of : {K V : Type 0} → List (Numbered K V) → List (K × V)
pairs_of ps = map (λ p. p.1) ps
