-- What contracts see of a map: its pairs in byte order, each under its leaf's number.
use Rattle.std.specs.Prelude.{List}
pub use Rattle.art_tree.specs.Leaves.{Numbered}
use Rattle.art_tree.specs.Pairs.{pairs_of}

-- the pairs without the numbers; it stays closed in proofs
unfoldable pub pairs : {K V : Type 0} → List (Numbered K V) → List (K × V)
pairs leaves = pairs_of leaves
