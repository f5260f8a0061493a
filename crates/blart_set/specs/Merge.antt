-- What a contract sees of a merge of two sets.
use Rattle.std.specs.Prelude.{ℕ, List}

-- what both sides have left, and how many comparisons were made
pub record Merge (K : Type 0) : Type 0 where
  pub left : List K
  pub right : List K
  pub compares : ℕ
