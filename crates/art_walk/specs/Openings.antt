-- The number of visits that the opening of a walk makes.
use Rattle.std.specs.Prelude.{ℕ, ◌+◌, ◌*◌, max, List}
use Rattle.std.specs.declared.ops.Bound.{Bound}
use Rattle.art_tree.specs.Seeks.{bound_len}

-- the number of bytes of the longer of two bounds
abbrev pub longer : Bound (List ℕ) → Bound (List ℕ) → ℕ
longer lo hi = max (bound_len lo) (bound_len hi)

-- the most visits that the opening makes, for a query of n bytes and a longest key of l bytes
abbrev pub opening : ℕ → ℕ → ℕ
opening n l = 2 * (n + 2) * (l + 2)
