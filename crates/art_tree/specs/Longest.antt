-- The length of the longest key.
use Rattle.std.specs.Prelude.{ℕ, List, [], ◌∷◌, length, max}

-- the length of the longest item, or 0
abbrev pub longest : {X : Type 0} → (X → List ℕ) → List X → ℕ
longest bytes [] = 0
longest bytes (x ∷ S) = max (length (bytes x)) (longest bytes S)
