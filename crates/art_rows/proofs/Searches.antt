-- Where a search for a number ends.
use Rattle.std.proofs.Common.{◌≡◌, ◌≢◌, ℕ, zero, suc, ◌<◌, List, [], ◌∷◌, length, get_or, refl, ap, eq-eqb, inl, inr, arith}
use Rattle.std.proofs.lemmas.Bool.Decides.{eqb_tells}
use Rattle.art_rows.specs.Rows.{index_in}

-- the index of a number that is not in the list is after all numbers
pub found_nowhere : (ns : List ℕ) (n : ℕ) → ((k : ℕ) → k < length ns → get_or ns k 0 ≢ n) → index_in ns n ≡ length ns
found_nowhere [] n h = refl
found_nowhere (m ∷ ns) n h = elim (eqb_tells m n) [
  | inl t ↦ absurd (h 0 (omega arith) t.1)
  | inr t ↦ rw t.0 (ap suc (found_nowhere ns n (λ k l. h (suc k) (omega arith))))
]

-- the index of a number is the first index at which it is found
pub found_first : (ns : List ℕ) (n k : ℕ) → k < length ns → get_or ns k 0 ≡ n → ((j : ℕ) → j < k → get_or ns j 0 ≢ n) → index_in ns n ≡ k
found_first [] n k l e h = absurd (omega arith)
found_first (m ∷ ns) n zero l e h = rw (eq-eqb m n e) refl
found_first (m ∷ ns) n (suc k) l e h = elim (eqb_tells m n) [
  | inl t ↦ absurd (h 0 (omega arith) t.1)
  | inr t ↦ rw t.0 (ap suc (found_first ns n k (omega arith) e (λ j l. h (suc j) (omega arith))))
]
