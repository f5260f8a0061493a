-- Numbers in low and high halves: a read, a write, a part and a longer list, as numbers.
use Rattle.std.proofs.Common.{◌≡◌, ℕ, zero, suc, ◌+◌, ◌*◌, ◌^◌, ◌<◌, ◌≤◌, List, [], ◌∷◌, ◌++◌, length, take, drop, get_or, set, replicate, refl, ap, ◌∙◌, arith}
use Rattle.std.proofs.Math.Seq.{take-append_seam}
use Rattle.art_slots.specs.Words.{numbers, block_at}

-- there are as many numbers as low halves
pub length-numbers : (low high : List ℕ) → length (numbers low high) ≡ length low
length-numbers [] high = refl
length-numbers (l ∷ low) [] = refl
length-numbers (l ∷ low) (h ∷ high) = ap suc (length-numbers low high)

-- a number with no high half is its low half
pub at-low : (low high : List ℕ) (i : ℕ) → length high ≤ i → get_or (numbers low high) i 0 ≡ get_or low i 0
at-low [] high i p = refl
at-low (l ∷ low) [] i p = refl
at-low (l ∷ low) (h ∷ high) zero p = absurd (omega arith)
at-low (l ∷ low) (h ∷ high) (suc i) p = at-low low high i (omega arith)

-- a number with a high half is made of both halves
pub at-both : (low high : List ℕ) (i : ℕ) → i < length low → i < length high → get_or (numbers low high) i 0 ≡ get_or low i 0 + get_or high i 0 * 2 ^ 32
at-both [] high i p q = absurd (omega arith)
at-both (l ∷ low) [] i p q = absurd (omega arith)
at-both (l ∷ low) (h ∷ high) zero p q = refl
at-both (l ∷ low) (h ∷ high) (suc i) p q = at-both low high i (omega arith) (omega arith)

-- a write of a low half alone is a write of the number
pub set-low : (low high : List ℕ) (i a : ℕ) → length high ≤ i → numbers (set low i a) high ≡ set (numbers low high) i a
set-low [] high i a p = refl
set-low (l ∷ low) [] zero a p = refl
set-low (l ∷ low) [] (suc i) a p = refl
set-low (l ∷ low) (h ∷ high) zero a p = absurd (omega arith)
set-low (l ∷ low) (h ∷ high) (suc i) a p = ap (λ ns. (l + h * 2 ^ 32) ∷ ns) (set-low low high i a (omega arith))

-- a write of both halves is a write of the number
pub set-both : (low high : List ℕ) (i a b : ℕ) → i < length high → numbers (set low i a) (set high i b) ≡ set (numbers low high) i (a + b * 2 ^ 32)
set-both [] high i a b p = refl
set-both (l ∷ low) [] i a b p = absurd (omega arith)
set-both (l ∷ low) (h ∷ high) zero a b p = refl
set-both (l ∷ low) (h ∷ high) (suc i) a b p = ap (λ ns. (l + h * 2 ^ 32) ∷ ns) (set-both low high i a b (omega arith))

-- high halves that are zeros change no number
none-high : (low : List ℕ) (n : ℕ) → numbers low (replicate n 0) ≡ low
none-high [] n = refl
none-high (l ∷ low) zero = refl
none-high (l ∷ low) (suc n) =
    let e : l + 0 * 2 ^ 32 ≡ l = omega arith in
    rw (e, none-high low n) refl

pub zeros-high : (low high : List ℕ) (n : ℕ) → numbers low (high ++ replicate n 0) ≡ numbers low high
zeros-high [] high n = refl
zeros-high (l ∷ low) [] n = none-high (l ∷ low) n
zeros-high (l ∷ low) (h ∷ high) n = ap (λ ns. (l + h * 2 ^ 32) ∷ ns) (zeros-high low high n)

-- more low halves do not change the numbers before them
pub take-numbers : (low more high : List ℕ) → take (length low) (numbers (low ++ more) high) ≡ numbers low high
take-numbers [] more high = refl
take-numbers (l ∷ low) more [] = ap (λ ns. l ∷ ns) (take-append_seam low more)
take-numbers (l ∷ low) more (h ∷ high) = ap (λ ns. (l + h * 2 ^ 32) ∷ ns) (take-numbers low more high)

-- numbers with no high halves are their low halves
pub numbers-low : (low : List ℕ) → numbers low [] ≡ low
numbers-low [] = refl
numbers-low (l ∷ low) = refl

-- the first numbers, and the rest, are those of the first halves, and of the rest
pub numbers-take : (low high : List ℕ) (n : ℕ) → numbers (take n low) (take n high) ≡ take n (numbers low high)
numbers-take low high zero = refl
numbers-take [] high (suc n) = refl
numbers-take (l ∷ low) [] (suc n) = refl
numbers-take (l ∷ low) (h ∷ high) (suc n) = ap (λ ns. (l + h * 2 ^ 32) ∷ ns) (numbers-take low high n)

pub numbers-drop : (low high : List ℕ) (n : ℕ) → numbers (drop n low) (drop n high) ≡ drop n (numbers low high)
numbers-drop low high zero = refl
numbers-drop [] high (suc n) = refl
numbers-drop (l ∷ low) [] (suc n) = numbers-low (drop n low)
numbers-drop (l ∷ low) (h ∷ high) (suc n) = numbers-drop low high n

-- the numbers of a block are those of the two blocks of halves
pub numbers-block : (low high : List ℕ) (i : ℕ) → numbers (block_at low i) (block_at high i) ≡ block_at (numbers low high) i
numbers-block low high i = numbers-take (drop (64 * i) low) (drop (64 * i) high) 64 ∙ ap (take 64) (numbers-drop low high (64 * i))

-- the numbers of two lists, one after the other
pub numbers-append : (low more high rest : List ℕ) → length low ≡ length high → numbers (low ++ more) (high ++ rest) ≡ numbers low high ++ numbers more rest
numbers-append [] more [] rest e = refl
numbers-append [] more (h ∷ high) rest e = absurd (omega arith)
numbers-append (l ∷ low) more [] rest e = absurd (omega arith)
numbers-append (l ∷ low) more (h ∷ high) rest e = ap (λ ns. (l + h * 2 ^ 32) ∷ ns) (numbers-append low more high rest (omega arith))
