-- The laws of the number keys: the bytes of a number make the number, and compare like it.
use mir.Syntax.{Width, w8, w16, w32, w64, w128}
use mir.Val.{bits, hbits}
use Rattle.std.proofs.Common.{◌≡◌, ℕ, zero, suc, ◌+◌, ◌-◌, ◌*◌, ◌/◌, ◌%◌, ◌^◌, ◌<◌, ◌≤◌, List, [], ◌∷◌, inl, inr, length, refl, sym, ap, ◌∙◌, subst, arith, nat_cmp, Ordering, Less, Equal, Greater, mul-le-mul_right, Fits, slice_index}
use Rattle.std.proofs.Math.Arith.{mod-mul}
use Rattle.std.proofs.Math.Nat.{mod-eq_of_lt, div-eq_of_lt, div-eq_of_lt-le, pow-succ', mod-lt}
use Rattle.std.proofs.lemmas.Nat.Bits.{and_pow}
use Rattle.std.proofs.lemmas.Bool.{cases_order, cases_lt}
use Rattle.std.proofs.lemmas.Int.{ints}
use Rattle.std.proofs.Math.Facts.{Fits-of_z, to_z-of_z}
use Rattle.std.specs.Prelude.{bit_xor, bit_and, ℤ, pos, negsuc, ◌<ℤ◌, FitsSigned}
use Rattle.std.specs.List.{AllByRecursion}
use Rattle.std.specs.Cmp.{nat_cmp_is, int_ranks}
use Rattle.std.specs.Ordering.{ordering_then, MatchOrdering, int_cmp}
use Rattle.std.specs.Int.{to_be_bytes, from_be_bytes, cast_unsigned, cast_signed, byte_len, byte_at, byte_worth, bytes_high_first, sum_through}
use Rattle.std.specs.Int.Bits.{xor_add_and}
use Rattle.blart_keys.specs.Bytes.{bytes_cmp}
use Rattle.blart_keys.specs.Keys.{flipped, unflipped}

-- 256 to the power of the number of bytes
abbrev worth : List ℕ → ℕ
worth [] = 1
worth (x ∷ xs) = 256 * worth xs

-- the number that big-endian bytes make
abbrev value : List ℕ → ℕ
value [] = 0
value (x ∷ xs) = x * worth xs + value xs

-- the number that bytes make is less than their `worth`
value-lt : (xs : List ℕ) → AllByRecursion (λ x. x < 256) xs → value xs < worth xs
value-lt [] h = omega arith
value-lt (x ∷ xs) h =
    let l : value xs < worth xs = value-lt xs h.1 in
    let b : x ≤ 255 = (let k : x < 256 = h.0 in omega arith) in
    let m : x * worth xs ≤ 255 * worth xs = mul-le-mul_right (worth xs) b in
    omega arith

-- lists of the same length have the same `worth`
same_worth : (xs ys : List ℕ) → length xs ≡ length ys → worth xs ≡ worth ys
same_worth [] [] e = refl
same_worth [] (y ∷ ys) e = absurd (omega arith)
same_worth (x ∷ xs) [] e = absurd (omega arith)
same_worth (x ∷ xs) (y ∷ ys) e = ap (λ n. 256 * n) (same_worth xs ys (omega arith))

-- the greater first byte decides
lower : (x y w u v : ℕ) → x < y → u < w → x * w + u < y * w + v
lower x y w u v l m =
    let b : suc x ≤ y = l in
    let h : suc x * w ≤ y * w = mul-le-mul_right w b in
    let s : suc x * w ≡ x * w + w = omega arith in
    omega arith

-- byte lists of one length compare like their numbers
value_order : (xs ys : List ℕ) → length xs ≡ length ys → AllByRecursion (λ x. x < 256) xs → AllByRecursion (λ x. x < 256) ys → bytes_cmp xs ys ≡ nat_cmp (value xs) (value ys)
value_order [] [] e h k = refl
value_order [] (y ∷ ys) e h k = absurd (omega arith)
value_order (x ∷ xs) [] e h k = absurd (omega arith)
value_order (x ∷ xs) (y ∷ ys) e h k =
    let w : worth xs ≡ worth ys = same_worth xs ys (omega arith) in
    let u : value xs < worth xs = value-lt xs h.1 in
    let v : value ys < worth ys = value-lt ys k.1 in
    elim (cases_order x y) [
      | inl d ↦
          ap (λ r. ordering_then r (bytes_cmp xs ys)) (sym (nat_cmp_is x y Equal d)) ∙ value_order xs ys (omega arith) h.1 k.1
          ∙ shift (x * worth xs) (value xs) (value ys) ∙ ap (λ n. nat_cmp (x * worth xs + value xs) (n + value ys)) (λ i. d i * w i)
      | inr (inl l) ↦ ap (λ r. ordering_then r (bytes_cmp xs ys)) (sym (nat_cmp_is x y Less l)) ∙ nat_cmp_is _ _ Less (subst (λ n. x * worth xs + value xs < y * n + value ys) w (lower x y (worth xs) (value xs) (value ys) l u))
      | inr (inr g) ↦ ap (λ r. ordering_then r (bytes_cmp xs ys)) (sym (nat_cmp_is x y Greater g)) ∙ nat_cmp_is _ _ Greater (subst (λ n. y * worth ys + value ys < x * n + value xs) (sym w) (lower y x (worth ys) (value ys) (value xs) g v))
    ]
  where
    shift : (n a b : ℕ) → nat_cmp a b ≡ nat_cmp (n + a) (n + b)
    shift n a b = elim (cases_order a b) [
      | inl e ↦ sym (nat_cmp_is a b Equal e) ∙ nat_cmp_is (n + a) (n + b) Equal (ap (λ m. n + m) e)
      | inr (inl l) ↦ sym (nat_cmp_is a b Less l) ∙ nat_cmp_is (n + a) (n + b) Less (omega arith)
      | inr (inr g) ↦ sym (nat_cmp_is a b Greater g) ∙ nat_cmp_is (n + a) (n + b) Greater (omega arith)
    ]

-- the lowest k bytes of a number are k bytes
high_length : (k n : ℕ) → length (bytes_high_first k n) ≡ k
high_length zero n = refl
high_length (suc k) n = ap suc (high_length k n)

-- byte k of a number is its digit k to the base 256
at_power : (k n : ℕ) → byte_at k n ≡ n / 256 ^ k % 256
at_power zero n = omega arith
at_power (suc k) n = refl

-- each of the lowest k bytes of a number is less than 256
high_small : (k n : ℕ) → AllByRecursion (λ x. x < 256) (bytes_high_first k n)
high_small zero n = tt
high_small (suc k) n = (subst (λ b. b < 256) (sym (at_power k n)) (mod-lt (n / 256 ^ k) (omega arith)), high_small k n)

-- a power of 256 is not zero
power_pos : (k : ℕ) → 0 < 256 ^ k
power_pos zero = omega arith
power_pos (suc k) = let p = power_pos k in let e = pow-succ' 256 k in omega arith

-- the `worth` of k bytes is 256 ^ k
high_worth : (k n : ℕ) → worth (bytes_high_first k n) ≡ 256 ^ k
high_worth zero n = refl
high_worth (suc k) n = ap (λ m. 256 * m) (high_worth k n) ∙ sym (pow-succ' 256 k)

-- the lowest k bytes of a number make the rest of its division by 256 ^ k
high_value : (k n : ℕ) → value (bytes_high_first k n) ≡ n % 256 ^ k
high_value zero n = omega arith
high_value (suc k) n =
    (λ i. at_power k n i * high_worth k n i + high_value k n i)
    ∙ sym (mod-mul n {m = 256} {c = 256 ^ k} (omega arith) (power_pos k))
    ∙ ap (λ m. n % m) (sym (pow-succ' 256 k))

-- the numbers of a width, by its bytes
sizes : (w : Width) → 2 ^ bits w ≡ 256 ^ byte_len w
sizes w8 = refl
sizes w16 = refl
sizes w32 = refl
sizes w64 = refl
sizes w128 = refl

-- the bytes of a number make the number
be_value : (w : Width) (n : ℕ) → n < 2 ^ bits w → value (to_be_bytes w n) ≡ n
be_value w n h = high_value (byte_len w) n ∙ mod-eq_of_lt (subst (λ m. n < m) (sizes w) h)

-- the bytes of two numbers are ordered like the numbers
pub be_order : (w : Width) (m n : ℕ) → m < 2 ^ bits w → n < 2 ^ bits w → bytes_cmp (to_be_bytes w m) (to_be_bytes w n) ≡ nat_cmp m n
be_order w m n h k =
    value_order (to_be_bytes w m) (to_be_bytes w n) (high_length (byte_len w) m ∙ sym (high_length (byte_len w) n)) (high_small (byte_len w) m) (high_small (byte_len w) n)
    ∙ (λ i. nat_cmp (be_value w m h i) (be_value w n k i))

-- the first summand, and the others
first_summand : (f : ℕ → ℕ) (k : ℕ) → sum_through f (suc k) ≡ f 0 + sum_through (λ i. f (suc i)) k
first_summand f zero = refl
first_summand f (suc k) = let e = first_summand f k in omega arith

-- a sum of bytes, each by its place, is the number that they make
places : (k : ℕ) (b : List ℕ) → length b ≡ suc k → sum_through (λ i. byte_worth (k - i) (slice_index b i)) k ≡ value b
places k [] e = absurd (omega arith)
places zero (x ∷ []) e = omega arith
places zero (x ∷ y ∷ b) e = absurd (omega arith)
places (suc k) (x ∷ b) e =
    let l : length b ≡ suc k = omega arith in
    first_summand (λ i. byte_worth (suc k - i) (slice_index (x ∷ b) i)) k
    ∙ (λ j. byte_worth (all j) x + sum_through (λ i. byte_worth (next i j) (slice_index b i)) k)
    ∙ (λ j. x * long k b l j + places k b l j)
  where
    all : suc k - 0 ≡ suc k
    all = omega arith

    next : (i : ℕ) → suc k - suc i ≡ k - i
    next i = omega arith

    long : (k : ℕ) (b : List ℕ) → length b ≡ suc k → 256 ^ suc k ≡ worth b
    long k [] e = absurd (omega arith)
    long zero (x ∷ []) e = refl
    long zero (x ∷ y ∷ b) e = absurd (omega arith)
    long (suc k) (x ∷ b) e = pow-succ' 256 (suc k) ∙ ap (λ m. 256 * m) (long k b (omega arith))

-- a width has one byte at least
last_place : (w : Width) → byte_len w ≡ suc (byte_len w - 1)
last_place w8 = refl
last_place w16 = refl
last_place w32 = refl
last_place w64 = refl
last_place w128 = refl

-- a number is read back from its bytes
pub be_back : (w : Width) (n : ℕ) → n < 2 ^ bits w → from_be_bytes w (to_be_bytes w n) ≡ n
be_back w n h = places (byte_len w - 1) (to_be_bytes w n) (high_length (byte_len w) n ∙ last_place w) ∙ be_value w n h

-- ---- signed numbers

-- half of the numbers of a width have no top bit
halves : (w : Width) → 2 ^ bits w ≡ 2 ^ hbits w + 2 ^ hbits w
halves w8 = refl
halves w16 = refl
halves w32 = refl
halves w64 = refl
halves w128 = refl

module _ (w : Width) where
  -- a flip of the top bit adds it to a number that is less than it
  flip_low : (n : ℕ) → n < 2 ^ hbits w → bit_xor n (2 ^ hbits w) ≡ n + 2 ^ hbits w
  flip_low n h =
      let none : bit_and n (2 ^ hbits w) ≡ 0 = and_pow n (hbits w) ∙ ap (λ q. q % 2 * 2 ^ hbits w) (div-eq_of_lt h) ∙ omega arith in
      let s = xor_add_and n (2 ^ hbits w) in
      omega arith

  -- a flip of the top bit subtracts it from another number of the width
  flip_high : (n : ℕ) → 2 ^ hbits w ≤ n → n < 2 ^ bits w → bit_xor n (2 ^ hbits w) ≡ n - 2 ^ hbits w
  flip_high n h k =
      let d = halves w in
      let once : n / 2 ^ hbits w ≡ 1 = div-eq_of_lt-le (2 ^ hbits w) (omega arith) (omega arith) in
      let one : bit_and n (2 ^ hbits w) ≡ 2 ^ hbits w = and_pow n (hbits w) ∙ ap (λ q. q % 2 * 2 ^ hbits w) once ∙ omega arith in
      let s = xor_add_and n (2 ^ hbits w) in
      omega arith

  -- two flips of the top bit change nothing
  flip_twice : (n : ℕ) → n < 2 ^ bits w → bit_xor (bit_xor n (2 ^ hbits w)) (2 ^ hbits w) ≡ n
  flip_twice n h =
      let d = halves w in
      elim (cases_lt n (2 ^ hbits w)) [
        | inl l ↦ ap (λ m. bit_xor m (2 ^ hbits w)) (flip_low n l) ∙ flip_high (n + 2 ^ hbits w) (omega arith) (omega arith) ∙ omega arith
        | inr g ↦ ap (λ m. bit_xor m (2 ^ hbits w)) (flip_high n g h) ∙ flip_low (n - 2 ^ hbits w) (omega arith) ∙ omega arith
      ]

  -- a number of the width is still one after a flip of its top bit
  flip_fits : (n : ℕ) → n < 2 ^ bits w → bit_xor n (2 ^ hbits w) < 2 ^ bits w
  flip_fits n h =
      let d = halves w in
      elim (cases_lt n (2 ^ hbits w)) [
        | inl l ↦ let e = flip_low n l in omega arith
        | inr g ↦ let e = flip_high n g h in omega arith
      ]

  -- with the top bit flipped, the bits of a number n that is not negative are n + 2 ^ hbits w
  flipped-pos : (n : ℕ) → FitsSigned w (pos n) → flipped w (pos n) ≡ n + 2 ^ hbits w
  flipped-pos n h = flip_low n h.sfits

  -- and those of the negative number -n - 1 are 2 ^ hbits w - 1 - n
  flipped-negsuc : (n : ℕ) → FitsSigned w (negsuc n) → flipped w (negsuc n) ≡ 2 ^ hbits w - 1 - n
  flipped-negsuc n h =
      let small : n < 2 ^ hbits w = h.sfits in
      let d = halves w in
      flip_high (2 ^ bits w - suc n) (omega arith) (omega arith) ∙ omega arith

  -- with the top bit flipped, the bits of a greater signed number are greater
  flipped_grows : (y z : ℤ) → FitsSigned w y → FitsSigned w z → y <ℤ z → flipped w y < flipped w z
  flipped_grows (pos m) (pos n) h k l = omega (arith, ints, flipped-pos m h, flipped-pos n k)
  flipped_grows (pos m) (negsuc n) h k l = absurd (omega (arith, ints))
  flipped_grows (negsuc m) (pos n) h k l = let s : n < 2 ^ hbits w = k.sfits in let t : m < 2 ^ hbits w = h.sfits in omega (arith, ints, flipped-negsuc m h, flipped-pos n k)
  flipped_grows (negsuc m) (negsuc n) h k l = let s : n < 2 ^ hbits w = k.sfits in let t : m < 2 ^ hbits w = h.sfits in omega (arith, ints, flipped-negsuc m h, flipped-negsuc n k)

  -- so signed numbers compare like these bits
  flipped_order : (y z : ℤ) → FitsSigned w y → FitsSigned w z → nat_cmp (flipped w y) (flipped w z) ≡ int_cmp y z
  flipped_order y z h k = sym (nat_cmp_is _ _ (int_cmp y z) (ranked (int_cmp y z) (int_ranks y z)))
    where
      ranked : (r : Ordering) → MatchOrdering r (y <ℤ z) (y ≡ z) (z <ℤ y) → MatchOrdering r (flipped w y < flipped w z) (flipped w y ≡ flipped w z) (flipped w z < flipped w y)
      ranked Less l = flipped_grows y z h k l
      ranked Equal e = ap (flipped w) e
      ranked Greater l = flipped_grows z y k h l

  -- the bits of a signed number are a number of the width
  bits_fit : (z : ℤ) → FitsSigned w z → cast_unsigned w z < 2 ^ bits w
  bits_fit z h = let f : Fits w (cast_unsigned w z) = Fits-of_z h in f.fits

  -- signed numbers compare like the bytes of their bits with the top bit flipped
  pub flipped_bytes_order : (y z : ℤ) → FitsSigned w y → FitsSigned w z → bytes_cmp (to_be_bytes w (flipped w y)) (to_be_bytes w (flipped w z)) ≡ int_cmp y z
  flipped_bytes_order y z h k =
      be_order w (flipped w y) (flipped w z) (flip_fits _ (bits_fit y h)) (flip_fits _ (bits_fit z k)) ∙ flipped_order y z h k

  -- a signed number is read back from these bytes
  pub flipped_back : (z : ℤ) → FitsSigned w z → unflipped w (from_be_bytes w (to_be_bytes w (flipped w z))) ≡ z
  flipped_back z h =
      ap (unflipped w) (be_back w (flipped w z) (flip_fits _ (bits_fit z h)))
      ∙ ap (cast_signed w) (flip_twice (cast_unsigned w z) (bits_fit z h))
      ∙ to_z-of_z h
