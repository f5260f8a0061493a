-- Decimal digits, read as a number.
use Rattle.std.proofs.Common.{◌≡◌, ℕ, ◌<◌, ◌≤◌, ◌^◌, List, [], ◌∷◌, length, Bool, true, false, Some, None, Result, Ok, Err, refl, sym, ap, arith}
use Rattle.std.specs.Prelude.{◌&&◌, nat_le, decimal}
use Rattle.std.specs.Result.{OkIff, result_ok}
use Rattle.std.specs.List.{list_all}
use Rattle.std.specs.Char.{is_ascii_digit, digit_value}
use Rattle.std.specs.Str.{IsUtf8, all_ascii_digits}
use Rattle.std.specs.Str.Parse.{digits_value, AllDigits, ParsesUnsigned}
use Rattle.std.proofs.lemmas.Bool.Decides.{nat_tests}
use Rattle.std.proofs.lemmas.Fmt.{IsAscii-from_digits, decimal_is_IsNumeral}
use Rattle.std.proofs.lemmas.Str.{IsUtf8-from_ascii}
use Rattle.std.proofs.lemmas.Str.Parse.{IsNumeralModel, numerals_by_value, tells_all_ascii_digits, parse_digits}
use Rattle.decimals.specs.Decimal.{below_limit, is_numeral, read_number}

-- the kit's lemmas on digits, by the kit's own test
digits : IsNumeralModel (λ ds. all_ascii_digits ds ≡ true) (digits_value 10)
digits = numerals_by_value _ tells_all_ascii_digits

-- both tests of digits agree
same_test : (ds : List ℕ) → all_ascii_digits ds ≡ list_all is_ascii_digit ds
same_test [] = refl
same_test (c ∷ cs) = ap (λ t. is_ascii_digit c && t) (same_test cs)

all_digits : (ds : List ℕ) → is_numeral ds ≡ true → (all_ascii_digits ds ≡ true) × (0 < length ds)
all_digits ds h = (grind (arith, nat_tests, same_test ds), grind (arith, nat_tests))

-- digits are a text
pub is_text : (ds : List ℕ) → is_numeral ds ≡ true → IsUtf8 ds
is_text ds h = IsUtf8-from_ascii ds (IsAscii-from_digits ds (digits.to ds (all_digits ds h).0))

kept : {E : Type 0} (r : Result ℕ E) (some v : ℕ) → 0 < some → OkIff r ((0 < some) × (v < 2 ^ 64)) v → result_ok r ≡ below_limit v
kept (Ok x) some v p h = grind (arith, nat_tests, h.0.1, h.1)
kept (Err e) some v p h = by_limit (nat_le v 18446744073709551615) refl
  where
    by_limit : (t : Bool) → nat_le v 18446744073709551615 ≡ t → None ≡ below_limit v
    by_limit true k = absurd (h (p, grind (arith, nat_tests)))
    by_limit false k = rw k refl

-- the number that is read is the value of the digits, if it is below 2^64
pub value_read : {E : Type 0} (ds : List ℕ) (r : Result ℕ E) → is_numeral ds ≡ true → ParsesUnsigned 64 10 ds r → result_ok r ≡ below_limit (digits_value 10 ds)
value_read ds r h parsed =
    let d = all_digits ds h in
    kept r (length ds) (digits_value 10 ds) d.1 (parse_digits digits 64 ds r parsed d.0)

decimal_digit : (c : ℕ) → digit_value c < 10 → is_ascii_digit c ≡ true
decimal_digit c h = grind (arith, nat_tests)

all_decimal : (text : List ℕ) → AllDigits 10 text → list_all is_ascii_digit text ≡ true
all_decimal [] h = refl
all_decimal (c ∷ text) h = rw (decimal_digit c h.0) (all_decimal text h.1)

-- a number that fits is below the limit
below_limit_small : (n : ℕ) → n ≤ 18446744073709551615 → Some n ≡ below_limit n
below_limit_small n h = grind (arith, nat_tests)

-- a number that is written is read back
pub read_number-decimal : (n : ℕ) → n ≤ 18446744073709551615 → read_number (decimal n) ≡ Some n
read_number-decimal n fits =
    let ((some, digits), value) = decimal_is_IsNumeral n (omega arith) in
    let least : nat_le 1 (length (decimal n)) ≡ true = grind (arith, nat_tests) in
    let numeral : is_numeral (decimal n) ≡ true = rw (least, all_decimal (decimal n) digits) refl in
    rw (numeral, value) (sym (below_limit_small n fits))
