-- Keys and numbers are read back as they are written.
use Rattle.std.proofs.Common.{◌≡◌, ◌≢◌, ℕ, ◌*◌, ◌≤◌, List, [], ◌∷◌, length, Bool, true, false, Some, refl, ap, arith}
use Rattle.std.specs.Prelude.{bytes_eq, codes, decimal, nat_le, ◌==◌}
use Rattle.std.proofs.lemmas.Bool.{ne_eqb}
use Rattle.std.proofs.lemmas.Bool.Decides.{nat_tests}
use Rattle.std.proofs.lemmas.Slice.Eq.{bytes_eq-Decides}
use Rattle.std.proofs.lemmas.Fmt.{length-decimal-le}
use Rattle.hex.specs.Hex.{IsBytes, encode_lower, lower_digits}
use Rattle.hex.proofs.HexLemmas.{length-encode_with, decode_of-encode_lower}
use Rattle.line_program.specs.Command.{key_of, number_of}
use Rattle.line_program.specs.Results.{key_text}
use Rattle.decimals.proofs.Numbers.{read_number-decimal}

by_length : (a b : List ℕ) (t : Bool) → length a ≢ length b → bytes_eq a b ≡ t → bytes_eq a b ≡ false
by_length a b true apart is = absurd (apart (ap length ((bytes_eq-Decides a b).0 is)))
by_length a b false apart is = is

-- a key that is written is read back
pub key_of-key_text : (key : List ℕ) → IsBytes key → key_of (key_text key) ≡ Some key
key_of-key_text [] small = refl
key_of-key_text (b ∷ key) small =
    let text = encode_lower (b ∷ key) in
    let long : length text ≡ 2 * length (b ∷ key) = length-encode_with lower_digits (b ∷ key) in
    let other : bytes_eq text (codes "-") ≡ false = by_length text (codes "-") (bytes_eq text (codes "-")) (λ e. omega arith) refl in
    let some : (length text == 0) ≡ false = ne_eqb (length text) 0 (λ e. omega arith) in
    rw (other, some, decode_of-encode_lower (b ∷ key) small) refl

-- so is a number
pub number_of-decimal : (n : ℕ) → n ≤ 18446744073709551615 → number_of (decimal n) ≡ Some n
number_of-decimal n fits =
    let short = length-decimal-le 20 n (omega arith) (omega arith) (omega arith) in
    let most : nat_le (length (decimal n)) 20 ≡ true = grind (arith, nat_tests) in
    rw most (read_number-decimal n fits)
