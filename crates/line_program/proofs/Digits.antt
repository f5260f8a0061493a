-- Keys written in hexadecimal digits, byte by byte.
use Rattle.std.proofs.Common.{◌≡◌, ℕ, ◌+◌, ◌/◌, ◌%◌, ◌<◌, List, [], ◌∷◌, ◌++◌, length, take, get_or, slice_index, refl, ap, ◌∙◌}
use Rattle.std.proofs.lemmas.List.{take_more}
use Rattle.hex.specs.Hex.{encode_lower, encode_with, lower_digits}

-- the two digits of a byte
abbrev pub digits_of : ℕ → List ℕ
digits_of byte = slice_index lower_digits (byte / 16) ∷ slice_index lower_digits (byte % 16) ∷ []

-- the digits of two lists joined
pub encode-append : (a b : List ℕ) → encode_lower (a ++ b) ≡ encode_lower a ++ encode_lower b
unfolding encode_with
encode-append [] b = refl
encode-append (x ∷ a) b = ap (λ l. slice_index lower_digits (x / 16) ∷ slice_index lower_digits (x % 16) ∷ l) (encode-append a b)

-- no bytes have no digits
pub encode-none : encode_lower [] ≡ []
unfolding encode_with
encode-none = refl

encode-one : (x : ℕ) → encode_lower (x ∷ []) ≡ digits_of x
unfolding encode_with
encode-one x = refl

-- one more byte adds its two digits
pub encode-more : (key : List ℕ) (i : ℕ) → i < length key → encode_lower (take (i + 1) key) ≡ encode_lower (take i key) ++ digits_of (get_or key i 0)
encode-more key i lt = ap encode_lower (take_more key i 0 lt) ∙ encode-append (take i key) (get_or key i 0 ∷ []) ∙ ap (λ l. encode_lower (take i key) ++ l) (encode-one (get_or key i 0))
