-- Words, keys and numbers as the code finds them.
use Rattle.std.proofs.Common.{◌≡◌, ℕ, ◌+◌, ◌%◌, ◌<◌, ◌≤◌, List, [], ◌∷◌, length, take, drop, Bool, true, false, cond, Some, None, Result, Ok, Err, is_some, refl, ap, arith, ltb-true, All, Vec, Global}
use Rattle.std.specs.Prelude.{◌≢◌, nat_lt, ◌==◌, bytes_eq, codes, IfOk, MatchOption}
use Rattle.std.specs.Result.{result_ok}
use Rattle.std.specs.List.{position, position_or_len, list_all}
use Rattle.std.proofs.lemmas.Bool.Decides.{nat_tests}
use Rattle.std.proofs.lemmas.List.Splits.{slice_split_first, slice_split_none, length-slice_split}
use Rattle.std.proofs.lemmas.List.Sums.{fails_before_first, AllPass-from_list_all, list_all-from_AllPass}
use Rattle.hex.specs.Hex.{is_hex_digit, decode_of}
use Rattle.hex.specs.declared.error.FromHexError.{FromHexError}
use Rattle.hex.proofs.HexLemmas.{decode_of-ok, decode_of-digits}
use Rattle.line_program.specs.Command.{words_of, from_ok, key_of}

-- ---- words

-- a byte between words
abbrev is_space : ℕ → Bool
is_space b = b == 32

split_at : (text : List ℕ) (at : ℕ) (t : Bool) → nat_lt (position_or_len is_space text) (length text) ≡ t → Some at ≡ cond t (Some (position_or_len is_space text)) None
    → words_of text ≡ take at text ∷ words_of (drop (at + 1) text)
split_at text at false is h = cc
split_at text at true is h =
    let same : position_or_len is_space text ≡ at = cc in
    let within : position_or_len is_space text < length text = ltb-true _ _ is in
    rw same at (slice_split_first is_space text 0 within)

-- the first space separates the first word from the others
pub words_at : (text : List ℕ) (at : ℕ) → Some at ≡ position is_space text → words_of text ≡ take at text ∷ words_of (drop (at + 1) text)
words_at text at h = split_at text at (nat_lt (position_or_len is_space text) (length text)) refl h

whole : (text : List ℕ) (t : Bool) → nat_lt (position_or_len is_space text) (length text) ≡ t → None ≡ cond t (Some (position_or_len is_space text)) None
    → words_of text ≡ text ∷ []
whole text true is h = cc
whole text false is h =
    let beyond : length text ≤ position_or_len is_space text = grind (arith, nat_tests) in
    let fails : All (λ b. is_space b ≡ false) text = λ k d lt. fails_before_first is_space text k d (omega arith) in
    slice_split_none is_space text fails

-- a text with no space is one word
pub one_word : (text : List ℕ) → None ≡ position is_space text → words_of text ≡ text ∷ []
one_word text h = whole text (nat_lt (position_or_len is_space text) (length text)) refl h

-- a text has at least one word
pub some_word : (text : List ℕ) → 0 < length (words_of text)
some_word text = omega (arith, length-slice_split is_space text)

-- ---- keys

digits_decode : (word : List ℕ) (r : Result (List ℕ) FromHexError) (t : Bool) → length word % 2 ≡ 0 → decode_of word ≡ r → list_all is_hex_digit word ≡ t → is_some (from_ok r) ≡ t
digits_decode word (Ok bytes) true even is h = refl
digits_decode word (Err e) false even is h = refl
digits_decode word (Ok bytes) false even is h =
    let all = list_all-from_AllPass is_hex_digit word (decode_of-ok word bytes is).1 in cc
digits_decode word (Err e) true even is h =
    let (bytes, found) = decode_of-digits word even (AllPass-from_list_all is_hex_digit word h) in cc

-- a word of even length decodes if and only if all its bytes are digits
pub decodes_if_digits : (word : List ℕ) → length word % 2 ≡ 0 → is_some (from_ok (decode_of word)) ≡ list_all is_hex_digit word
decodes_if_digits word even = digits_decode word (decode_of word) (list_all is_hex_digit word) even refl refl

nonempty : (word key : List ℕ) (t : Bool) (r : Result (List ℕ) FromHexError) → (length word == 0) ≡ t → decode_of word ≡ r → cond t None (from_ok r) ≡ Some key
    → (0 < length word) × (decode_of word ≡ Ok key)
nonempty word key true r none is h = cc
nonempty word key false (Err e) none is h = cc
nonempty word key false (Ok bytes) none is h = (grind (arith, nat_tests), cc)

-- a key other than `-` is decoded
pub key_decodes : (word key : List ℕ) → bytes_eq word (codes "-") ≡ false → key_of word ≡ Some key → (0 < length word) × (decode_of word ≡ Ok key)
key_decodes word key other h = nonempty word key (length word == 0) (decode_of word) refl refl (rw other at h)

-- what decoding returned
pub decoded : (word key : List ℕ) (r : Result (Vec ℕ Global) FromHexError) → bytes_eq word (codes "-") ≡ false → key_of word ≡ Some key
    → IfOk r (λ bytes. decode_of word ≡ Ok bytes.items) → MatchOption (result_ok r) (key ≢ []) (λ found. key ≡ found.items)
decoded word key (Ok bytes) other h ok = let (some, is) = key_decodes word key other h in cc
decoded word key (Err e) other h ok = λ none.
    let (some, is) = key_decodes word key other h in
    let long = (decode_of-ok word key is).2 in
    let zero : length key ≡ 0 = ap length none in
    omega arith
