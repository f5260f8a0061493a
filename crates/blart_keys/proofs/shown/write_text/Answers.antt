-- Of bytes that are not UTF-8 nothing is said.
use Rattle.std.proofs.Common.{◌≡◌, List, ℕ, Bool, true, false, refl, sym, ap, subst}
use Rattle.std.specs.Prelude.{Option, Some, None, IfSome, option_map, if◌then◌else◌}
use Rattle.std.specs.Str.{IsUtf8, is_utf8}
use Rattle.std.specs.Fmt.{styled_text, formatter_spec}
use Rattle.std.proofs.lemmas.Str.{IsUtf8-from_is_utf8}
use Rattle.blart_keys.specs.Shown.{shown_text}
use Rattle.blart_keys.proofs.shown.write_text.Goals as goal

not_utf8 : (b : List ℕ) → ¬ IsUtf8 b → is_utf8 b ≡ false
not_utf8 b n = cases (is_utf8 b) refl
  where
    cases : (t : Bool) → is_utf8 b ≡ t → is_utf8 b ≡ false
    cases true e = absurd (n (IsUtf8-from_is_utf8 b e))
    cases false e = e

not_shown : (b : List ℕ) → ¬ IsUtf8 b → shown_text b ≡ None
not_shown b n = ap (λ t. if t then Some b else None) (not_utf8 b n)

none_says : {A : Type 0} (P : A → Type 0) (o : Option A) → o ≡ None → IfSome o P
none_says P o e = subst (λ o. IfSome o P) (sym e) tt

pub returns-in-Err-clause-writes : goal.returns-in-Err-clause-writes
returns-in-Err-clause-writes g c = none_says _ _ (not_shown c.args.bytes.now c.in-Err.ensures.cases.0)

pub returns-in-Err-clause-styled : goal.returns-in-Err-clause-styled
returns-in-Err-clause-styled g c = none_says _ _ (ap (option_map (styled_text (formatter_spec c.args.f.now))) (not_shown c.args.bytes.now c.in-Err.ensures.cases.0))
