-- How pieces on their way to a writer join.
use Rattle.std.proofs.Common.{Bool, false, ◌||◌, ◌&&◌, not, length, ◌==◌, arith, ◌≡◌, ℕ, List, [], ◌++◌, refl, sym, ap, ◌∙◌, append_assoc, take, drop, take-append-drop}
use Rattle.std.specs.Prelude.{Option, Result, Ok, Err}
use Rattle.std.specs.Io.KnownBytes.{Appends}
use Rattle.std.proofs.KnownBytes.{Appends-nil, Appends-trans}
use Rattle.std.proofs.lemmas.Bool.Decides.{nat_tests}
use Rattle.line_program.specs.declared.error.RunError.{RunError}
use Rattle.line_program.specs.Sent.{Sends, IsSent}

-- nothing was sent so far
pub Sends-none : (a : Option (List ℕ)) (bs : List ℕ) → Sends a a bs bs
Sends-none a bs = record { front = []; taken = Appends-nil a; whole = refl }

-- the writer took n more bytes
pub Sends-more : {a b c : Option (List ℕ)} {bs rest : List ℕ} (n : ℕ) → Sends a b bs rest → Appends b c (take n rest) → Sends a c bs (drop n rest)
Sends-more {a} {b} {c} {bs} {rest} n s t = record {
  front = s.front ++ take n rest;
  taken = Appends-trans a b c s.front (take n rest) s.taken t;
  whole = s.whole ∙ ap (λ l. s.front ++ l) (sym (take-append-drop n rest)) ∙ sym (append_assoc s.front (take n rest) (drop n rest));
}

-- what was left is sent, with more bytes after it
pub Sends-trans : {a b c : Option (List ℕ)} {bs rest last : List ℕ} (more : List ℕ) → Sends a b bs rest → Sends b c (rest ++ more) last → Sends a c (bs ++ more) last
Sends-trans {a} {b} {c} {bs} {rest} {last} more s t = record {
  front = s.front ++ t.front;
  taken = Appends-trans a b c s.front t.front s.taken t.taken;
  whole = ap (λ l. l ++ more) s.whole ∙ append_assoc s.front rest more ∙ ap (λ l. s.front ++ l) t.whole ∙ sym (append_assoc s.front t.front last);
}

-- more bytes come after
pub Sends-longer : {a b : Option (List ℕ)} {bs rest : List ℕ} (more : List ℕ) → Sends a b bs rest → Sends a b (bs ++ more) (rest ++ more)
Sends-longer {a} {b} {bs} {rest} more s = record {
  front = s.front;
  taken = s.taken;
  whole = ap (λ l. l ++ more) s.whole ∙ append_assoc s.front rest more;
}

-- a write that took some bytes leaves no mark
pub unmarked_after_some : (before after : Bool) (n : ℕ) (bs : List ℕ) → before ≡ false → (n ≡ 0 → ⊥) → after ≡ (before || ((n == 0) && not (length bs == 0))) → after ≡ false
unmarked_after_some before after n bs b some e =
    let none : (n == 0) ≡ false = grind (arith, nat_tests) in
    e ∙ rw (b, none) refl

-- a call that failed within some bytes failed within them and more
pub IsSent-longer : (before after : Option (List ℕ)) (mark : Bool) (error : RunError) (bytes rest more other : List ℕ)
    → IsSent (Err error) before after mark bytes rest → IsSent (Err error) before after mark (bytes ++ more) other
IsSent-longer before after mark error bytes rest more other h = let ((left, sent), marked, is) = h in ((left ++ more, Sends-longer more sent), marked, is)

-- a call that failed within a prefix of some bytes failed within them
pub IsSent-part : (before after : Option (List ℕ)) (mark : Bool) (error : RunError) (waited front more whole rest other : List ℕ) → whole ≡ front ++ more
    → IsSent (Err error) before after mark (waited ++ front) rest → IsSent (Err error) before after mark (waited ++ whole) other
IsSent-part before after mark error waited front more whole rest other is h =
    rw (is, ← append_assoc) (IsSent-longer before after mark error (waited ++ front) rest more other h)

-- a call sends what the call before it left
pub IsSent-then : (before mid after : Option (List ℕ)) (mark : Bool) (waited first between rest : List ℕ) (result : Result (Unit {0}) RunError) (more : List ℕ)
    → Sends before mid (waited ++ first) between → IsSent result mid after mark (between ++ more) rest → IsSent result before after mark (waited ++ (first ++ more)) rest
IsSent-then before mid after mark waited first between rest (Ok done) more s h = (rw (← append_assoc) (Sends-trans more s h.0), h.1)
IsSent-then before mid after mark waited first between rest (Err error) more s h =
    let ((left, sent), marked, is) = h in
    ((left, rw (← append_assoc) (Sends-trans more s sent)), marked, is)
