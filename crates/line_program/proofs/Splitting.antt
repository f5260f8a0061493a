-- The lines of an input are the parts between line feeds, so there is one way to split it.
use Rattle.std.proofs.Common.{◌≡◌, ◌≢◌, ℕ, List, [], ◌∷◌, ◌++◌, length, length-append, false, ◌==◌, refl, sym, ap, ◌∙◌, append_assoc, arith, All}
use Rattle.std.specs.List.{flat_map, slice_split}
use Rattle.std.proofs.lemmas.Bool.{ne_eqb}
use Rattle.std.proofs.lemmas.List.Elements.{All-weaker, All-head, All-tail}
use Rattle.std.proofs.lemmas.List.Splits.{slice_split_none, slice_split_at}
use Rattle.line_program.specs.Lines.{IsLine, ended, Splits}

-- the parts between line feeds
abbrev pub parts_of : List ℕ → List (List ℕ)
parts_of bytes = slice_split (λ b. b == 10) bytes

no_feed : (line : List ℕ) → IsLine line → All (λ b. (b == 10) ≡ false) line
no_feed line h = All-weaker (λ b. b ≢ 10) (λ b. (b == 10) ≡ false) (λ b apart. ne_eqb b 10 apart) line h

parts : (lines : List (List ℕ)) (open_bytes : List ℕ) → All IsLine lines → IsLine open_bytes → parts_of (flat_map ended lines ++ open_bytes) ≡ lines ++ open_bytes ∷ []
parts [] open_bytes each last = slice_split_none (λ b. b == 10) open_bytes (no_feed open_bytes last)
parts (line ∷ lines) open_bytes each last =
    let more = flat_map ended lines in
    let whole : flat_map ended (line ∷ lines) ++ open_bytes ≡ line ++ 10 ∷ (more ++ open_bytes) = append_assoc (ended line) more open_bytes ∙ append_assoc line (10 ∷ []) (more ++ open_bytes) in
    ap parts_of whole ∙ slice_split_at (λ b. b == 10) line 10 (more ++ open_bytes) (no_feed line (All-head IsLine line lines each)) refl
    ∙ ap (λ l. line ∷ l) (parts lines open_bytes (All-tail IsLine line lines each) last)

-- the parts are the lines, and then the bytes after the last line feed
pub Splits-parts : (bytes : List ℕ) (lines : List (List ℕ)) (open_bytes : List ℕ) → Splits bytes lines open_bytes → parts_of bytes ≡ lines ++ open_bytes ∷ []
Splits-parts bytes lines open_bytes s = ap parts_of s.whole ∙ parts lines open_bytes s.each s.last

same_last : {A : Type 0} (xs ys : List A) (x y : A) → xs ++ x ∷ [] ≡ ys ++ y ∷ [] → (xs ≡ ys) × (x ≡ y)
same_last [] [] x y e = (refl, cc)
same_last [] (b ∷ ys) x y e = let short = ap length e ∙ length-append (b ∷ ys) (y ∷ []) in absurd (omega arith)
same_last (a ∷ xs) [] x y e = let short = ap length (sym e) ∙ length-append (a ∷ xs) (x ∷ []) in absurd (omega arith)
same_last (a ∷ xs) (b ∷ ys) x y e =
    let rest : xs ++ x ∷ [] ≡ ys ++ y ∷ [] = cc in
    let (same, last) = same_last xs ys x y rest in
    (cc, last)

-- some bytes split in one way
pub Splits-unique : (bytes : List ℕ) (lines others : List (List ℕ)) (open_bytes open_others : List ℕ) → Splits bytes lines open_bytes → Splits bytes others open_others
    → (lines ≡ others) × (open_bytes ≡ open_others)
Splits-unique bytes lines others open_bytes open_others s t =
    same_last lines others open_bytes open_others (sym (Splits-parts bytes lines open_bytes s) ∙ Splits-parts bytes others open_others t)
