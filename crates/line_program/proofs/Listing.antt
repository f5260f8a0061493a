-- The lines of a list of pairs, and of a reply.
use Rattle.std.proofs.Common.{◌≡◌, ℕ, List, [], ◌∷◌, ◌++◌, length, map, drop, take-append-drop, append_assoc, refl, sym, ap, subst, ◌∙◌, append-nil, Bool, Vec, Global}
use Rattle.std.specs.Prelude.{Option, None, Result, codes, decimal}
use Rattle.std.specs.List.{flat_map}
use Rattle.std.proofs.lemmas.List.{map-append}
use Rattle.std.proofs.lemmas.Grind.{flat_map-append}
use Rattle.std.specs.Borrow.{Bor}
use Rattle.std.specs.Iterator.{Yields, AlwaysYields, YieldsFirstBy}
use Rattle.std.proofs.lemmas.Iterator.{YieldsList}
use Rattle.std.proofs.lemmas.Iterator.Consumers.{YieldsList-from_first, YieldsList-so_far, YieldsList-end}
use Rattle.line_program.specs.declared.error.RunError.{RunError}
use Rattle.line_program.specs.Lines.{ended}
use Rattle.line_program.specs.Command.{Command, command_of, words_of}
use Rattle.line_program.specs.Results.{Pairs, pair_text, listing, Meets}
use Rattle.line_program.specs.Content.{Stored, pair_of, by_bytes}
use Rattle.line_program.specs.Replied.{IsReplied}
use Rattle.line_program.specs.Sent.{IsSent}

-- a pair that a walk lends
abbrev pub Lent : Type 0
Lent = Bor (Vec ℕ Global) × Bor ℕ

-- the pair itself
abbrev pub seen : Lent → Vec ℕ Global × ℕ
seen item = (item.0.now, item.1.now)

-- what a walk returned so far is a prefix of what it returns
pub given_first : {S : Type 0} (steps : S → Option Lent → S → Type 0) (s t : S) (items : List Lent) (pairs : Stored) → AlwaysYields steps seen s pairs → Yields steps s items t
    → pairs ≡ map seen items ++ drop (length items) pairs
given_first steps s t items pairs all y =
    let e : YieldsList steps seen s pairs = record { runs = all } in
    sym (take-append-drop (length items) pairs) ∙ ap (λ l. l ++ drop (length items) pairs) (sym (YieldsList-so_far e items t y))

-- what a walk returned until its end is all that it returns
pub given_all : {S : Type 0} (steps : S → Option Lent → S → Type 0) (s t u : S) (items : List Lent) (pairs : Stored) → AlwaysYields steps seen s pairs → Yields steps s items t
    → steps t None u → map seen items ≡ pairs
given_all steps s t u items pairs all y end =
    let e : YieldsList steps seen s pairs = record { runs = all } in
    (YieldsList-end e items t y None u refl end).0

-- a walk whose value is the list of what it has still to return
pub shown_all : (walk : Stored) → AlwaysYields (YieldsFirstBy seen (λ rest. rest)) seen walk walk
shown_all walk = (YieldsList-from_first seen (λ (rest : Stored). rest) walk refl).runs

-- a line for each pair
abbrev pub lines_text : Pairs → List ℕ
lines_text pairs = flat_map (λ pair. ended (pair_text pair)) pairs

-- the lines of two lists joined
pub lines_text-append : (a b : Stored) → lines_text (by_bytes (a ++ b)) ≡ lines_text (by_bytes a) ++ lines_text (by_bytes b)
lines_text-append a b = ap lines_text (map-append pair_of a b) ∙ flat_map-append (λ pair. ended (pair_text pair)) (by_bytes a) (by_bytes b)

-- one more pair adds its line
pub lines_text-push : (a : Stored) (pair : Vec ℕ Global × ℕ) → lines_text (by_bytes (a ++ pair ∷ [])) ≡ lines_text (by_bytes a) ++ ended (pair_text (pair_of pair))
lines_text-push a pair = lines_text-append a (pair ∷ []) ∙ ap (λ l. lines_text (by_bytes a) ++ l) (append-nil (ended (pair_text (pair_of pair))))

-- the same for a pair that a walk lends
pub lines_text-given : (items : List Lent) (item : Lent) → lines_text (by_bytes (map seen (items ++ item ∷ []))) ≡ lines_text (by_bytes (map seen items)) ++ ended (pair_text (pair_of (seen item)))
lines_text-given items item = ap (λ l. lines_text (by_bytes l)) (map-append seen items (item ∷ [])) ∙ lines_text-push (map seen items) (seen item)

each_line : (pairs : Pairs) → flat_map ended (map pair_text pairs) ≡ lines_text pairs
each_line [] = refl
each_line (pair ∷ pairs) = ap (λ l. ended (pair_text pair) ++ l) (each_line pairs)

-- the lines of the pairs, and the last line
pub listing_text : (pairs : Pairs) → flat_map ended (listing pairs) ≡ lines_text pairs ++ ended (codes "end " ++ decimal (length pairs))
listing_text pairs =
    flat_map-append ended (map pair_text pairs) ((codes "end " ++ decimal (length pairs)) ∷ [])
    ∙ ap (λ l. l ++ flat_map ended ((codes "end " ++ decimal (length pairs)) ∷ [])) (each_line pairs)
    ∙ ap (λ l. lines_text pairs ++ l) (append-nil (ended (codes "end " ++ decimal (length pairs))))

-- the lines of the pairs of a prefix come first
pub listing_front : (pairs front rest : Stored) → pairs ≡ front ++ rest
    → flat_map ended (listing (by_bytes pairs)) ≡ lines_text (by_bytes front) ++ (lines_text (by_bytes rest) ++ ended (codes "end " ++ decimal (length (by_bytes pairs))))
listing_front pairs front rest is =
    let last = ended (codes "end " ++ decimal (length (by_bytes pairs))) in
    listing_text (by_bytes pairs) ∙ ap (λ l. lines_text (by_bytes l) ++ last) is ∙ ap (λ l. l ++ last) (lines_text-append front rest)
    ∙ append_assoc (lines_text (by_bytes front)) (lines_text (by_bytes rest)) last

-- these lines are a reply to a line
pub replied : (result : Result (Unit {0}) RunError) (before after : Option (List ℕ)) (mark : Bool) (old : Pairs) (line waited waiting : List ℕ) (new : Pairs)
    (command : Option Command) (lines : List (List ℕ)) → command_of (words_of line) ≡ command → Meets old command lines new
    → IsSent result before after mark (waited ++ flat_map ended lines) waiting → IsReplied result before after mark old line waited waiting new
replied result before after mark old line waited waiting new command lines is meets sent = record {
  out = flat_map ended lines;
  reply = record { lines = lines; meets = subst (λ c. Meets old c lines new) (sym is) meets; whole = refl };
  sent = sent;
}

-- one line is a reply to a line
pub replied_one : (result : Result (Unit {0}) RunError) (before after : Option (List ℕ)) (mark : Bool) (old : Pairs) (line waited waiting : List ℕ) (new : Pairs)
    (command : Option Command) (text : List ℕ) → command_of (words_of line) ≡ command → Meets old command (text ∷ []) new
    → IsSent result before after mark (waited ++ ended text) waiting → IsReplied result before after mark old line waited waiting new
replied_one result before after mark old line waited waiting new command text is meets sent =
    replied result before after mark old line waited waiting new command (text ∷ []) is meets
    (subst (λ o. IsSent result before after mark (waited ++ o) waiting) (sym (append-nil (ended text))) sent)
