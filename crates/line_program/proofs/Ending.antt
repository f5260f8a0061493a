-- How a run ends.
use Rattle.std.proofs.Common.{◌≡◌, ◌≢◌, ℕ, ◌+◌, ◌-◌, ◌^◌, ◌<◌, ◌≤◌, ◌⊎◌, List, [], ◌∷◌, ◌++◌, length, length-append, inl, inr, refl, sym, ap, subst, ◌∙◌, append_assoc, append-nil, Bool, true, false, arith, Ok, Err, Some, None, ◌==◌, ◌||◌, suc, eq-eqb, eqb-true, ne_eqb}
use Rattle.std.specs.Prelude.{Option, Result, OnOk, ◌&&◌, not}
use Rattle.std.proofs.Math.Bool.{or-false}
use Rattle.std.specs.List.{flat_map}
use Rattle.std.specs.Io.KnownBytes.{Appends, Consumes, IsAtEnd}
use Rattle.std.proofs.lemmas.List.Elements.{All-append}
use Rattle.std.proofs.lemmas.Grind.{flat_map-append}
use Rattle.std.proofs.KnownBytes.{Consumes-trans}
use Rattle.line_program.proofs.Stepping.{Stops-after}
use Rattle.line_program.proofs.Sending.{Sends-trans}
use Rattle.line_program.proofs.Serving.{RepliesInTurn-one, RepliesInTurn-append, Reply-exists, Splits-exist}
use Rattle.line_program.specs.declared.error.RunError.{RunError}
use Rattle.line_program.specs.declared.error.RunError.TheVariants.{Read, Write, Memory}
use Rattle.line_program.specs.Lines.{IsLine, ended, Splits, with_last}
use Rattle.line_program.specs.Results.{Pairs}
use Rattle.line_program.specs.Replies.{RepliesInTurn, Replies, BeginsReplies}
use Rattle.line_program.specs.RunEnds.{RunEnds, IsMarked}
use Rattle.line_program.specs.Sent.{Sends, IsSent}
use Rattle.line_program.specs.Serves.{State, Serves, Stops, IsReplying, IsLineReplied}
use Rattle.line_program.specs.Ran.{IsReadAll, IsLastReplied, IsFinished}

-- ---- the last line

with_last_some : (lines : List (List ℕ)) (bytes : List ℕ) → (bytes ≢ []) → with_last lines bytes ≡ lines ++ bytes ∷ []
with_last_some lines [] some = absurd (some refl)
with_last_some lines (b ∷ bs) some = refl

sent_all : {a b : Option (List ℕ)} {bytes : List ℕ} (left : List ℕ) → left ≡ [] → Sends a b bytes left → Sends a b bytes []
sent_all {a} {b} {bytes} left e s = subst (Sends a b bytes) e s

-- no bytes came after the last line feed
pub last_none : (before after : Option (List ℕ)) (mark : Bool) (r : Result (Unit {0}) RunError) (old : State) (left : List ℕ) → old.line ≡ []
    → IsSent r before after mark old.waiting left → OnOk r (left ≡ []) → IsFinished r before after mark old
last_none before after mark (Ok done) old left e h none =
    let replied = subst (λ l. RepliesInTurn old.content (with_last [] l) [] old.content) (sym e) (refl, refl) in
    (record { out = []; content = old.content; replied = replied; sent = rw append-nil (sent_all left none h.0) }, h.1)
last_none before after mark (Err error) old left e h none =
    let ((rest, sent), marked, is) = h in
    let replied = subst (λ l. RepliesInTurn old.content (with_last [] l) [] old.content) (sym e) (refl, refl) in
    let last : IsLastReplied before after old rest = record { out = []; content = old.content; replied = replied; sent = rw append-nil sent } in
    subst (λ x. IsFinished (Err x) before after mark old) (sym is) ((rest, last), marked)

last_replied : {before after : Option (List ℕ)} {rest : List ℕ} {content : Pairs} (old : State) → (old.line ≢ []) → IsReplying before after old content rest → IsLastReplied before after old rest
last_replied {before} {after} {rest} {content} old some h = record {
  out = h.out;
  content = content;
  replied = rw (with_last_some [] old.line some) (RepliesInTurn-one old.content content old.line h.out h.reply);
  sent = h.sent;
}

-- the reply to the last line was not sent in full
pub last_stops : (before after : Option (List ℕ)) (mark : Bool) (error : RunError) (old new : State) → (old.line ≢ [])
    → IsLineReplied (Err error) before after mark old new → IsFinished (Err error) before after mark old
last_stops before after mark Read old new some h = absurd h
last_stops before after mark Memory old new some h = absurd h
last_stops before after mark Write old new some h =
    let ((content, left, replying), marked) = h in
    ((left, last_replied old some replying), marked)

goes_out : {a b c : Option (List ℕ)} {old : State} {content : Pairs} {waiting rest : List ℕ} → IsReplying a b old content waiting → Sends b c waiting rest → IsReplying a c old content rest
goes_out {a} {b} {c} {old} {content} {waiting} {rest} h s =
    let more : Sends b c (waiting ++ []) rest = rw append-nil s in
    let sent = Sends-trans [] h.sent more in
    record { out = h.out; reply = h.reply; sent = rw append-nil at sent }

-- the last line has a reply, and what waits is sent
pub last_sent : (before mid after : Option (List ℕ)) (mark : Bool) (r : Result (Unit {0}) RunError) (old : State) (content : Pairs) (waiting left : List ℕ) → (old.line ≢ [])
    → IsReplying before mid old content waiting → IsSent r mid after mark waiting left → OnOk r (left ≡ []) → IsFinished r before after mark old
last_sent before mid after mark (Ok done) old content waiting left some h s none =
    (last_replied old some (goes_out h (sent_all left none s.0)), s.1)
last_sent before mid after mark (Err error) old content waiting left some h s none =
    let ((rest, sent), marked, is) = s in
    subst (λ x. IsFinished (Err x) before after mark old) (sym is) ((rest, last_replied old some (goes_out h sent)), marked)

-- ---- known bytes

known_read : (was is : Option (List ℕ)) (read input : List ℕ) → Consumes was is read → was ≡ Some input → (rest : List ℕ) × (input ≡ read ++ rest) × (is ≡ Some rest)
known_read None is read input h e = absurd (cc)
known_read (Some x) None read input h e = absurd h
known_read (Some x) (Some y) read input h e = let same : x ≡ input = cc in (y, sym same ∙ h, refl)

known_written : (was is : Option (List ℕ)) (written before : List ℕ) → Appends was is written → was ≡ Some before → is ≡ Some (before ++ written)
known_written None is written before h e = absurd (cc)
known_written (Some x) None written before h e = absurd h
known_written (Some x) (Some y) written before h e = let same : x ≡ before = cc in ap Some (h ∙ ap (λ l. l ++ written) same)

at_end : (is : Option (List ℕ)) (read rest input : List ℕ) → input ≡ read ++ rest → is ≡ Some rest → length input < 2 ^ 64 - 1 → IsAtEnd is ⊎ (2 ^ 64 - 1 ≤ length read) → rest ≡ []
at_end None read rest input e known short (inl h) = absurd (cc)
at_end (Some x) read rest input e known short (inl h) = let same : x ≡ rest = cc in sym same ∙ h
at_end is read rest input e known short (inr h) =
    let whole : length input ≡ length read + length rest = ap length e ∙ length-append read rest in absurd (omega arith)

-- ---- which lines have replies

begins_last : (lines : List (List ℕ)) (open_bytes written : List ℕ) → BeginsReplies lines written → BeginsReplies (with_last lines open_bytes) written
begins_last lines [] written h = h
begins_last lines (b ∷ bs) written h =
    let (more, (new, replied)) = h in
    let (text, last, reply) = Reply-exists new (b ∷ bs) in
    let all = RepliesInTurn-append [] new last lines ((b ∷ bs) ∷ []) (written ++ more) text replied (RepliesInTurn-one new last (b ∷ bs) text reply) in
    (more ++ text, (last, subst (λ o. RepliesInTurn [] (lines ++ (b ∷ bs) ∷ []) o last) (append_assoc written more text) all))

with_last-append : (ls ms : List (List ℕ)) (bytes : List ℕ) → with_last (ls ++ ms) bytes ≡ ls ++ with_last ms bytes
with_last-append ls ms [] = refl
with_last-append ls ms (b ∷ bs) = append_assoc ls ms ((b ∷ bs) ∷ [])

some_line : (bytes : List ℕ) (lines : List (List ℕ)) (open_bytes : List ℕ) → (bytes ≢ []) → Splits bytes lines open_bytes
    → (line : List ℕ) × (after : List (List ℕ)) × (with_last lines open_bytes ≡ line ∷ after)
some_line bytes [] [] some s = absurd (some s.whole)
some_line bytes [] (b ∷ bs) some s = (b ∷ bs, [], refl)
some_line bytes (l ∷ ls) [] some s = (l, ls, refl)
some_line bytes (l ∷ ls) (b ∷ bs) some s = (l, ls ++ (b ∷ bs) ∷ [], refl)

tail_nil : (xs ys : List ℕ) → xs ++ ys ≡ [] → ys ≡ []
tail_nil [] ys e = e
tail_nil (x ∷ xs) ys e = absurd (cc)

-- before the first byte
abbrev pub begun : State
begun = record { line = []; content = []; waiting = [] }

split_of : {a b : Option (List ℕ)} {read : List ℕ} {new : State} → (s : Serves a b read begun new) → Splits read s.lines new.line
split_of {a} {b} {read} {new} s = record { whole = s.whole; each = s.each; last = s.last }

replies_of : {a b : Option (List ℕ)} {read : List ℕ} {new : State} → (s : Serves a b read begun new) → new.waiting ≡ [] → Replies s.lines s.sent.front
replies_of {a} {b} {read} {new} s none =
    (new.content, subst (λ o. RepliesInTurn [] s.lines o new.content) (s.sent.whole ∙ ap (λ w. s.sent.front ++ w) none ∙ append-nil s.sent.front) s.replied)

begins_of : {a b : Option (List ℕ)} {read : List ℕ} {new : State} → (s : Serves a b read begun new) → BeginsReplies s.lines s.sent.front
begins_of {a} {b} {read} {new} s = (new.waiting, (new.content, subst (λ o. RepliesInTurn [] s.lines o new.content) s.sent.whole s.replied))

-- what a run over known bytes ensures
abbrev pub Told : Result (Unit {0}) RunError → Option (List ℕ) → Option (List ℕ) → Bool → Option (List ℕ) → Option (List ℕ) → Bool → Type 0
Told r was is reader_mark before after writer_mark =
    (input held : List ℕ) → was ≡ Some input → length input < 2 ^ 64 - 1 → before ≡ Some held
    → (read rest written : List ℕ) × (input ≡ read ++ rest) × (is ≡ Some rest) × (after ≡ Some (held ++ written)) × RunEnds r reader_mark writer_mark read rest written

not_at_end_stops : (was is : Option (List ℕ)) (rm : Bool) (before after : Option (List ℕ)) (wm : Bool) (read : List ℕ) → Consumes was is read
    → Stops Write before after wm read begun → Told (Err Write) was is rm before after wm
not_at_end_stops was is rm before after wm read came h = λ input held e short f.
    let (marked, new, s) = h in
    let (rest, split, left) = known_read was is read input came e in
    let begins = begins_of s in (
      read,
      rest,
      s.sent.front,
      split,
      left,
      known_written before after s.sent.front held s.sent.taken f,
      (marked, s.lines, new.line, split_of s, begins_last s.lines new.line s.sent.front begins, λ some. begins),
    )

starved : (was is : Option (List ℕ)) (rm : Bool) (before after : Option (List ℕ)) (wm : Bool) (read : List ℕ) → Consumes was is read → rm ≡ false
    → Stops Memory before after wm read begun → Told (Err Memory) was is rm before after wm
starved was is rm before after wm read came unmarked h = λ input held e short f.
    let (marked, front, next, whole, some, new, s, none) = h in
    let (rest, split, left) = known_read was is read input came e in
    let (lines, open_bytes, more) = Splits-exist (new.line ++ next) in
    let apart : new.line ++ next ≢ [] = λ z. some (tail_nil new.line next z) in
    let (line, after_lines, is_some) = some_line (new.line ++ next) lines open_bytes apart more in
    let joined : Splits read (s.lines ++ lines) open_bytes = record {
      whole = whole ∙ ap (λ l. l ++ next) s.whole ∙ append_assoc (flat_map ended s.lines) new.line next ∙ ap (λ l. flat_map ended s.lines ++ l) more.whole
          ∙ sym (append_assoc (flat_map ended s.lines) (flat_map ended lines) open_bytes) ∙ ap (λ l. l ++ open_bytes) (sym (flat_map-append ended s.lines lines));
      each = All-append IsLine s.lines lines s.each more.each;
      last = more.last;
    } in (
      read,
      rest,
      s.sent.front,
      split,
      left,
      known_written before after s.sent.front held s.sent.taken f,
      (
        unmarked,
        marked,
        s.lines ++ lines,
        open_bytes,
        joined,
        s.lines,
        line,
        after_lines,
        with_last-append s.lines lines open_bytes ∙ ap (λ l. s.lines ++ l) is_some,
        replies_of s none,
      ),
    )

-- ---- the two parts of a run

-- an error ended the reading
pub run_stops : (was is : Option (List ℕ)) (rm : Bool) (before after : Option (List ℕ)) (wm : Bool) (error : RunError) (new : State)
    → IsReadAll (Err error) was is rm before after wm begun new → Told (Err error) was is rm before after wm
run_stops was is rm before after wm Read new h = λ input held e short f.
    let (read, came, last, s, none, marked, unmarked) = h in
    let (rest, split, left) = known_read was is read input came e in (
      read,
      rest,
      s.sent.front,
      split,
      left,
      known_written before after s.sent.front held s.sent.taken f,
      (marked, s.lines, last.line, split_of s, replies_of s none),
    )
run_stops was is rm before after wm Write new h = let (read, came, stops, unmarked) = h in not_at_end_stops was is rm before after wm read came stops
run_stops was is rm before after wm Memory new h = let (read, came, stops, unmarked) = h in starved was is rm before after wm read came unmarked stops

-- the lines before, and the last one
last_joined : {a b c : Option (List ℕ)} {read left : List ℕ} {mid : State} (s : Serves a b read begun mid) (l : IsLastReplied b c mid left)
    → RepliesInTurn [] (with_last s.lines mid.line) (s.out ++ l.out) l.content × Sends a c (s.out ++ l.out) left
last_joined {a} {b} {c} {read} {left} {mid} s l =
    let all = RepliesInTurn-append [] mid.content l.content s.lines (with_last [] mid.line) s.out l.out s.replied l.replied in
    let same = sym (with_last-append s.lines [] mid.line) ∙ ap (λ ls. with_last ls mid.line) (append-nil s.lines) in
    (subst (λ ls. RepliesInTurn [] ls (s.out ++ l.out) l.content) same all, Sends-trans l.out s.sent l.sent)

-- all was read
pub run_ends : (was is : Option (List ℕ)) (rm : Bool) (before mid after : Option (List ℕ)) (was_wm wm : Bool) (r : Result (Unit {0}) RunError) (new : State) (u : Unit {0})
    → IsReadAll (Ok u) was is rm before mid was_wm begun new → IsFinished r mid after wm new → Told r was is rm before after wm
run_ends was is rm before mid after was_wm wm (Ok done) new u h k = λ input held e short f.
    let (read, (came, full), s, none, unmarked, wm_before) = h in
    let (rest, split, left) = known_read was is read input came e in
    let (replied, sent) = last_joined s k.0 in (
      read,
      rest,
      sent.front,
      split,
      left,
      known_written before after sent.front held sent.taken f,
      (
        unmarked,
        k.1,
        at_end is read rest input split left short full,
        s.lines,
        new.line,
        split_of s,
        (k.0.content, subst (λ o. RepliesInTurn [] (with_last s.lines new.line) o k.0.content) (sent.whole ∙ append-nil sent.front) replied),
      ),
    )
run_ends was is rm before mid after was_wm wm (Err Read) new u h k = absurd k
run_ends was is rm before mid after was_wm wm (Err Memory) new u h k = absurd k
run_ends was is rm before mid after was_wm wm (Err Write) new u h k = λ input held e short f.
    let (read, (came, full), s, none, unmarked, wm_before) = h in
    let (rest, split, left) = known_read was is read input came e in
    let ((waiting, l), marked) = k in
    let (replied, sent) = last_joined s l in (
      read,
      rest,
      sent.front,
      split,
      left,
      known_written before after sent.front held sent.taken f,
      (
        marked,
        s.lines,
        new.line,
        split_of s,
        (waiting, (l.content, subst (λ o. RepliesInTurn [] (with_last s.lines new.line) o l.content) sent.whole replied)),
        λ some. absurd (some (at_end is read rest input split left short full)),
      ),
    )

-- ---- what the code says

-- a length of zero
pub no_bytes : (xs : List ℕ) (n : ℕ) → n ≡ length xs → true ≡ (n == 0) → xs ≡ []
no_bytes [] n e t = refl
no_bytes (x ∷ xs) n e t = let z : n ≡ 0 = eqb-true n 0 (sym t) in let m : n ≡ suc (length xs) = e in absurd (omega arith)

-- another length
pub some_bytes_left : (xs : List ℕ) (n : ℕ) → n ≡ length xs → false ≡ (n == 0) → xs ≢ []
some_bytes_left xs n e t none = let z : n ≡ 0 = e ∙ ap length none in let yes : (n == 0) ≡ true = eq-eqb n 0 z in cc

-- a read that returned no error left no mark
pub unmarked_read : (a b : Bool) → a ≡ false → b ≡ (a || false) → b ≡ false
unmarked_read a b e h = h ∙ rw e refl

-- a read that moved bytes is no end, and came after no end
pub read_once : (ended_before ended_after again_before again_after again : Bool) (n : ℕ) (bytes : List ℕ) → n ≢ 0 → (ended_before ≡ false) × (again_before ≡ again)
    → ended_after ≡ (ended_before || ((n == 0) && not (length bytes == 0))) → again_after ≡ (again_before || ended_before) → (ended_after ≡ false) × (again_after ≡ again)
read_once a b c d e n bytes some h p q =
    let f : (n == 0) ≡ false = ne_eqb n 0 some in
    let g : b ≡ false = p ∙ rw (h.0, f) refl in
    let k : d ≡ c = q ∙ rw h.0 (or-false c) in
    (g, k ∙ h.1)

-- serving a piece that was read ended the reading
pub served_stops : (was mid is : Option (List ℕ)) (rm : Bool) (before between after : Option (List ℕ)) (wm : Bool) (error : RunError) (read front piece : List ℕ) (s t u : State)
    → Consumes was mid read → Consumes mid is front → piece ≡ front → Serves before between read s t → Stops error between after wm piece t → rm ≡ false
    → IsReadAll (Err error) was is rm before after wm s u
served_stops was mid is rm before between after wm Read read front piece s t u came more e served stops unmarked = absurd stops
served_stops was mid is rm before between after wm Write read front piece s t u came more e served stops unmarked =
    (read ++ front, Consumes-trans was mid is read front came more, Stops-after after wm Write piece (read ++ front) (ap (λ p. read ++ p) (sym e)) served stops, unmarked)
served_stops was mid is rm before between after wm Memory read front piece s t u came more e served stops unmarked =
    (read ++ front, Consumes-trans was mid is read front came more, Stops-after after wm Memory piece (read ++ front) (ap (λ p. read ++ p) (sym e)) served stops, unmarked)

-- ---- the marks

-- the marks after an error
pub marked_stop : (was is : Option (List ℕ)) (rm : Bool) (before after : Option (List ℕ)) (wm : Bool) (error : RunError) (old new : State)
    → IsReadAll (Err error) was is rm before after wm old new → IsMarked (Err error) rm wm
marked_stop was is rm before after wm Read old new h = let (read, came, last, s, none, marked, unmarked) = h in (marked, unmarked)
marked_stop was is rm before after wm Write old new h = let (read, came, stops, unmarked) = h in (unmarked, stops.0)
marked_stop was is rm before after wm Memory old new h = let (read, came, stops, unmarked) = h in (unmarked, stops.0)

-- the marks after all was read
pub marked_end : (was is : Option (List ℕ)) (rm : Bool) (before mid after : Option (List ℕ)) (was_wm wm : Bool) (r : Result (Unit {0}) RunError) (old new : State) (u : Unit {0})
    → IsReadAll (Ok u) was is rm before mid was_wm old new → IsFinished r mid after wm new → IsMarked r rm wm
marked_end was is rm before mid after was_wm wm (Ok done) old new u h k = let (read, came, s, none, unmarked, w) = h in (unmarked, k.1)
marked_end was is rm before mid after was_wm wm (Err Read) old new u h k = absurd k
marked_end was is rm before mid after was_wm wm (Err Memory) old new u h k = absurd k
marked_end was is rm before mid after was_wm wm (Err Write) old new u h k = let (read, came, s, none, unmarked, w) = h in (unmarked, k.1)
