-- How a session's steps join.
use Rattle.std.proofs.Common.{◌≡◌, ◌≢◌, ℕ, ◌+◌, ◌<◌, ◌≤◌, List, [], ◌∷◌, ◌++◌, length, take, drop, get_or, refl, sym, ap, subst, ◌∙◌, append_assoc, append-nil, take-append-drop, Bool, false, arith, Ok, Err}
use Rattle.std.specs.Prelude.{Option, Result}
use Rattle.std.specs.List.{flat_map}
use Rattle.std.proofs.lemmas.List.{take_more, take_all}
use Rattle.std.proofs.Math.Seq.{take-length, take-add}
use Rattle.std.proofs.lemmas.List.Elements.{All-append, All-nil, All-cons}
use Rattle.line_program.proofs.Sending.{Sends-none}
use Rattle.line_program.proofs.Serving.{RepliesInTurn-one, Serves-trans, Serves-goes_on}
use Rattle.line_program.specs.declared.error.RunError.{RunError}
use Rattle.line_program.specs.declared.error.RunError.TheVariants.{Read, Write, Memory}
use Rattle.line_program.specs.Lines.{IsLine, ended}
use Rattle.line_program.specs.Results.{Pairs, Reply}
use Rattle.line_program.specs.Replied.{IsReplied}
use Rattle.line_program.specs.Sent.{Sends, IsSent}
use Rattle.line_program.specs.Serves.{State, Serves, Stops, IsServed, IsGrown, IsReplying, IsLineReplied}

-- the reply to the line was not sent
pub reply_stops : (before after : Option (List ℕ)) (mark : Bool) (error : RunError) (line waiting : List ℕ) (content : Pairs) (old new : State) → line ≡ old.line
    → IsReplied (Err error) before after mark old.content line old.waiting waiting content → IsLineReplied (Err error) before after mark old new
reply_stops before after mark error line waiting content old new same h =
    let ((left, sent), marked, is) = h.sent in
    let replying : IsReplying before after old content left = record { out = h.out; reply = subst (λ l. Reply old.content l h.out content) same h.reply; sent = sent } in
    subst (λ e. IsLineReplied (Err e) before after mark old new) (sym is) ((content, left, replying), marked)

-- the reply to the line goes after what waits
pub reply_goes : (before after : Option (List ℕ)) (mark : Bool) (done : Unit {0}) (line waiting : List ℕ) (content : Pairs) (old : State) → line ≡ old.line
    → IsReplied (Ok done) before after mark old.content line old.waiting waiting content → IsReplying before after old content waiting × (mark ≡ false)
reply_goes before after mark done line waiting content old same h =
    (record { out = h.out; reply = subst (λ l. Reply old.content l h.out content) same h.reply; sent = h.sent.0 }, h.sent.1)

-- nothing came, and something was sent
pub Serves-sent : {a b : Option (List ℕ)} {left : List ℕ} (s : State) → IsLine s.line → Sends a b s.waiting left
    → Serves a b [] s (record { line = s.line; content = s.content; waiting = left })
Serves-sent {a} {b} {left} s h sent = record {
  lines = [];
  out = [];
  whole = append-nil s.line;
  each = All-nil IsLine;
  last = h;
  replied = (refl, refl);
  sent = rw append-nil sent;
}

-- bytes with no line feed came
pub Serves-grown : (a : Option (List ℕ)) (bytes : List ℕ) (s : State) → IsLine s.line → IsLine bytes
    → Serves a a bytes s (record { line = s.line ++ bytes; content = s.content; waiting = s.waiting })
Serves-grown a bytes s h k = record {
  lines = [];
  out = [];
  whole = refl;
  each = All-nil IsLine;
  last = All-append (λ b. b ≢ 10) s.line bytes h k;
  replied = (refl, refl);
  sent = rw append-nil (Sends-none a s.waiting);
}

-- the rest of a line came, and its line feed
pub Serves-line : {a b : Option (List ℕ)} {content : Pairs} {rest : List ℕ} (bytes : List ℕ) (s : State) → IsLine s.line → IsLine bytes
    → IsReplying a b (record { line = s.line ++ bytes; content = s.content; waiting = s.waiting }) content rest
    → Serves a b (ended bytes) s (record { line = []; content = content; waiting = rest })
Serves-line {a} {b} {content} {rest} bytes s h k replying = record {
  lines = (s.line ++ bytes) ∷ [];
  out = replying.out;
  whole = sym (append_assoc s.line bytes (10 ∷ [])) ∙ sym (append-nil (ended (s.line ++ bytes))) ∙ sym (append-nil (flat_map ended ((s.line ++ bytes) ∷ [])));
  each = All-cons IsLine (s.line ++ bytes) [] (All-append (λ b. b ≢ 10) s.line bytes h k) (All-nil IsLine);
  last = All-nil (λ b. b ≢ 10);
  replied = RepliesInTurn-one s.content content (s.line ++ bytes) replying.out replying.reply;
  sent = replying.sent;
}

-- the line did not grow by the first of these bytes
pub grow_stops : (before after : Option (List ℕ)) (mark : Bool) (error : RunError) (piece bytes : List ℕ) (old mid : State) → IsLine old.line → (bytes ≢ [])
    → IsGrown (Err error) before after mark piece old mid → Stops error before after mark bytes old
grow_stops before after mark Read piece bytes old mid line some h = absurd h
grow_stops before after mark Write piece bytes old mid line some h =
    let ((left, sent), marked) = h in
    let (u, served) = Serves-goes_on bytes (Serves-sent old line sent) in
    (marked, u, served)
grow_stops before after mark Memory piece bytes old mid line some h =
    let s : State = record { line = old.line; content = old.content; waiting = [] } in
    (h.1, [], bytes, refl, some, s, Serves-sent old line h.0, refl)

-- the reply to the line was not sent
pub step_stops : (before after : Option (List ℕ)) (mark : Bool) (error : RunError) (piece rest bytes : List ℕ) (old new : State) → IsLine old.line → IsLine piece
    → bytes ≡ ended piece ++ rest
    → IsLineReplied (Err error) before after mark (record { line = old.line ++ piece; content = old.content; waiting = old.waiting }) new
    → Stops error before after mark bytes old
step_stops before after mark Read piece rest bytes old new line part whole h = absurd h
step_stops before after mark Memory piece rest bytes old new line part whole h = absurd h
step_stops before after mark Write piece rest bytes old new line part whole h =
    let ((content, left, replying), marked) = h in
    let (u, served) = Serves-goes_on rest (Serves-line piece old line part replying) in
    (marked, u, subst (λ x. Serves before after x old u) (sym whole) served)

-- a stop after a part of the bytes
pub Stops-after : {a b : Option (List ℕ)} (c : Option (List ℕ)) (mark : Bool) {x : List ℕ} {s t : State} (error : RunError) (y bytes : List ℕ) → bytes ≡ x ++ y
    → Serves a b x s t → Stops error b c mark y t → Stops error a c mark bytes s
Stops-after c mark Read y bytes whole h k = absurd k
Stops-after {a} {b} c mark {x} {s} {t} Write y bytes whole h k =
    let (marked, u, served) = k in
    (marked, u, subst (λ z. Serves a c z s u) (sym whole) (Serves-trans h served))
Stops-after {a} {b} c mark {x} {s} {t} Memory y bytes whole h k =
    let (marked, front, rest, is, some, u, served, none) = k in
    (marked, x ++ front, rest, whole ∙ ap (λ l. x ++ l) is ∙ sym (append_assoc x front rest), some, u, Serves-trans h served, none)

-- what waited was not sent in full
pub Stops-sending : {a b : Option (List ℕ)} (c : Option (List ℕ)) (mark : Bool) {x : List ℕ} (left : List ℕ) {s t : State} (error : RunError)
    → Serves a b x s t → IsSent (Err error) b c mark t.waiting left → Stops error a c mark x s
Stops-sending {a} {b} c mark {x} left {s} {t} error h k =
    let ((rest, sent), marked, is) = k in
    let u : State = record { line = t.line; content = t.content; waiting = rest } in
    let served : Serves a c (x ++ []) s u = Serves-trans h (Serves-sent t h.last sent) in
    subst (λ e. Stops e a c mark x s) (sym is) (marked, u, rw append-nil at served)

-- bytes came, and then something was sent
pub Serves-all_sent : {a b c : Option (List ℕ)} {x left : List ℕ} {s t : State}
    → Serves a b x s t → Sends b c t.waiting left → Serves a c x s (record { line = t.line; content = t.content; waiting = left })
Serves-all_sent {t = t} h k = rw append-nil at (Serves-trans h (Serves-sent t h.last k))

-- bytes whose length is not zero are not empty
pub some_bytes : (bytes : List ℕ) → 0 < length bytes → bytes ≢ []
some_bytes bytes h e = let none : length bytes ≡ 0 = ap length e in absurd (omega arith)

-- the bytes up to a line feed, the line feed, and the rest
feed_at : (at : ℕ) (piece bytes : List ℕ) → piece ≡ take at bytes → at < length bytes → get_or bytes at 0 ≡ 10 → take (at + 1) bytes ≡ ended piece
feed_at at piece bytes is lt feed = take_more bytes at 0 lt ∙ ap (λ b. take at bytes ++ b ∷ []) feed ∙ ap ended (sym is)

-- the line grew and its reply was not sent
pub feed_stops : (before mid after : Option (List ℕ)) (mark : Bool) (error : RunError) (at : ℕ) (piece bytes : List ℕ) (old grown new : State)
    → piece ≡ take at bytes → (grown ≡ record { line = old.line ++ piece; content = old.content; waiting = old.waiting }) → mid ≡ before
    → at < length bytes → get_or bytes at 0 ≡ 10 → IsLine (take at bytes) → IsLine old.line
    → IsLineReplied (Err error) mid after mark grown new → Stops error before after mark bytes old
feed_stops before mid after mark error at piece bytes old grown new is grew same lt feed part line h =
    let h1 = subst (λ m. IsLineReplied (Err error) m after mark grown new) same h in
    let h2 = subst (λ s. IsLineReplied (Err error) before after mark s new) grew h1 in
    let whole = sym (take-append-drop (at + 1) bytes) ∙ ap (λ l. l ++ drop (at + 1) bytes) (feed_at at piece bytes is lt feed) in
    step_stops before after mark error piece (drop (at + 1) bytes) bytes old new line (subst IsLine (sym is) part) whole h2

-- the line grew, and the reply was sent
pub feed_serves : (before mid after : Option (List ℕ)) (at : ℕ) (piece bytes : List ℕ) (old grown new : State)
    → piece ≡ take at bytes → (grown ≡ record { line = old.line ++ piece; content = old.content; waiting = old.waiting }) → mid ≡ before
    → at < length bytes → get_or bytes at 0 ≡ 10 → IsLine (take at bytes) → IsLine old.line
    → IsReplying mid after grown new.content new.waiting → new.line ≡ [] → Serves before after (take (at + 1) bytes) old new
feed_serves before mid after at piece bytes old grown new is grew same lt feed part line h none =
    let h1 = subst (λ m. IsReplying m after grown new.content new.waiting) same h in
    let h2 = subst (λ s. IsReplying before after s new.content new.waiting) grew h1 in
    let served = Serves-line piece old line (subst IsLine (sym is) part) h2 in
    let s1 = subst (λ x. Serves before after x old (record { line = []; content = new.content; waiting = new.waiting })) (sym (feed_at at piece bytes is lt feed)) served in
    subst (λ l. Serves before after (take (at + 1) bytes) old (record { line = l; content = new.content; waiting = new.waiting })) (sym none) s1

-- the line grew by all the bytes
pub rest_serves : (before mid : Option (List ℕ)) (bytes : List ℕ) (old grown : State)
    → (grown ≡ record { line = old.line ++ bytes; content = old.content; waiting = old.waiting }) → mid ≡ before
    → IsLine bytes → IsLine old.line → Serves before mid (take (length bytes) bytes) old grown
rest_serves before mid bytes old grown grew same part line =
    let s1 = subst (λ m. Serves before m bytes old (record { line = old.line ++ bytes; content = old.content; waiting = old.waiting })) (sym same) (Serves-grown before bytes old line part) in
    let s2 = subst (λ s. Serves before mid bytes old s) (sym grew) s1 in
    subst (λ x. Serves before mid x old grown) (sym (take-length bytes)) s2

-- a part of the rest was served
pub serves_more : (a b c : Option (List ℕ)) (done n : ℕ) (piece bytes : List ℕ) (s t u : State) → piece ≡ drop done bytes
    → Serves a b (take done bytes) s t → Serves b c (take n piece) t u → Serves a c (take (done + n) bytes) s u
serves_more a b c done n piece bytes s t u is h k =
    let k1 = subst (λ p. Serves b c (take n p) t u) is k in
    subst (λ x. Serves a c x s u) (sym (take-add done n bytes)) (Serves-trans h k1)

-- serving a part of the rest stopped
pub serves_stops : (a b c : Option (List ℕ)) (mark : Bool) (error : RunError) (done : ℕ) (piece bytes : List ℕ) (s t : State) → piece ≡ drop done bytes
    → Serves a b (take done bytes) s t → Stops error b c mark piece t → Stops error a c mark bytes s
serves_stops a b c mark error done piece bytes s t is h k =
    Stops-after c mark error piece bytes (sym (take-append-drop done bytes) ∙ ap (λ p. take done bytes ++ p) (sym is)) h k

-- all was served, and what waits is sent
pub flushed : (a b c : Option (List ℕ)) (mark : Bool) (r : Result (Unit {0}) RunError) (done : ℕ) (bytes : List ℕ) (s t : State) (left : List ℕ) → length bytes ≤ done
    → Serves a b (take done bytes) s t → IsSent r b c mark t.waiting left → IsServed r a c mark bytes s (record { line = t.line; content = t.content; waiting = left })
flushed a b c mark (Ok done') done bytes s t left le h k = (subst (λ x. Serves a c x s (record { line = t.line; content = t.content; waiting = left })) (take_all done bytes le) (Serves-all_sent h k.0), k.1)
flushed a b c mark (Err error) done bytes s t left le h k = Stops-sending c mark left error (subst (λ x. Serves a b x s t) (take_all done bytes le) h) k
