-- How the parts of a session join.
use Rattle.std.proofs.Common.{◌≡◌, ◌≢◌, ℕ, List, [], ◌∷◌, ◌++◌, refl, sym, ap, subst, ◌∙◌, append_assoc, append-nil, Bool, true, false, ◌==◌, arith, eqb-true, inl, inr, suc, zero, Some, None, Ok, Err}
use Rattle.std.proofs.lemmas.Bool.{false≢true}
use Rattle.std.proofs.lemmas.Bool.Decides.{nat_tests}
use Rattle.std.specs.Prelude.{Option, Contains, codes, decimal, length}
use Rattle.std.specs.List.{flat_map}
use Rattle.std.proofs.lemmas.Grind.{flat_map-append}
use Rattle.std.proofs.lemmas.List.Elements.{All-append, All-nil, All-cons, All-head, All-tail}
use Rattle.blart_keys.specs.declared.calls.TryInsertError.TheVariants.{Prefix, Memory}
use Rattle.blart_keys.specs.Bytes.{related}
use Rattle.blart_keys.specs.Content.{stores, conflict, front_of, without, under, IsPut, IsOver}
use Rattle.blart_keys.proofs.RankLemmas.{Member-from_Contains}
use Rattle.blart_keys.proofs.ContentLemmas.{one_content, related_no_conflict}
use Rattle.line_program.proofs.Sending.{Sends-none, Sends-trans}
use Rattle.line_program.specs.Lines.{IsLine, ended, Splits}
use Rattle.blart_keys.specs.Outside.{outside}
use Rattle.line_program.specs.Command.{Command, Insert, Get, Remove, RemovePrefix, PrefixGet, Overwrite, ListAll, ListPrefix, ListRange, command_of, words_of}
use Rattle.line_program.specs.Results.{Pairs, Reply, Meets, HasResultOrFails, listing, range_lines, pair_bytes, value_text, value_at, found_text, inserted_text}
use Rattle.line_program.specs.Replies.{RepliesInTurn}
use Rattle.line_program.specs.Serves.{State, Serves}

-- the command has a reply
abbrev HasReply : Pairs → Command → Type 0
HasReply S command = (lines : List (List ℕ)) × (T : Pairs) × HasResultOrFails S command lines T

related_empty : (a : List ℕ) → related a [] ≡ true
related_empty [] = refl
related_empty (x ∷ a) = refl

only_one : (x y : List ℕ × ℕ) → Contains (x ∷ []) y → x ≡ y
only_one x y (zero, lt, e) = e
only_one x y (suc k, lt, e) = absurd (omega arith)

-- if nothing conflicts with the empty key, a put of it leaves only its pair
stored_empty : (S : Pairs) (n : ℕ) → conflict pair_bytes S [] ≡ false → IsPut pair_bytes S ([], n) (([], n) ∷ [])
stored_empty S n free = record {
  content = one_content pair_bytes ([], n);
  there = (0, omega arith, refl);
  others = λ y apart. (
    λ h. absurd (apart (sym (ap (λ (pair : List ℕ × ℕ). pair.0) (only_one ([], n) y h)))),
    λ h. absurd (apart (related_no_conflict pair_bytes S [] y free (Member-from_Contains y S h) (related_empty y.0))),
  );
}

insert_empty : (S : Pairs) (n : ℕ) (t u : Bool) → conflict pair_bytes S [] ≡ t → stores pair_bytes S [] ≡ u → HasReply S (Insert [] n)
insert_empty S n true u conflicts is = (codes "refused prefix" ∷ [], S, inl (Err (Prefix (record {})), (conflicts, refl), refl))
insert_empty S n false false free new = (codes "refused memory" ∷ [], S, inl (Err (Memory (record {})), (free, new, refl), refl))
insert_empty S n false true free is = (inserted_text (Ok (value_at S [])) ∷ [], ([], n) ∷ [], inl (Ok (value_at S []), (free, stored_empty S n free, refl), refl))

-- an empty key that is put over all leaves only its pair
over_empty : (S : Pairs) (n : ℕ) → IsOver pair_bytes S ([], n) (([], n) ∷ [])
over_empty S n = record {
  content = one_content pair_bytes ([], n);
  there = (0, omega arith, refl);
  others = λ y off. absurd (false≢true (sym off ∙ related_empty y.0));
}

-- each command has a reply
command_reply : (S : Pairs) (command : Command) → HasReply S command
command_reply S (Insert [] n) = insert_empty S n (conflict pair_bytes S []) (stores pair_bytes S []) refl refl
command_reply S (Insert (b ∷ key) n) = (codes "refused memory" ∷ [], S, inr (λ e. cc, refl, refl))
command_reply S (Get key) = (value_text (value_at S key) ∷ [], S, inl (refl, refl))
command_reply S (Remove key) = (value_text (value_at S key) ∷ [], without pair_bytes S key, inl (refl, refl))
command_reply S (RemovePrefix key) = ((codes "removed " ++ decimal (length (under pair_bytes S key))) ∷ [], outside pair_bytes S key, inl (refl, refl))
command_reply S (PrefixGet key) = (found_text (front_of pair_bytes S key) ∷ [], S, inl (refl, refl))
command_reply S (Overwrite [] n) = let T : Pairs = ([], n) ∷ [] in ((codes "len " ++ decimal (length T)) ∷ [], T, inl (inl (over_empty S n, refl)))
command_reply S (Overwrite (b ∷ key) n) = (codes "refused memory" ∷ [], S, inr (λ e. cc, refl, refl))
command_reply S ListAll = (listing S, S, inl (refl, refl))
command_reply S (ListPrefix key) = (listing (under pair_bytes S key), S, inl (refl, refl))
command_reply S (ListRange low high) = (range_lines S low high, S, inl (refl, refl))

line_reply : (S : Pairs) (command : Option Command) → (lines : List (List ℕ)) × (T : Pairs) × Meets S command lines T
line_reply S None = (codes "refused line" ∷ [], S, (refl, refl))
line_reply S (Some command) = command_reply S command

-- each line has a reply
pub Reply-exists : (S : Pairs) (line : List ℕ) → (out : List ℕ) × (T : Pairs) × Reply S line out T
Reply-exists S line =
    let (lines, T, meets) = line_reply S (command_of (words_of line)) in
    (flat_map ended lines, T, record { lines = lines; meets = meets; whole = refl })

-- replies to lines one after the other
pub RepliesInTurn-append : (a b c : Pairs) (ls ms : List (List ℕ)) (o p : List ℕ) → RepliesInTurn a ls o b → RepliesInTurn b ms p c → RepliesInTurn a (ls ++ ms) (o ++ p) c
RepliesInTurn-append a b c [] ms o p h k = let P : List ℕ → Pairs → Type 0 = λ q d. RepliesInTurn d ms q c in
    rw (h.0) (subst (λ d. RepliesInTurn d ms p c) h.1 k)
RepliesInTurn-append a b c (l ∷ ls) ms o p h k =
    let (text, mid, more, reply, rest, whole) = h in (
      text,
      mid,
      more ++ p,
      reply,
      RepliesInTurn-append mid b c ls ms more p rest k,
      ap (λ q. q ++ p) whole ∙ append_assoc text more p,
    )

-- many lines have a reply
pub RepliesInTurn-exist : (a : Pairs) (ls : List (List ℕ)) → (o : List ℕ) × (b : Pairs) × RepliesInTurn a ls o b
RepliesInTurn-exist a [] = ([], a, (refl, refl))
RepliesInTurn-exist a (l ∷ ls) =
    let (text, mid, reply) = Reply-exists a l in
    let (more, b, rest) = RepliesInTurn-exist mid ls in
    (text ++ more, b, (text, mid, more, reply, rest, refl))

-- one line
pub RepliesInTurn-one : (a b : Pairs) (l text : List ℕ) → Reply a l text b → RepliesInTurn a (l ∷ []) text b
RepliesInTurn-one a b l text h = (text, b, [], h, (refl, refl), sym (append-nil text))

-- one more line feed in front
split_feed : (bytes : List ℕ) (lines : List (List ℕ)) (open_bytes : List ℕ) → Splits bytes lines open_bytes → Splits (10 ∷ bytes) ([] ∷ lines) open_bytes
split_feed bytes lines open_bytes s = record {
  whole = ap (λ l. 10 ∷ l) s.whole;
  each = All-cons IsLine [] lines (All-nil (λ b. b ≢ 10)) s.each;
  last = s.last;
}

split_other : (b : ℕ) (bytes : List ℕ) (lines : List (List ℕ)) (open_bytes : List ℕ) → b ≢ 10 → Splits bytes lines open_bytes
    → (more : List (List ℕ)) × (rest : List ℕ) × Splits (b ∷ bytes) more rest
split_other b bytes [] open_bytes apart s = (
  [],
  b ∷ open_bytes,
  record {
    whole = ap (λ l. b ∷ l) s.whole;
    each = s.each;
    last = All-cons (λ x. x ≢ 10) b open_bytes apart s.last;
  },
)
split_other b bytes (l ∷ ls) open_bytes apart s = (
  (b ∷ l) ∷ ls,
  open_bytes,
  record {
    whole = ap (λ l. b ∷ l) s.whole;
    each = All-cons IsLine (b ∷ l) ls (All-cons (λ x. x ≢ 10) b l apart (All-head IsLine l ls s.each)) (All-tail IsLine l ls s.each);
    last = s.last;
  },
)

split_byte : (b : ℕ) (t : Bool) → (b == 10) ≡ t → (bytes : List ℕ) (lines : List (List ℕ)) (open_bytes : List ℕ) → Splits bytes lines open_bytes
    → (more : List (List ℕ)) × (rest : List ℕ) × Splits (b ∷ bytes) more rest
split_byte b true is bytes lines open_bytes s =
    let e : 10 ≡ b = sym (eqb-true b 10 is) in
    ([] ∷ lines, open_bytes, subst (λ x. Splits (x ∷ bytes) ([] ∷ lines) open_bytes) e (split_feed bytes lines open_bytes s))
split_byte b false is bytes lines open_bytes s = split_other b bytes lines open_bytes (grind (arith, nat_tests)) s

-- any bytes are some lines and then bytes with no line feed
pub Splits-exist : (bytes : List ℕ) → (lines : List (List ℕ)) × (open_bytes : List ℕ) × Splits bytes lines open_bytes
Splits-exist [] = ([], [], record { whole = refl; each = All-nil IsLine; last = All-nil (λ b. b ≢ 10) })
Splits-exist (b ∷ bytes) =
    let (lines, open_bytes, s) = Splits-exist bytes in
    split_byte b (b == 10) refl bytes lines open_bytes s

-- no bytes came
pub Serves-none : (a : Option (List ℕ)) (s : State) → IsLine s.line → Serves a a [] s s
Serves-none a s h = record {
  lines = [];
  out = [];
  whole = append-nil s.line;
  each = All-nil IsLine;
  last = h;
  replied = (refl, refl);
  sent = rw append-nil (Sends-none a s.waiting);
}

-- bytes came, and then more
pub Serves-trans : {a b c : Option (List ℕ)} {x y : List ℕ} {s t u : State} → Serves a b x s t → Serves b c y t u → Serves a c (x ++ y) s u
Serves-trans {a} {b} {c} {x} {y} {s} {t} {u} h k = record {
  lines = h.lines ++ k.lines;
  out = h.out ++ k.out;
  whole = sym (append_assoc s.line x y) ∙ ap (λ l. l ++ y) h.whole ∙ append_assoc (flat_map ended h.lines) t.line y
      ∙ ap (λ l. flat_map ended h.lines ++ l) k.whole ∙ sym (append_assoc (flat_map ended h.lines) (flat_map ended k.lines) u.line)
      ∙ ap (λ l. l ++ u.line) (sym (flat_map-append ended h.lines k.lines));
  each = All-append IsLine h.lines k.lines h.each k.each;
  last = k.last;
  replied = RepliesInTurn-append s.content t.content u.content h.lines k.lines h.out k.out h.replied k.replied;
  sent = rw (← append_assoc) (Sends-trans k.out h.sent k.sent);
}

-- more bytes come, and the lines that they end have a reply, which waits
pub Serves-goes_on : {a b : Option (List ℕ)} {x : List ℕ} {s t : State} (y : List ℕ) → Serves a b x s t → (u : State) × Serves a b (x ++ y) s u
Serves-goes_on {a} {b} {x} {s} {t} y h =
    let (lines, rest, split) = Splits-exist (t.line ++ y) in
    let (out, content, replied) = RepliesInTurn-exist t.content lines in
    let u : State = record { line = rest; content = content; waiting = t.waiting ++ out } in (
      u,
      Serves-trans h (record {
        lines = lines;
        out = out;
        whole = split.whole;
        each = split.each;
        last = split.last;
        replied = replied;
        sent = Sends-none b (t.waiting ++ out);
      }),
    )
