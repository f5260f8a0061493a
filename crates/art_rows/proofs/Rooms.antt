-- The room of rows, and the spots in them.
use Rattle.std.proofs.Common.{◌≡◌, ◌≢◌, ℕ, suc, ◌+◌, ◌-◌, ◌<◌, ◌≤◌, List, [], ◌∷◌, ◌++◌, length, take, drop, refl, sym, ap, subst, ◌∙◌, append_assoc, Some, None, inl, inr, arith}
use Rattle.std.specs.Prelude.{IfSome}
use Rattle.std.proofs.lemmas.Bool.Decides.{eqb_tells}
use Rattle.std.proofs.lemmas.List.{length-append, length-take-le, length-drop, map-append}
use Rattle.art_rows.specs.Numbers.{Numbered, leaf_in, Has, number_after, with_pair_after, without_number, with_pair, Lacks, AreDistinct}
use Rattle.art_rows.specs.Rows.{numbers, position_at, AreFilled, IsSpot, row_end, lengths}
use Rattle.art_rows.specs.RowRoom.{StartsFull, turns, row_room, row_end_room}
use Rattle.art_rows.specs.declared.row.Position.{Position}
use Rattle.art_rows.proofs.NumbersLemmas.{no_first, eqb_same, eqb_other, distinct_parts, Split, split, leaf_in-split, number_after-split, with_pair-split, with_pair_after-split, without_number-split}
use Rattle.art_rows.proofs.RowsLemmas.{numbers-append, AreFilled-parts, standing, standing-lacks, standing-row}
use Rattle.art_rows.proofs.RowChanges.{spot-lacks, spot-row}
use Rattle.art_rows.proofs.RowRoomLemmas.{load_full, load_ended, load_front, room_spare, turns_begun, turns_put, room_taken, room_ended, row_end_room-last}

-- the lengths of the rows, split at one row
pub lengths_at : (xs ys : List (Numbered (List ℕ))) (r : ℕ) (ids : List ℕ) → lengths (xs ++ (r, ids) ∷ ys) ≡ lengths xs ++ length ids ∷ lengths ys
lengths_at xs ys r ids = map-append (λ (q : Numbered (List ℕ)). length q.1) xs ((r, ids) ∷ ys)

-- the lengths of the rows, split at two rows
lengths_two : (xs ys : List (Numbered (List ℕ))) (r s : ℕ) (ids more : List ℕ) → lengths (xs ++ (r, ids) ∷ (s, more) ∷ ys) ≡ (lengths xs ++ length ids ∷ []) ++ length more ∷ lengths ys
lengths_two xs ys r s ids more = lengths_at xs ((s, more) ∷ ys) r ids ∙ sym (append_assoc (lengths xs) (length ids ∷ []) (length more ∷ lengths ys))

-- ---- full rows

module _ (rows : List (Numbered (List ℕ))) (r : ℕ) (ids : List ℕ) (at : leaf_in rows r ≡ Some ids) where
  pub parts : Split rows r
  parts = split rows r (rw at refl)

  pub shown : rows ≡ parts.before ++ (r, ids) ∷ parts.after
  shown =
      let a : Some parts.pair ≡ Some ids = sym (leaf_in-split r parts.pair parts.after parts.before parts.lacks) ∙ sym (ap (λ rs. leaf_in rs r) parts.is) ∙ at in
      let b : parts.pair ≡ ids = cc in
      parts.is ∙ ap (λ l. parts.before ++ (r, l) ∷ parts.after) b

  shown_lengths : lengths rows ≡ lengths parts.before ++ length ids ∷ lengths parts.after
  shown_lengths = ap lengths shown ∙ lengths_at parts.before parts.after r ids

  module _ (full : length ids ≡ 64) where
    -- if there is room, and a row is full, there is a spare row
    spare_full : (spare : ℕ) → 0 < row_room (lengths rows) spare → 0 < spare
    spare_full spare h = room_spare (lengths rows) spare (rw shown_lengths (load_full (lengths parts.before) (lengths parts.after) (length ids) full)) h

    -- a new row of one number after the last row, if that is full, takes at most one turn
    pub end_turns : number_after rows r ≡ None → (new : List (Numbered (List ℕ))) (s n spare less : ℕ) → new ≡ with_pair_after (Some r) (s, n ∷ []) rows → less + 1 ≡ spare → turns (lengths rows) spare ≤ turns (lengths new) less + 1
    end_turns none new s n spare less e f =
        let last : parts.after ≡ [] = no_first parts.after (sym (ap (λ rs. number_after rs r) shown ∙ number_after-split r ids parts.after parts.before parts.lacks) ∙ none) in
        let was = shown_lengths ∙ ap (λ q. lengths parts.before ++ length ids ∷ lengths q) last in
        let is : new ≡ parts.before ++ (r, ids) ∷ (s, n ∷ []) ∷ [] = e ∙ ap (with_pair_after (Some r) (s, n ∷ [])) (shown ∙ ap (λ q. parts.before ++ (r, ids) ∷ q) last) ∙ with_pair_after-split r ids [] (s, n ∷ []) parts.before parts.lacks in
        rw (← f, was, ap lengths is ∙ lengths_at parts.before ((s, n ∷ []) ∷ []) r ids) (turns_begun (lengths parts.before ++ length ids ∷ []) (lengths parts.before ++ length ids ∷ 1 ∷ []) less (load_ended (lengths parts.before) (length ids) full))

-- ---- spots

-- the end of a row is the count of the numbers before the row plus the length of the row
pub row_end-split : (before after : List (Numbered (List ℕ))) (r : ℕ) (ids : List ℕ) → Lacks before r → row_end (Some r) (before ++ (r, ids) ∷ after) ≡ length (numbers before) + length ids
row_end-split [] after r ids l = rw (eqb_same r) (omega arith)
row_end-split (b ∷ before) after r ids l =
    let n = length-append b.1 (numbers before) in
    rw (eqb_other b.0 r l.0, row_end-split before after r ids l.1) (omega arith)

-- a new first row of one number takes at most one turn, if the first row was full or there was none
pub front_turns : (rows new : List (Numbered (List ℕ))) (r n spare less : ℕ) → StartsFull (lengths rows) → new ≡ with_pair_after None (r, n ∷ []) rows → less + 1 ≡ spare → turns (lengths rows) spare ≤ turns (lengths new) less + 1
front_turns rows new r n spare less s e f = rw (e, ← f) (turns_begun (lengths rows) (1 ∷ lengths rows) less (load_front (lengths rows) s))

module _ {rows : List (Numbered (List ℕ))} {k : ℕ} {p : Position} (s : IsSpot rows p k) (d : AreDistinct rows) where
  -- the row of a spot exists
  pub spot_has : Has rows p.row
  spot_has = rw (spot-row rows k p s d) refl

  -- what holds of the row's numbers holds of the numbers of the spot
  pub spot_ids : (P : List ℕ → Type 0) → IfSome (leaf_in rows p.row) P → P s.ids
  spot_ids P h = rw (spot-row rows k p s d) at h

  -- if the row is full, and there is room, there is a spare row
  pub spot_spare : length s.ids ≡ 64 → (spare : ℕ) → 0 < row_room (lengths rows) spare → 0 < spare
  spot_spare full = spare_full rows p.row s.ids (spot-row rows k p s d) full

  -- a number inserted in the row takes at most one turn
  pub spot_put : (new : List (Numbered (List ℕ))) (n spare : ℕ) → IfSome (leaf_in rows p.row) (λ ids. new ≡ with_pair rows p.row (take p.index ids ++ n ∷ drop p.index ids)) → turns (lengths rows) spare ≤ turns (lengths new) spare + 1
  spot_put new n spare put =
      let e = spot_ids (λ ids. new ≡ with_pair rows p.row (take p.index ids ++ n ∷ drop p.index ids)) put in
      let w = s.within in
      let more : List ℕ = take p.index s.ids ++ n ∷ drop p.index s.ids in
      let z : length more ≡ length (take p.index s.ids) + suc (length (drop p.index s.ids)) = length-append (take p.index s.ids) (n ∷ drop p.index s.ids) in
      let t : length (take p.index s.ids) ≡ p.index = length-take-le p.index s.ids w in
      let q : length (drop p.index s.ids) ≡ length s.ids - p.index = length-drop p.index s.ids in
      let is : new ≡ s.before ++ (p.row, more) ∷ s.after = e ∙ ap (λ rs. with_pair rs p.row more) s.is ∙ with_pair-split p.row s.ids s.after more s.before (spot-lacks rows k p s d).0 in
      let l : length more ≡ suc (length s.ids) = omega arith in
      rw (ap lengths s.is ∙ lengths_at s.before s.after p.row s.ids, ap lengths is ∙ lengths_at s.before s.after p.row more, l) (turns_put (lengths s.before) (lengths s.after) (length s.ids) spare)

  -- a spot at the end of its row is the end of the row
  pub spot_end : p.index ≡ length s.ids → k ≡ row_end (Some p.row) rows
  spot_end e = (let r = ap (row_end (Some p.row)) s.is ∙ row_end-split s.before s.after p.row s.ids (spot-lacks rows k p s d).0 in let i = s.index in omega arith)

  -- if the spot is before all numbers, and its row is full, the first row is full
  pub spot_front : k ≡ 0 → AreFilled rows → length s.ids ≡ 64 → StartsFull (lengths rows)
  spot_front z f full = rw s.is (at_front s.before s.is s.index)
    where
      at_front : (before : List (Numbered (List ℕ))) → rows ≡ before ++ (p.row, s.ids) ∷ s.after → k ≡ length (numbers before) + p.index → StartsFull (lengths (before ++ (p.row, s.ids) ∷ s.after))
      at_front [] is i = full
      at_front (b ∷ before) is i = absurd (let g : AreFilled (b ∷ (before ++ (p.row, s.ids) ∷ s.after)) = subst AreFilled is f in let h = g.0 in let l = length-append b.1 (numbers before) in omega arith)

-- the end of a row is the start of the next row
pub spot_next : (rows : List (Numbered (List ℕ))) → AreDistinct rows → (r k next : ℕ) → Has rows r → k ≡ row_end (Some r) rows → number_after rows r ≡ Some next → IsSpot rows (record { row = next; index = 0 }) k
spot_next rows d r k next has e after = go (split rows r has).after (split rows r has).is
  where
    c : Split rows r
    c = split rows r has

    go : (rest : List (Numbered (List ℕ))) → rows ≡ c.before ++ (r, c.pair) ∷ rest → IsSpot rows (record { row = next; index = 0 }) k
    go [] is = absurd (let a : None ≡ Some next = sym (ap (λ rs. number_after rs r) is ∙ number_after-split r c.pair [] c.before c.lacks) ∙ after in cc)
    go (q ∷ rest) is =
        let a : Some q.0 ≡ Some next = sym (ap (λ rs. number_after rs r) is ∙ number_after-split r c.pair (q ∷ rest) c.before c.lacks) ∙ after in
        let b : q.0 ≡ next = cc in
        let i = ap (row_end (Some r)) is ∙ row_end-split c.before (q ∷ rest) r c.pair c.lacks in
        let n = ap length (numbers-append c.before ((r, c.pair) ∷ [])) ∙ length-append (numbers c.before) (c.pair ++ []) in
        let m = length-append c.pair [] in
        record {
          before = c.before ++ (r, c.pair) ∷ [];
          ids = q.1;
          after = rest;
          is = is ∙ ap (λ z. c.before ++ (r, c.pair) ∷ (z, q.1) ∷ rest) b ∙ sym (append_assoc c.before ((r, c.pair) ∷ []) ((next, q.1) ∷ rest));
          index = omega arith;
          within = omega arith;
        }

-- the room, after a number was removed from its row
pub taken_room : (rows : List (Numbered (List ℕ))) (k : ℕ) (p : Position) → position_at rows k ≡ Some p → AreDistinct rows → (new : List (Numbered (List ℕ))) (spare more : ℕ) → IfSome (leaf_in rows p.row) (λ ids. length ids ≡ 1 → new ≡ without_number rows p.row) → IfSome (leaf_in rows p.row) (λ ids. length ids ≢ 1 → new ≡ with_pair rows p.row (take p.index ids ++ drop (p.index + 1) ids)) → IfSome (leaf_in rows p.row) (λ ids. length ids ≡ 1 → more ≡ spare + 1) → IfSome (leaf_in rows p.row) (λ ids. length ids ≢ 1 → more ≡ spare) → row_room (lengths rows) spare ≤ row_room (lengths new) more
taken_room rows k p at d new spare more one two gain keeps =
    let s = standing rows k p at in
    let l = (standing-lacks rows k p s d).0 in
    let r = standing-row rows k p s d in
    let w = s.within in
    let out : List ℕ = take p.index s.ids ++ drop (p.index + 1) s.ids in
    let a : length out ≡ length (take p.index s.ids) + length (drop (p.index + 1) s.ids) = length-append (take p.index s.ids) (drop (p.index + 1) s.ids) in
    let b : length (take p.index s.ids) ≡ p.index = length-take-le p.index s.ids (omega arith) in
    let c : length (drop (p.index + 1) s.ids) ≡ length s.ids - (p.index + 1) = length-drop (p.index + 1) s.ids in
    let z : length s.ids ≡ suc (length out) = omega arith in
    let was = ap lengths s.is ∙ lengths_at s.before s.after p.row s.ids in
    elim (eqb_tells (length s.ids) 1) [
      | inl t ↦
          let e : new ≡ s.before ++ s.after = (rw r at one) t.1 ∙ ap (λ rs. without_number rs p.row) s.is ∙ without_number-split p.row s.ids s.after s.before l in
          let m : more ≡ spare + 1 = (rw r at gain) t.1 in
          rw (was, t.1, ap lengths e ∙ map-append (λ (q : Numbered (List ℕ)). length q.1) s.before s.after, m) (room_ended (lengths s.before) (lengths s.after) spare)
      | inr t ↦
          let e : new ≡ s.before ++ (p.row, out) ∷ s.after = (rw r at two) t.1 ∙ ap (λ rs. with_pair rs p.row out) s.is ∙ with_pair-split p.row s.ids s.after out s.before l in
          let g = room_taken (lengths s.before) (lengths s.after) (length out) spare in
          let m : more ≡ spare = (rw r at keeps) t.1 in
          rw (was, z, ap lengths e ∙ lengths_at s.before s.after p.row out, m) g
    ]

-- ---- the end of the rows

-- if no row is empty, and there are no numbers, there are no rows
pub no_rows : (rows : List (Numbered (List ℕ))) → AreFilled rows → length (numbers rows) ≡ 0 → rows ≡ []
no_rows [] f e = refl
no_rows (r ∷ rows) f e = absurd (let n = length-append r.1 (numbers rows) in let w = f.0 in omega arith)

-- a position is at the end of the last row
pub record IsLast (rows : List (Numbered (List ℕ))) (p : Position) : Type 0 where
  pub before : List (Numbered (List ℕ))
  pub ids : List ℕ
  pub is : rows ≡ before ++ (p.row, ids) ∷ []
  pub len : length ids ≡ p.index + 1

-- the last position is at the end of the last row
pub is_last : (rows : List (Numbered (List ℕ))) → AreFilled rows → (k : ℕ) (p : Position) → position_at rows k ≡ Some p → k ≡ length (numbers rows) - 1 → IsLast rows p
is_last rows f k p at e =
    let s = standing rows k p at in
    let n : length (numbers rows) ≡ length (numbers s.before) + (length s.ids + length (numbers s.after)) = ap (λ rs. length (numbers rs)) s.is ∙ ap length (numbers-append s.before ((p.row, s.ids) ∷ s.after)) ∙ length-append (numbers s.before) (s.ids ++ numbers s.after) ∙ ap (λ m. length (numbers s.before) + m) (length-append s.ids (numbers s.after)) in
    let g = (AreFilled-parts s.before ((p.row, s.ids) ∷ s.after) (subst AreFilled s.is f)).1 in
    let i = s.index in
    let w = s.within in
    let none : s.after ≡ [] = no_rows s.after g.1 (omega arith) in
    record { before = s.before; ids = s.ids; is = s.is ∙ ap (λ l. s.before ++ (p.row, s.ids) ∷ l) none; len = omega arith }

module _ {rows : List (Numbered (List ℕ))} {p : Position} (l : IsLast rows p) (d : AreDistinct rows) where
  last_lacks : Lacks l.before p.row
  last_lacks = (distinct_parts l.before [] (p.row, l.ids) (subst AreDistinct l.is d)).0

  -- the last row has these numbers
  pub last_row : leaf_in rows p.row ≡ Some l.ids
  last_row = ap (λ rs. leaf_in rs p.row) l.is ∙ leaf_in-split p.row l.ids [] l.before last_lacks

  -- the index after the last number is the end of the last row
  pub last_end : (k : ℕ) → k ≡ length (numbers rows) - 1 → k + 1 ≡ row_end (Some p.row) rows
  last_end k e =
      let r = ap (row_end (Some p.row)) l.is ∙ row_end-split l.before [] p.row l.ids last_lacks in
      let n : length (numbers rows) ≡ length (numbers l.before) + (length l.ids + 0) = ap (λ rs. length (numbers rs)) l.is ∙ ap length (numbers-append l.before ((p.row, l.ids) ∷ [])) ∙ length-append (numbers l.before) (l.ids ++ []) ∙ ap (λ m. length (numbers l.before) + m) (length-append l.ids []) in
      let i = l.len in
      omega arith

  -- the last row has room for 64 numbers less its length
  pub last_room : row_end_room (lengths rows) ≡ 64 - (p.index + 1)
  last_room = ap row_end_room (ap lengths l.is ∙ lengths_at l.before [] p.row l.ids) ∙ row_end_room-last (lengths l.before) (length l.ids) ∙ ap (λ n. 64 - n) l.len

  -- with one more number at its end it has room for one number less
  pub last_put : (new : List (Numbered (List ℕ))) (n : ℕ) → IfSome (leaf_in rows p.row) (λ ids. new ≡ with_pair rows p.row (take (p.index + 1) ids ++ n ∷ drop (p.index + 1) ids)) → row_end_room (lengths new) ≡ 64 - (p.index + 2)
  last_put new n put =
      let more : List ℕ = take (p.index + 1) l.ids ++ n ∷ drop (p.index + 1) l.ids in
      let e : new ≡ with_pair rows p.row more = rw last_row at put in
      let is : new ≡ l.before ++ (p.row, more) ∷ [] = e ∙ ap (λ rs. with_pair rs p.row more) l.is ∙ with_pair-split p.row l.ids [] more l.before last_lacks in
      let i = l.len in
      let z = length-append (take (p.index + 1) l.ids) (n ∷ drop (p.index + 1) l.ids) in
      let t = length-take-le (p.index + 1) l.ids (omega arith) in
      let q = length-drop (p.index + 1) l.ids in
      let m : length more ≡ p.index + 2 = omega arith in
      ap row_end_room (ap lengths is ∙ lengths_at l.before [] p.row more) ∙ row_end_room-last (lengths l.before) (length more) ∙ ap (λ n. 64 - n) m

  -- with a row of one number after it there is room for 63 numbers
  pub last_begun : (new : List (Numbered (List ℕ))) (r n : ℕ) → new ≡ with_pair_after (Some p.row) (r, n ∷ []) rows → row_end_room (lengths new) ≡ 63
  last_begun new r n e =
      let is : new ≡ l.before ++ (p.row, l.ids) ∷ (r, n ∷ []) ∷ [] = e ∙ ap (with_pair_after (Some p.row) (r, n ∷ [])) l.is ∙ with_pair_after-split p.row l.ids [] (r, n ∷ []) l.before last_lacks in
      ap row_end_room (ap lengths is ∙ lengths_two l.before [] p.row r l.ids (n ∷ [])) ∙ row_end_room-last (lengths l.before ++ length l.ids ∷ []) 1
