-- Full rows that are cut in half.
use Rattle.std.proofs.Common.{◌≡◌, ℕ, ◌+◌, ◌-◌, ◌≤◌, List, [], ◌∷◌, ◌++◌, length, take, drop, sym, ap, subst, ◌∙◌, append_assoc, Option, Some, None, IsSome, false, true, refl, arith}
use Rattle.std.specs.Prelude.{IfSome}
use Rattle.std.proofs.lemmas.List.{length-append, length-take-le, length-drop, take-append-drop}
use Rattle.art_rows.specs.Numbers.{Numbered, leaf_in, Has, with_pair_after, with_pair, Lacks, AreDistinct}
use Rattle.art_rows.specs.Rows.{numbers, AreFilled, IsSpot, lengths}
use Rattle.art_rows.specs.RowRoom.{turns}
use Rattle.art_rows.specs.Filing.{Files}
use Rattle.art_rows.specs.declared.leaves.Leaf.{Leaf}
use Rattle.art_rows.specs.declared.row.Position.{Position}
use Rattle.art_rows.proofs.NumbersLemmas.{distinct_parts, leaf_in-split, with_pair-split, with_pair_after-split, AreDistinct-with_pair, AreDistinct-with_pair_after, numbers-with_pair, same_lacks, Lacks-from_leaf_in}
use Rattle.art_rows.proofs.RowsLemmas.{numbers-append, AreFilled-append, AreFilled-parts}
use Rattle.art_rows.proofs.RowChanges.{spot-lacks}
use Rattle.art_rows.proofs.Rooms.{lengths_at, parts, shown, spot_ids, spot_put}
use Rattle.art_rows.proofs.RowRoomLemmas.{turns_cut}

-- a full row was cut in half: the rows before it, its numbers, and the rows after it
pub record IsCut (rows now : List (Numbered (List ℕ))) (row new : ℕ) : Type 0 where
  pub before : List (Numbered (List ℕ))
  pub ids : List ℕ
  pub after : List (Numbered (List ℕ))
  pub was : rows ≡ before ++ (row, ids) ∷ after
  pub lacks : Lacks before row
  pub full : length ids ≡ 64
  pub cut : now ≡ with_pair_after (Some row) (new, drop 32 ids) (with_pair rows row (take 32 ids))

module _ {rows now : List (Numbered (List ℕ))} {row new : ℕ} (c : IsCut rows now row new) where
  pub low_len : length (take 32 c.ids) ≡ 32
  low_len = (let f = c.full in length-take-le 32 c.ids (omega arith))

  pub high_len : length (drop 32 c.ids) ≡ 32
  high_len = (let f = c.full in let l = length-drop 32 c.ids in omega arith)

  -- the rows with the two halves
  cut_is : now ≡ c.before ++ (row, take 32 c.ids) ∷ (new, drop 32 c.ids) ∷ c.after
  cut_is = c.cut ∙ ap (λ rs. with_pair_after (Some row) (new, drop 32 c.ids) (with_pair rs row (take 32 c.ids))) c.was ∙ ap (with_pair_after (Some row) (new, drop 32 c.ids)) (with_pair-split row c.ids c.after (take 32 c.ids) c.before c.lacks) ∙ with_pair_after-split row (take 32 c.ids) c.after (new, drop 32 c.ids) c.before c.lacks

  -- all numbers are in the same order
  pub cut_numbers : numbers now ≡ numbers rows
  cut_numbers =
      let halves : take 32 c.ids ++ (drop 32 c.ids ++ numbers c.after) ≡ c.ids ++ numbers c.after = sym (append_assoc (take 32 c.ids) (drop 32 c.ids) (numbers c.after)) ∙ ap (λ l. l ++ numbers c.after) (take-append-drop 32 c.ids) in
      ap numbers cut_is ∙ numbers-append c.before ((row, take 32 c.ids) ∷ (new, drop 32 c.ids) ∷ c.after) ∙ ap (λ l. numbers c.before ++ l) halves
      ∙ sym (ap numbers c.was ∙ numbers-append c.before ((row, c.ids) ∷ c.after))

  pub cut_filled : AreFilled rows → AreFilled now
  cut_filled f =
      let g = AreFilled-parts c.before ((row, c.ids) ∷ c.after) (subst AreFilled c.was f) in
      let l = low_len in
      let h = high_len in
      subst AreFilled (sym cut_is) (AreFilled-append c.before ((row, take 32 c.ids) ∷ (new, drop 32 c.ids) ∷ c.after) g.0 (omega arith, (omega arith, g.1.1)))

  pub cut_apart : leaf_in rows new ≡ None → AreDistinct rows → AreDistinct now
  cut_apart unused d =
      let lacking : Lacks (with_pair rows row (take 32 c.ids)) new = same_lacks rows (with_pair rows row (take 32 c.ids)) new (sym (numbers-with_pair rows row (take 32 c.ids))) (Lacks-from_leaf_in rows new unused) in
      subst AreDistinct (sym c.cut) (AreDistinct-with_pair_after (Some row) (new, drop 32 c.ids) (with_pair rows row (take 32 c.ids)) (AreDistinct-with_pair rows row (take 32 c.ids) d) lacking)

  -- no turn is lost if one spare row is used
  pub cut_turns : (spare : ℕ) → turns (lengths rows) (spare + 1) ≤ turns (lengths now) spare
  cut_turns spare =
      rw (ap lengths c.was ∙ lengths_at c.before c.after row c.ids, ap lengths cut_is ∙ lengths_at c.before ((new, drop 32 c.ids) ∷ c.after) row (take 32 c.ids), low_len, high_len)
      (turns_cut (lengths c.before) (lengths c.after) (length c.ids) spare c.full)

  -- the first row has the lower half
  pub cut_low : leaf_in now row ≡ Some (take 32 c.ids)
  cut_low = ap (λ rs. leaf_in rs row) cut_is ∙ leaf_in-split row (take 32 c.ids) ((new, drop 32 c.ids) ∷ c.after) c.before c.lacks

  two_is : now ≡ (c.before ++ (row, take 32 c.ids) ∷ []) ++ (new, drop 32 c.ids) ∷ c.after
  two_is = cut_is ∙ sym (append_assoc c.before ((row, take 32 c.ids) ∷ []) ((new, drop 32 c.ids) ∷ c.after))

  -- the new row has the upper half
  pub cut_high : AreDistinct now → leaf_in now new ≡ Some (drop 32 c.ids)
  cut_high d =
      let l = (distinct_parts (c.before ++ (row, take 32 c.ids) ∷ []) c.after (new, drop 32 c.ids) (subst AreDistinct two_is d)).0 in
      ap (λ rs. leaf_in rs new) two_is ∙ leaf_in-split new (drop 32 c.ids) c.after (c.before ++ (row, take 32 c.ids) ∷ []) l

  -- an index in the lower half is the same after the cut
  pub cut_below : (k index : ℕ) → k ≡ length (numbers c.before) + index → index ≤ 32 → IsSpot now (record { row = row; index = index }) k
  cut_below k index split within = record {
    before = c.before;
    ids = take 32 c.ids;
    after = (new, drop 32 c.ids) ∷ c.after;
    is = cut_is;
    index = split;
    within = (let l = low_len in omega arith);
  }

  -- an index in the upper half is 32 less in the new row
  pub cut_above : (k index : ℕ) → k ≡ length (numbers c.before) + index → 32 ≤ index → index ≤ length c.ids → IsSpot now (record { row = new; index = index - 32 }) k
  cut_above k index split least within =
      let n : length (numbers (c.before ++ (row, take 32 c.ids) ∷ [])) ≡ length (numbers c.before) + (length (take 32 c.ids) + 0) = ap length (numbers-append c.before ((row, take 32 c.ids) ∷ [])) ∙ length-append (numbers c.before) (take 32 c.ids ++ []) ∙ ap (λ m. length (numbers c.before) + m) (length-append (take 32 c.ids) []) in
      let f = c.full in
      let l = low_len in
      let h = high_len in
      record {
        before = c.before ++ (row, take 32 c.ids) ∷ [];
        ids = drop 32 c.ids;
        after = c.after;
        is = two_is;
        index = omega arith;
        within = omega arith;
      }

  -- a cut and a pair that is then put at a spot take at most one turn together
  pub cut_put : {p : Position} {k : ℕ} (s : IsSpot now p k) → AreDistinct now → (then : List (Numbered (List ℕ))) (n spare less : ℕ) → less + 1 ≡ spare → IfSome (leaf_in now p.row) (λ ids. then ≡ with_pair now p.row (take p.index ids ++ n ∷ drop p.index ids)) → turns (lengths rows) spare ≤ turns (lengths then) less + 1
  cut_put s d then n spare less e put =
      let t = rw e at (cut_turns less) in
      let u = spot_put s d then n less put in
      omega arith

-- the cut of a spot's row, which was full
abbrev pub cut_at : {rows : List (Numbered (List ℕ))} {p : Position} {k : ℕ} (s : IsSpot rows p k) → AreDistinct rows → IfSome (leaf_in rows p.row) (λ ids. length ids ≡ 64) → (new : ℕ) (now : List (Numbered (List ℕ))) → IfSome (leaf_in rows p.row) (λ ids. now ≡ with_pair_after (Some p.row) (new, drop 32 ids) (with_pair rows p.row (take 32 ids))) → IsCut rows now p.row new
cut_at {rows} {p} {k} s d full new now cut = record {
  before = s.before;
  ids = s.ids;
  after = s.after;
  was = s.is;
  lacks = (spot-lacks rows k p s d).0;
  full = spot_ids s d (λ ids. length ids ≡ 64) full;
  cut = spot_ids s d (λ ids. now ≡ with_pair_after (Some p.row) (new, drop 32 ids) (with_pair rows p.row (take 32 ids))) cut;
}

-- the records are filed in the rows after a row was cut
pub files_cut : {K V : Type 0} {leaves : ℕ → Option (Leaf K V)} {rows : List (Numbered (List ℕ))} {count : ℕ} {ps : List (Numbered (K × V))} → Files leaves rows count ps → (row new : ℕ) (ids : List ℕ) → leaf_in rows row ≡ Some ids → length ids ≡ 64 → leaf_in rows new ≡ None → (now : List (Numbered (List ℕ))) → now ≡ with_pair_after (Some row) (new, drop 32 ids) (with_pair rows row (take 32 ids)) → Files leaves now count ps
files_cut {rows = rows} f row new ids at full unused now cut =
    let x = parts rows row ids at in
    let c : IsCut rows now row new = record { before = x.before; ids = ids; after = x.after; was = shown rows row ids at; lacks = x.lacks; full = full; cut = cut } in
    record {
      distinct = f.distinct;
      each = f.each;
      joined = f.joined ∙ sym (cut_numbers c);
      filled = cut_filled c f.filled;
      apart = cut_apart c unused f.apart;
      counted = f.counted;
    }

-- the same, if the row is known to be there and to be full
pub cut_row : {K V : Type 0} {leaves : ℕ → Option (Leaf K V)} {rows : List (Numbered (List ℕ))} {count : ℕ} {ps : List (Numbered (K × V))} → Files leaves rows count ps → (row new : ℕ) → Has rows row → IfSome (leaf_in rows row) (λ ids. length ids ≡ 64) → leaf_in rows new ≡ None → (now : List (Numbered (List ℕ))) → IfSome (leaf_in rows row) (λ ids. now ≡ with_pair_after (Some row) (new, drop 32 ids) (with_pair rows row (take 32 ids))) → Files leaves now count ps
cut_row {K} {V} {leaves} {rows} {count} {ps} f row new has full unused now cut = go (leaf_in rows row) refl has full cut
  where
    go : (o : Option (List ℕ)) → leaf_in rows row ≡ o → IsSome o → IfSome o (λ ids. length ids ≡ 64) → IfSome o (λ ids. now ≡ with_pair_after (Some row) (new, drop 32 ids) (with_pair rows row (take 32 ids))) → Files leaves now count ps
    go None e h l q = absurd (let t : false ≡ true = h in cc)
    go (Some ids) e h l q = files_cut f row new ids e l unused now q
