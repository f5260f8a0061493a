-- How a change of one row changes the rows.
use Rattle.std.proofs.Common.{◌≡◌, ◌≢◌, ℕ, zero, suc, ◌+◌, ◌-◌, ◌<◌, ◌≤◌, List, [], ◌∷◌, ◌++◌, length, map, take, drop, refl, sym, ap, subst, ◌∙◌, append_assoc, Option, Some, None, true, false, inl, inr, arith}
use Rattle.std.specs.Prelude.{IfSome, IfNone}
use Rattle.std.proofs.lemmas.Bool.Decides.{eqb_tells}
use Rattle.std.proofs.lemmas.List.{length-append, take-append-le, drop-append-le, length-take-le, length-drop, nil_from_length}
use Rattle.std.proofs.Math.Seq.{take-append-add, drop-append-add}
use Rattle.art_rows.specs.Numbers.{Numbered, leaf_in, Has, with_pair_after, without_number, with_pair, Lacks, AreDistinct}
use Rattle.art_rows.specs.Rows.{index_in, numbers, position_at, AreFilled, IsSpot, row_end}
use Rattle.art_rows.specs.declared.row.Position.{Position}
use Rattle.art_rows.proofs.NumbersLemmas.{Has-tail, with_pair-split, without_number-split, same_distinct, numbers-with_pair, AreDistinct-without_number, distinct_parts, leaf_in-split, AreDistinct-with_pair_after, Lacks-from_leaf_in}
use Rattle.art_rows.proofs.RowsLemmas.{numbers-append, AreFilled-parts, AreFilled-append, Standing, standing, position-first, standing-numbers, standing-lacks}

-- three lists, cut after the first j items of the second
module _ {X : Type 0} (xs ys zs : List X) (j : ℕ) (le : j ≤ length ys) where
  pub take-middle : take (length xs + j) (xs ++ (ys ++ zs)) ≡ xs ++ take j ys
  take-middle = take-append-add xs (ys ++ zs) j ∙ ap (λ l. xs ++ l) (take-append-le j ys zs le)

  pub drop-middle : drop (length xs + j) (xs ++ (ys ++ zs)) ≡ drop j ys ++ zs
  drop-middle = drop-append-add xs (ys ++ zs) j ∙ drop-append-le j ys zs le

module _ {X : Type 0} where
  -- the numbers, without the number at its index
  pub numbers-without : (ps : List (Numbered X)) (i : ℕ) → Has ps i → map (λ p. p.0) (without_number ps i) ≡ take (index_in (map (λ p. p.0) ps) i) (map (λ p. p.0) ps) ++ drop (index_in (map (λ p. p.0) ps) i + 1) (map (λ p. p.0) ps)
  numbers-without [] i h = absurd (let f : false ≡ true = h in cc)
  numbers-without (p ∷ ps) i h = elim (eqb_tells p.0 i) [
    | inl t ↦ rw t.0 refl
    | inr t ↦
        rw t.0
        (ap (λ l. p.0 ∷ l) (numbers-without ps i (Has-tail p ps i t.1 h)) ∙ step p.0 (map (λ p. p.0) ps) (index_in (map (λ p. p.0) ps) i))
  ]
    where
      step : (m : ℕ) (ns : List ℕ) (k : ℕ) → m ∷ (take k ns ++ drop (k + 1) ns) ≡ m ∷ take k ns ++ drop (suc k + 1) (m ∷ ns)
      step m ns k = (let e : suc k + 1 ≡ suc (k + 1) = omega arith in rw e refl)

-- the rows without one number
pub record TakesOut (rows new : List (Numbered (List ℕ))) (k : ℕ) : Type 0 where
  pub joined : numbers new ≡ take k (numbers rows) ++ drop (k + 1) (numbers rows)
  pub filled : AreFilled new
  pub apart : AreDistinct new

module _ (rows : List (Numbered (List ℕ))) (k : ℕ) (p : Position) (s : Standing rows k p) (d : AreDistinct rows) (f : AreFilled rows) where
  parts : AreFilled s.before × AreFilled ((p.row, s.ids) ∷ s.after)
  parts = AreFilled-parts s.before ((p.row, s.ids) ∷ s.after) (subst AreFilled s.is f)

  -- the numbers without it
  less : take k (numbers rows) ++ drop (k + 1) (numbers rows) ≡ numbers s.before ++ ((take p.index s.ids ++ drop (p.index + 1) s.ids) ++ numbers s.after)
  less =
      let w = s.within in
      let e : length (numbers s.before) + p.index + 1 ≡ length (numbers s.before) + (p.index + 1) = omega arith in
      rw (standing-numbers rows k p s, s.index, e, take-middle (numbers s.before) s.ids (numbers s.after) p.index (omega arith), drop-middle (numbers s.before) s.ids (numbers s.after) (p.index + 1) (omega arith)) (simp append_assoc)

  -- the rows without one number, if other numbers are left in its row
  pub takes_more : length s.ids ≢ 1 → (new : List (Numbered (List ℕ))) → new ≡ with_pair rows p.row (take p.index s.ids ++ drop (p.index + 1) s.ids) → TakesOut rows new k
  takes_more ne new e =
      let out : List ℕ = take p.index s.ids ++ drop (p.index + 1) s.ids in
      let w = s.within in
      let is : new ≡ s.before ++ (p.row, out) ∷ s.after = e ∙ ap (λ rs. with_pair rs p.row out) s.is ∙ with_pair-split p.row s.ids s.after out s.before (standing-lacks rows k p s d).0 in
      let a : length out ≡ length (take p.index s.ids) + length (drop (p.index + 1) s.ids) = length-append (take p.index s.ids) (drop (p.index + 1) s.ids) in
      let b : length (take p.index s.ids) ≡ p.index = length-take-le p.index s.ids (omega arith) in
      let c : length (drop (p.index + 1) s.ids) ≡ length s.ids - (p.index + 1) = length-drop (p.index + 1) s.ids in
      let z : 0 < length out = two (length s.ids) p.index (length out) ne w (omega arith) in
      rw is (record {
        joined = numbers-append s.before ((p.row, out) ∷ s.after) ∙ sym less;
        filled = AreFilled-append s.before ((p.row, out) ∷ s.after) parts.0 (z, parts.1.1);
        apart = rw (← is, e) (same_distinct rows (with_pair rows p.row out) (sym (numbers-with_pair rows p.row out)) d);
      })
    where
      two : (l j o : ℕ) → l ≢ 1 → j < l → o ≡ j + (l - (j + 1)) → 0 < o
      two zero j o ne lt e = absurd (omega arith)
      two (suc zero) j o ne lt e = absurd (ne refl)
      two (suc (suc l)) j o ne lt e = omega arith

  -- the rows without one number, if it was the only number in its row
  pub takes_one : length s.ids ≡ 1 → (new : List (Numbered (List ℕ))) → new ≡ without_number rows p.row → TakesOut rows new k
  takes_one one new e =
      let out : List ℕ = take p.index s.ids ++ drop (p.index + 1) s.ids in
      let w = s.within in
      let is : new ≡ s.before ++ s.after = e ∙ ap (λ rs. without_number rs p.row) s.is ∙ without_number-split p.row s.ids s.after s.before (standing-lacks rows k p s d).0 in
      let a : length out ≡ length (take p.index s.ids) + length (drop (p.index + 1) s.ids) = length-append (take p.index s.ids) (drop (p.index + 1) s.ids) in
      let b : length (take p.index s.ids) ≡ p.index = length-take-le p.index s.ids (omega arith) in
      let c : length (drop (p.index + 1) s.ids) ≡ length s.ids - (p.index + 1) = length-drop (p.index + 1) s.ids in
      let z : out ≡ [] = nil_from_length out (omega arith) in
      rw is (record {
        joined = numbers-append s.before s.after ∙ ap (λ l. numbers s.before ++ (l ++ numbers s.after)) (sym z) ∙ sym less;
        filled = AreFilled-append s.before s.after parts.0 parts.1.1;
        apart = rw (← is, e) (AreDistinct-without_number rows p.row d);
      })

-- ---- one more number

-- the rows with one more number, in a row
pub record PutsIn (rows new : List (Numbered (List ℕ))) (k n : ℕ) : Type 0 where
  pub joined : numbers new ≡ take k (numbers rows) ++ n ∷ drop k (numbers rows)
  pub filled : AreFilled new
  pub apart : AreDistinct new

module _ (rows : List (Numbered (List ℕ))) (k : ℕ) (p : Position) (s : IsSpot rows p k) (d : AreDistinct rows) where
  pub spot-lacks : Lacks s.before p.row × Lacks s.after p.row
  spot-lacks = distinct_parts s.before s.after (p.row, s.ids) (subst AreDistinct s.is d)

  pub spot-row : leaf_in rows p.row ≡ Some s.ids
  spot-row = ap (λ rs. leaf_in rs p.row) s.is ∙ leaf_in-split p.row s.ids s.after s.before spot-lacks.0

  pub spot-numbers : numbers rows ≡ numbers s.before ++ (s.ids ++ numbers s.after)
  spot-numbers = ap numbers s.is ∙ numbers-append s.before ((p.row, s.ids) ∷ s.after)

  module _ (f : AreFilled rows) (n : ℕ) where
    -- the rows with the number in the row
    pub puts_in : (new : List (Numbered (List ℕ))) → new ≡ with_pair rows p.row (take p.index s.ids ++ n ∷ drop p.index s.ids) → PutsIn rows new k n
    puts_in new e =
        let more : List ℕ = take p.index s.ids ++ n ∷ drop p.index s.ids in
        let w = s.within in
        let is : new ≡ s.before ++ (p.row, more) ∷ s.after = e ∙ ap (λ rs. with_pair rs p.row more) s.is ∙ with_pair-split p.row s.ids s.after more s.before spot-lacks.0 in
        let g = AreFilled-parts s.before ((p.row, s.ids) ∷ s.after) (subst AreFilled s.is f) in
        let z : length more ≡ length (take p.index s.ids) + suc (length (drop p.index s.ids)) = length-append (take p.index s.ids) (n ∷ drop p.index s.ids) in
        rw is (record {
          joined =
              numbers-append s.before ((p.row, more) ∷ s.after) ∙ sym (rw (spot-numbers, s.index, take-middle (numbers s.before) s.ids (numbers s.after) p.index w, drop-middle (numbers s.before) s.ids (numbers s.after) p.index w) (simp append_assoc));
          filled = AreFilled-append s.before ((p.row, more) ∷ s.after) g.0 (omega arith, g.1.1);
          apart = rw (← is, e) (same_distinct rows (with_pair rows p.row more) (sym (numbers-with_pair rows p.row more)) d);
        })

module _ (r n : ℕ) where
  -- the numbers, after a row of one number was placed
  numbers-placed_row : (b : Option ℕ) (rows : List (Numbered (List ℕ))) → IfSome b (Has rows) → numbers (with_pair_after b (r, n ∷ []) rows) ≡ take (row_end b rows) (numbers rows) ++ n ∷ drop (row_end b rows) (numbers rows)
  numbers-placed_row None rows h = refl
  numbers-placed_row (Some i) [] h = absurd (let f : false ≡ true = h in cc)
  numbers-placed_row (Some i) (q ∷ qs) h = elim (eqb_tells q.0 i) [
    | inl t ↦
        rw (t.0, take-append-add q.1 (numbers qs) 0, drop-append-add q.1 (numbers qs) 0) (simp append_assoc)
    | inr t ↦
        rw (t.0, take-append-add q.1 (numbers qs) (row_end (Some i) qs), drop-append-add q.1 (numbers qs) (row_end (Some i) qs))
        (ap (λ l. q.1 ++ l) (numbers-placed_row (Some i) qs (Has-tail q qs i t.1 h)) ∙ sym (append_assoc q.1 (take (row_end (Some i) qs) (numbers qs)) (n ∷ drop (row_end (Some i) qs) (numbers qs))))
  ]

  filled-placed_row : (b : Option ℕ) (rows : List (Numbered (List ℕ))) → AreFilled rows → AreFilled (with_pair_after b (r, n ∷ []) rows)
  filled-placed_row None rows f = (omega arith, f)
  filled-placed_row (Some i) [] f = tt
  filled-placed_row (Some i) (q ∷ qs) f = elim (eqb_tells q.0 i) [
    | inl t ↦ rw t.0 (f.0, (omega arith, f.1))
    | inr t ↦ rw t.0 (f.0, filled-placed_row (Some i) qs f.1)
  ]

  -- the rows with the number in a new row
  pub puts_row : (b : Option ℕ) (rows new : List (Numbered (List ℕ))) → AreDistinct rows → AreFilled rows → IfSome b (Has rows) → leaf_in rows r ≡ None → new ≡ with_pair_after b (r, n ∷ []) rows → PutsIn rows new (row_end b rows) n
  puts_row b rows new d f h fresh e =
      rw e (record {
        joined = numbers-placed_row b rows h;
        filled = filled-placed_row b rows f;
        apart = AreDistinct-with_pair_after b (r, n ∷ []) rows d (Lacks-from_leaf_in rows r fresh);
      })

-- ---- spots

-- the first position is a spot
pub spot_first : (rows : List (Numbered (List ℕ))) (o : Option Position) → o ≡ position_at rows 0 → IfSome o (λ p. IsSpot rows p 0)
spot_first rows None e = tt
spot_first rows (Some p) e = (let s = standing rows 0 p (sym e) in record { before = s.before; ids = s.ids; after = s.after; is = s.is; index = s.index; within = let w = s.within in omega arith })

-- if there is no first position, there is no row
pub first_none : (rows : List (Numbered (List ℕ))) → AreFilled rows → (o : Option Position) → o ≡ position_at rows 0 → IfNone o (rows ≡ [])
first_none [] f None e = refl
first_none (r ∷ rs) f None e = (let g = e ∙ position-first (r ∷ rs) f in absurd cc)
first_none rows f (Some p) e = tt

-- after a position there is a spot
pub spot_after : (rows : List (Numbered (List ℕ))) (k : ℕ) (p : Position) → position_at rows k ≡ Some p → IsSpot rows (record { row = p.row; index = p.index + 1 }) (k + 1)
spot_after rows k p e = (let s = standing rows k p e in record { before = s.before; ids = s.ids; after = s.after; is = s.is; index = let i = s.index in omega arith; within = let w = s.within in omega arith })
