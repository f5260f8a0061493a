-- What holds of rows of numbers.
use Rattle.std.proofs.Common.{◌≡◌, ℕ, zero, suc, ◌+◌, ◌-◌, ◌<◌, ◌≤◌, List, [], ◌∷◌, ◌++◌, length, map, refl, sym, ap, subst, ◌∙◌, append_assoc, Option, Some, None, IsSome, true, false, cond, eqb, ltb, inl, inr, ◌⊎◌, arith}
use Rattle.std.proofs.lemmas.Bool.{cases_Bool}
use Rattle.std.specs.Prelude.{option_map}
use Rattle.std.specs.Option.{option_or}
use Rattle.std.proofs.lemmas.Bool.Decides.{eqb_tells, nat_tests}
use Rattle.std.proofs.lemmas.List.{length-append}
use Rattle.art_rows.specs.Numbers.{Numbered, leaf_in, Has, first_number, last_number, number_after, number_before, number_before_from, Lacks, AreDistinct}
use Rattle.art_rows.specs.Rows.{among, index_in, nth, numbers, row_with, position_at, AreFilled, start_of}
use Rattle.art_rows.specs.declared.row.Position.{Position}
use Rattle.art_rows.proofs.NumbersLemmas.{eqb_same, eqb_other, has_other, Has-last, leaf_in-append, AreDistinct-parts, distinct_parts, leaf_in-split, number_after-split, number_before-split, no_last}

-- ---- lists of numbers

pub among-append : (xs ys : List ℕ) (i : ℕ) → among (xs ++ ys) i ≡ cond (among xs i) true (among ys i)
among-append [] ys i = refl
among-append (x ∷ xs) ys i = elim (eqb_tells x i) [ inl t ↦ rw t.0 refl | inr t ↦ rw t.0 (among-append xs ys i) ]

pub index_in-append_in : (xs ys : List ℕ) (i : ℕ) → among xs i ≡ true → index_in (xs ++ ys) i ≡ index_in xs i
index_in-append_in [] ys i h = (let f : false ≡ true = h in absurd cc)
index_in-append_in (x ∷ xs) ys i h = elim (eqb_tells x i) [ inl t ↦ rw t.0 refl | inr t ↦ rw t.0 (ap suc (index_in-append_in xs ys i (rw t.0 at h))) ]

pub index_in-append_out : (xs ys : List ℕ) (i : ℕ) → among xs i ≡ false → index_in (xs ++ ys) i ≡ length xs + index_in ys i
index_in-append_out [] ys i h = omega arith
index_in-append_out (x ∷ xs) ys i h = elim (eqb_tells x i) [
  | inl t ↦ (let f : true ≡ false = rw t.0 at h in absurd cc)
  | inr t ↦ rw t.0 (let r = index_in-append_out xs ys i (rw t.0 at h) in omega arith)
]

pub index_in-within : (xs : List ℕ) (i : ℕ) → among xs i ≡ true → index_in xs i < length xs
index_in-within [] i h = (let f : false ≡ true = h in absurd cc)
index_in-within (x ∷ xs) i h = elim (eqb_tells x i) [
  | inl t ↦ rw t.0 (omega arith)
  | inr t ↦ rw t.0 (let r = index_in-within xs i (rw t.0 at h) in omega arith)
]

pub nth-index : (xs : List ℕ) (i : ℕ) → among xs i ≡ true → nth xs (index_in xs i) ≡ Some i
nth-index [] i h = (let f : false ≡ true = h in absurd cc)
nth-index (x ∷ xs) i h = elim (eqb_tells x i) [
  | inl t ↦ rw t.0 (ap Some t.1)
  | inr t ↦ rw t.0 (nth-index xs i (rw t.0 at h))
]

pub nth-append_left : {X : Type 0} (xs ys : List X) (k : ℕ) → k < length xs → nth (xs ++ ys) k ≡ nth xs k
nth-append_left [] ys k h = absurd (omega arith)
nth-append_left (x ∷ xs) ys zero h = refl
nth-append_left (x ∷ xs) ys (suc k) h = nth-append_left xs ys k (omega arith)

pub nth-append_right : {X : Type 0} (xs ys : List X) (k : ℕ) → nth (xs ++ ys) (length xs + k) ≡ nth ys k
nth-append_right [] ys k = (let e : 0 + k ≡ k = omega arith in ap (nth ys) e)
nth-append_right (x ∷ xs) ys k = (let e : suc (length xs) + k ≡ suc (length xs + k) = omega arith in ap (nth (x ∷ (xs ++ ys))) e ∙ nth-append_right xs ys k)

pub nth-within : {X : Type 0} (xs : List X) (k : ℕ) (n : X) → nth xs k ≡ Some n → k < length xs
nth-within [] k n h = absurd cc
nth-within (x ∷ xs) zero n h = omega arith
nth-within (x ∷ xs) (suc k) n h = omega (arith, nth-within xs k n h)

-- a number at an index is in the list
pub among-nth : (ns : List ℕ) (k n : ℕ) → nth ns k ≡ Some n → among ns n ≡ true
among-nth [] k n e = absurd cc
among-nth (m ∷ ns) zero n e = (let f : m ≡ n = cc in rw (f, eqb_same n) refl)
among-nth (m ∷ ns) (suc k) n e = elim (eqb_tells m n) [ inl t ↦ rw t.0 refl | inr t ↦ rw t.0 (among-nth ns k n e) ]

-- the numbers of pairs
module _ {X : Type 0} where
  pub among-numbers : (ps : List (Numbered X)) (i : ℕ) → Has ps i → among (map (λ p. p.0) ps) i ≡ true
  among-numbers [] i h = h
  among-numbers (p ∷ ps) i h = elim (eqb_tells p.0 i) [ inl t ↦ rw t.0 refl | inr t ↦ rw t.0 (among-numbers ps i (rw t.0 at h)) ]

  pub Has-among : (ps : List (Numbered X)) (i : ℕ) → among (map (λ p. p.0) ps) i ≡ true → Has ps i
  Has-among [] i h = h
  Has-among (p ∷ ps) i h = elim (eqb_tells p.0 i) [ inl t ↦ rw t.0 refl | inr t ↦ rw t.0 (Has-among ps i (rw t.0 at h)) ]

  -- the index of the number at an index is that index
  pub index_in-nth : (ps : List (Numbered X)) (k n : ℕ) → AreDistinct ps → nth (map (λ p. p.0) ps) k ≡ Some n → index_in (map (λ p. p.0) ps) n ≡ k
  index_in-nth [] k n d e = absurd cc
  index_in-nth (p ∷ ps) zero n d e = (let f : p.0 ≡ n = cc in rw (f, eqb_same n) refl)
  index_in-nth (p ∷ ps) (suc k) n d e =
      let h : Has ps n = Has-among ps n (among-nth (map (λ p. p.0) ps) k n e) in
      let m : eqb p.0 n ≡ false = eqb_other p.0 n (λ t. has_other ps n p.0 h d.0 (sym t)) in
      rw m (ap suc (index_in-nth ps k n d.1 e))

  -- the first number is the number at index 0
  pub first_number-nth : (ps : List (Numbered X)) → first_number ps ≡ nth (map (λ p. p.0) ps) 0
  first_number-nth [] = refl
  first_number-nth (p ∷ ps) = refl

  -- the number after a number is the number at the next index
  pub number_after-nth : (ps : List (Numbered X)) (i : ℕ) → Has ps i → number_after ps i ≡ nth (map (λ p. p.0) ps) (index_in (map (λ p. p.0) ps) i + 1)
  number_after-nth [] i h = (let f : false ≡ true = h in absurd cc)
  number_after-nth (p ∷ ps) i h = elim (eqb_tells p.0 i) [
    | inl t ↦ rw t.0 (first_number-nth ps)
    | inr t ↦ rw t.0 (number_after-nth ps i (rw t.0 at h) ∙ step (p.0) (map (λ p. p.0) ps) (index_in (map (λ p. p.0) ps) i))
  ]
    where
      step : (n : ℕ) (ns : List ℕ) (k : ℕ) → nth ns (k + 1) ≡ nth (n ∷ ns) (suc k + 1)
      step n ns k = (let e : suc k + 1 ≡ suc (k + 1) = omega arith in sym (ap (nth (n ∷ ns)) e))

  -- the number before a number, from the start `a` on, by its index
  number_before_from-nth : (a : ℕ) (ps : List (Numbered X)) (i : ℕ) → Has ps i → number_before_from (Some a) ps i ≡ nth (a ∷ map (λ p. p.0) ps) (index_in (map (λ p. p.0) ps) i)
  number_before_from-nth a [] i h = (let f : false ≡ true = h in absurd cc)
  number_before_from-nth a (p ∷ ps) i h = elim (eqb_tells p.0 i) [
    | inl t ↦ rw t.0 refl
    | inr t ↦ rw t.0 (number_before_from-nth p.0 ps i (rw t.0 at h))
  ]

  -- the number before a number is the number at the index before
  pub number_before-nth : (b : Option ℕ) (ps : List (Numbered X)) (i k : ℕ) → Has ps i → index_in (map (λ p. p.0) ps) i ≡ suc k → number_before_from b ps i ≡ nth (map (λ p. p.0) ps) k
  number_before-nth b [] i k h e = (let f : false ≡ true = h in absurd cc)
  number_before-nth b (p ∷ ps) i k h e = elim (eqb_tells p.0 i) [
    | inl t ↦ (let f : 0 ≡ suc k = rw t.0 at e in absurd (omega arith))
    | inr t ↦
        let f : suc (index_in (map (λ p. p.0) ps) i) ≡ suc k = rw t.0 at e in
        let g : index_in (map (λ p. p.0) ps) i ≡ k = omega arith in
        rw t.0 (number_before_from-nth p.0 ps i (rw t.0 at h) ∙ ap (nth (p.0 ∷ map (λ p. p.0) ps)) g)
  ]

  -- the number before the first number is the start
  pub number_before-first : (b : Option ℕ) (ps : List (Numbered X)) (i : ℕ) → Has ps i → index_in (map (λ p. p.0) ps) i ≡ 0 → number_before_from b ps i ≡ b
  number_before-first b [] i h e = (let f : false ≡ true = h in absurd cc)
  number_before-first b (p ∷ ps) i h e = elim (eqb_tells p.0 i) [
    | inl t ↦ rw t.0 refl
    | inr t ↦ (let f : suc (index_in (map (λ p. p.0) ps) i) ≡ 0 = rw t.0 at e in absurd (omega arith))
  ]

  -- the last number is the number at the last index
  pub last_number-nth : (ps : List (Numbered X)) → last_number ps ≡ nth (map (λ p. p.0) ps) (length ps - 1)
  last_number-nth [] = refl
  last_number-nth (p ∷ []) = refl
  last_number-nth (p ∷ q ∷ ps) =
      let e : suc (suc (length ps)) - 1 ≡ suc (suc (length ps) - 1) = omega arith in
      last_number-nth (q ∷ ps) ∙ sym (ap (nth (p.0 ∷ q.0 ∷ map (λ p. p.0) ps)) e)

-- ---- rows

pub numbers-append : (xs ys : List (Numbered (List ℕ))) → numbers (xs ++ ys) ≡ numbers xs ++ numbers ys
numbers-append [] ys = refl
numbers-append (x ∷ xs) ys = ap (λ l. x.1 ++ l) (numbers-append xs ys) ∙ sym (append_assoc x.1 (numbers xs) (numbers ys))

pub AreFilled-append : (xs ys : List (Numbered (List ℕ))) → AreFilled xs → AreFilled ys → AreFilled (xs ++ ys)
AreFilled-append [] ys f g = g
AreFilled-append (x ∷ xs) ys f g = (f.0, AreFilled-append xs ys f.1 g)

pub AreFilled-parts : (xs ys : List (Numbered (List ℕ))) → AreFilled (xs ++ ys) → AreFilled xs × AreFilled ys
AreFilled-parts [] ys f = (tt, f)
AreFilled-parts (x ∷ xs) ys f = let r = AreFilled-parts xs ys f.1 in ((f.0, r.0), r.1)

-- the row and the index of a number
pub record Found (rows : List (Numbered (List ℕ))) (i : ℕ) : Type 0 where
  pub ids : List ℕ
  pub row : leaf_in rows (row_with rows i) ≡ Some ids
  pub inside : among ids i ≡ true
  pub position : position_at rows (index_in (numbers rows) i) ≡ Some (record { row = row_with rows i; index = index_in ids i })

-- a number is found if the first row has it
found_here : (r : Numbered (List ℕ)) (rs : List (Numbered (List ℕ))) (i : ℕ) → among r.1 i ≡ true → Found (r ∷ rs) i
found_here r rs i t =
    let w : index_in r.1 i < length r.1 = index_in-within r.1 i t in
    let l : ltb (index_in r.1 i) (length r.1) ≡ true = grind (arith, nat_tests) in
    record {
      ids = r.1;
      row = rw (t, eqb_same r.0) refl;
      inside = t;
      position = rw (t, index_in-append_in r.1 (numbers rs) i t, l) refl;
    }

-- a number is found if a later row has it
found_later : (r : Numbered (List ℕ)) (rs : List (Numbered (List ℕ))) (i : ℕ) → Lacks rs r.0 → among r.1 i ≡ false → Found rs i → Found (r ∷ rs) i
found_later r rs i d t s =
    let n : eqb r.0 (row_with rs i) ≡ false = eqb_other r.0 (row_with rs i) (λ e. has_other rs (row_with rs i) r.0 (rw s.row refl) d (sym e)) in
    let l : ltb (length r.1 + index_in (numbers rs) i) (length r.1) ≡ false = grind (arith, nat_tests) in
    let m : length r.1 + index_in (numbers rs) i - length r.1 ≡ index_in (numbers rs) i = omega arith in
    record {
      ids = s.ids;
      row = rw (t, n) s.row;
      inside = s.inside;
      position = rw (t, index_in-append_out r.1 (numbers rs) i t, l, m) s.position;
    }

pub found : (rows : List (Numbered (List ℕ))) (i : ℕ) → AreDistinct rows → among (numbers rows) i ≡ true → Found rows i
found [] i d h = (let f : false ≡ true = h in absurd cc)
found (r ∷ rs) i d h = elim (cases_Bool (among r.1 i)) [
  | inl t ↦ found_here r rs i t
  | inr t ↦ found_later r rs i d.0 t (found rs i d.1 (rw t at (sym (among-append r.1 (numbers rs) i) ∙ h)))
]

-- the rows before and after the row of a position
pub record Standing (rows : List (Numbered (List ℕ))) (k : ℕ) (p : Position) : Type 0 where
  pub before : List (Numbered (List ℕ))
  pub ids : List ℕ
  pub after : List (Numbered (List ℕ))
  pub is : rows ≡ before ++ (p.row, ids) ∷ after
  pub index : k ≡ length (numbers before) + p.index
  pub within : p.index < length ids

pub standing : (rows : List (Numbered (List ℕ))) (k : ℕ) (p : Position) → position_at rows k ≡ Some p → Standing rows k p
standing [] k p e = absurd cc
standing (r ∷ rs) k p e = elim (cases_Bool (ltb k (length r.1))) [
  | inl t ↦
      let q : Position = record { row = r.0; index = k } in
      let f : Some q ≡ Some p = rw t at e in
      let g : q ≡ p = cc in
      let a : r.0 ≡ p.row = ap (λ (x : Position). x.row) g in
      let b : k ≡ p.index = ap (λ (x : Position). x.index) g in
      let w : k < length r.1 = grind (arith, nat_tests) in
      record { before = []; ids = r.1; after = rs; is = ap (λ n. (n, r.1) ∷ rs) a; index = omega arith; within = omega arith }
  | inr t ↦
      let s = standing rs (k - length r.1) p (rw t at e) in
      let w : length r.1 ≤ k = grind (arith, nat_tests) in
      record { before = r ∷ s.before; ids = s.ids; after = s.after; is = ap (λ l. r ∷ l) s.is; index = (let i = s.index in let n = length-append r.1 (numbers s.before) in omega arith); within = s.within }
]

pub position-split : (before : List (Numbered (List ℕ))) (rest : List (Numbered (List ℕ))) (j : ℕ) → position_at (before ++ rest) (length (numbers before) + j) ≡ position_at rest j
position-split [] rest j = (let e : 0 + j ≡ j = omega arith in ap (position_at rest) e)
position-split (r ∷ rs) rest j =
    let n : length (r.1 ++ numbers rs) ≡ length r.1 + length (numbers rs) = length-append r.1 (numbers rs) in
    let l : ltb (length (r.1 ++ numbers rs) + j) (length r.1) ≡ false = grind (arith, nat_tests) in
    let m : length (r.1 ++ numbers rs) + j - length r.1 ≡ length (numbers rs) + j = omega arith in
    rw (l, m) (position-split rs rest j)

pub position-here : (r : ℕ) (ids : List ℕ) (after : List (Numbered (List ℕ))) (j : ℕ) → j < length ids → position_at ((r, ids) ∷ after) j ≡ Some (record { row = r; index = j })
position-here r ids after j h = (let l : ltb j (length ids) ≡ true = grind (arith, nat_tests) in rw l refl)

pub position-past : (r : ℕ) (ids : List ℕ) (after : List (Numbered (List ℕ))) (j : ℕ) → position_at ((r, ids) ∷ after) (length ids + j) ≡ position_at after j
position-past r ids after j =
    let l : ltb (length ids + j) (length ids) ≡ false = grind (arith, nat_tests) in
    let m : length ids + j - length ids ≡ j = omega arith in
    rw (l, m) refl

pub position-first : (rows : List (Numbered (List ℕ))) → AreFilled rows → position_at rows 0 ≡ option_map start_of (first_number rows)
position-first [] f = refl
position-first (r ∷ rs) f = (let w = f.0 in let l : ltb 0 (length r.1) ≡ true = grind (arith, nat_tests) in rw l refl)

-- if there is no position, there is no number
pub position-none : (rows : List (Numbered (List ℕ))) (k : ℕ) → position_at rows k ≡ None → nth (numbers rows) k ≡ None
position-none [] k e = refl
position-none (r ∷ rs) k e = elim (cases_Bool (ltb k (length r.1))) [
  | inl t ↦ (let q : Position = record { row = r.0; index = k } in let f : Some q ≡ None = rw t at e in absurd cc)
  | inr t ↦
      let w : length r.1 ≤ k = grind (arith, nat_tests) in
      let m : k ≡ length r.1 + (k - length r.1) = omega arith in
      ap (nth (r.1 ++ numbers rs)) m ∙ nth-append_right r.1 (numbers rs) (k - length r.1) ∙ position-none rs (k - length r.1) (rw t at e)
]

-- the last position of a row
abbrev pub end_of : ℕ → ℕ → Position
end_of n r = record { row = r; index = n - 1 }

-- the last position is the end of the last row
pub position-last : (rows : List (Numbered (List ℕ))) → AreDistinct rows → AreFilled rows → (r : ℕ) (ids : List ℕ) → last_number rows ≡ Some r → leaf_in rows r ≡ Some ids → position_at rows (length (numbers rows) - 1) ≡ Some (end_of (length ids) r)
position-last [] d f r ids e g = absurd cc
position-last (q ∷ []) d f r ids e g =
    let a : q.0 ≡ r = cc in
    let b : Some q.1 ≡ Some ids = rw (a, eqb_same r) at g in
    let h : q.1 ≡ ids = cc in
    let n : length (q.1 ++ []) ≡ length q.1 + 0 = length-append q.1 [] in
    let w = f.0 in
    let l : ltb (length (q.1 ++ []) - 1) (length q.1) ≡ true = grind (arith, nat_tests) in
    let m : length (q.1 ++ []) - 1 ≡ length q.1 - 1 = omega arith in
    let z : end_of (length q.1) q.0 ≡ end_of (length ids) r = rw (h, a) refl in
    rw l (ap Some (ap (λ x. let y : Position = record { row = q.0; index = x } in y) m ∙ z))
position-last (q ∷ t ∷ rs) d f r ids e g =
    let h : Has (t ∷ rs) r = Has-last (t ∷ rs) r e in
    let n : eqb q.0 r ≡ false = eqb_other q.0 r (λ u. has_other (t ∷ rs) r q.0 h d.0 (sym u)) in
    let i = position-last (t ∷ rs) d.1 f.1 r ids e (rw n at g) in
    let w = f.1.0 in
    let a : length (q.1 ++ numbers (t ∷ rs)) ≡ length q.1 + length (numbers (t ∷ rs)) = length-append q.1 (numbers (t ∷ rs)) in
    let b : length (numbers (t ∷ rs)) ≡ length t.1 + length (numbers rs) = length-append t.1 (numbers rs) in
    let l : ltb (length (q.1 ++ numbers (t ∷ rs)) - 1) (length q.1) ≡ false = grind (arith, nat_tests) in
    let m : length (q.1 ++ numbers (t ∷ rs)) - 1 - length q.1 ≡ length (numbers (t ∷ rs)) - 1 = omega arith in
    rw (l, m) i

module _ (rows : List (Numbered (List ℕ))) (k : ℕ) (p : Position) (s : Standing rows k p) where
  -- no other row has the number of the row of a position
  pub standing-lacks : AreDistinct rows → Lacks s.before p.row × Lacks s.after p.row
  standing-lacks d = distinct_parts s.before s.after (p.row, s.ids) (subst AreDistinct s.is d)

  pub standing-row : AreDistinct rows → leaf_in rows p.row ≡ Some s.ids
  standing-row d = ap (λ rs. leaf_in rs p.row) s.is ∙ leaf_in-split p.row s.ids s.after s.before (standing-lacks d).0

  -- the numbers are those of the rows before, of the row, and of the rows after
  pub standing-numbers : numbers rows ≡ numbers s.before ++ (s.ids ++ numbers s.after)
  standing-numbers = ap numbers s.is ∙ numbers-append s.before ((p.row, s.ids) ∷ s.after)

  -- the number at the index of a position is the number at the index in its row
  pub standing-number : nth (numbers rows) k ≡ nth s.ids p.index
  standing-number = rw (standing-numbers, s.index) (nth-append_right (numbers s.before) (s.ids ++ numbers s.after) p.index ∙ nth-append_left s.ids (numbers s.after) p.index s.within)

  -- the next position is the next index in the row, if there is one
  pub standing-within : p.index + 1 < length s.ids → position_at rows (k + 1) ≡ Some (record { row = p.row; index = p.index + 1 })
  standing-within w =
      let e : k + 1 ≡ length (numbers s.before) + (p.index + 1) = let i = s.index in omega arith in
      ap (λ rs. position_at rs (k + 1)) s.is ∙ ap (position_at (s.before ++ (p.row, s.ids) ∷ s.after)) e ∙ position-split s.before ((p.row, s.ids) ∷ s.after) (p.index + 1) ∙ position-here p.row s.ids s.after (p.index + 1) w

  -- the first position after the row is the start of the next row
  pub standing-end : AreDistinct rows → AreFilled rows → (b : ℕ) → b + p.index ≡ k + length s.ids → position_at rows b ≡ option_map start_of (number_after rows p.row)
  standing-end d f b w =
      let e : b ≡ length (numbers s.before) + (length s.ids + 0) = let i = s.index in omega arith in
      let a : number_after rows p.row ≡ first_number s.after = ap (λ rs. number_after rs p.row) s.is ∙ number_after-split p.row s.ids s.after s.before (standing-lacks d).0 in
      let g = (AreFilled-parts s.before ((p.row, s.ids) ∷ s.after) (subst AreFilled s.is f)).1 in
      ap (λ rs. position_at rs b) s.is ∙ ap (position_at (s.before ++ (p.row, s.ids) ∷ s.after)) e ∙ position-split s.before ((p.row, s.ids) ∷ s.after) (length s.ids + 0) ∙ position-past p.row s.ids s.after 0 ∙ position-first s.after g.1 ∙ ap (option_map start_of) (sym a)

  -- if there is none, the next position is the start of the next row
  pub standing-after : AreDistinct rows → AreFilled rows → length s.ids ≤ p.index + 1 → position_at rows (k + 1) ≡ option_map start_of (number_after rows p.row)
  standing-after d f w = let i = s.within in standing-end d f (k + 1) (omega arith)

-- an index among the first rows has its position in them
pub position-in : (before rest : List (Numbered (List ℕ))) (j : ℕ) → j < length (numbers before) → position_at (before ++ rest) j ≡ position_at before j
position-in [] rest j h = absurd (omega arith)
position-in (r ∷ rs) rest j h =
    let n : length (r.1 ++ numbers rs) ≡ length r.1 + length (numbers rs) = length-append r.1 (numbers rs) in
    elim (cases_Bool (ltb j (length r.1))) [
      | inl t ↦ rw t refl
      | inr t ↦ (let w : length r.1 ≤ j = grind (arith, nat_tests) in rw t (position-in rs rest (j - length r.1) (omega arith)))
    ]

-- if there is a row, there are numbers
pub filled-some : (rows : List (Numbered (List ℕ))) (r : ℕ) → AreFilled rows → last_number rows ≡ Some r → 0 < length (numbers rows)
filled-some [] r f e = absurd cc
filled-some (q ∷ rs) r f e = (let n : length (q.1 ++ numbers rs) ≡ length q.1 + length (numbers rs) = length-append q.1 (numbers rs) in let w = f.0 in omega arith)

-- the item under a number of the first list is the item in the first list
leaf_in-front : {X : Type 0} (xs ys : List (Numbered X)) (i : ℕ) (x : X) → Has xs i → leaf_in (xs ++ ys) i ≡ Some x → leaf_in xs i ≡ Some x
leaf_in-front {X = X} xs ys i x h e = go (leaf_in xs i) h (sym (leaf_in-append xs ys i) ∙ e)
  where
    go : (o : Option X) → IsSome o → option_or o (leaf_in ys i) ≡ Some x → o ≡ Some x
    go None h e = absurd (let f : false ≡ true = h in cc)
    go (Some y) h e = e

module _ (rows : List (Numbered (List ℕ))) (k : ℕ) (p : Position) (s : Standing rows k p) where
  -- the position before is the index before in the row, if there is one
  pub standing-earlier : 0 < p.index → position_at rows (k - 1) ≡ Some (record { row = p.row; index = p.index - 1 })
  standing-earlier w =
      let e : k - 1 ≡ length (numbers s.before) + (p.index - 1) = let i = s.index in omega arith in
      ap (λ rs. position_at rs (k - 1)) s.is ∙ ap (position_at (s.before ++ (p.row, s.ids) ∷ s.after)) e ∙ position-split s.before ((p.row, s.ids) ∷ s.after) (p.index - 1) ∙ position-here p.row s.ids s.after (p.index - 1) (let i = s.within in omega arith)

  -- the row before is the last of the rows before
  pub standing-row_before : AreDistinct rows → number_before rows p.row ≡ last_number s.before
  standing-row_before d = ap (λ rs. number_before rs p.row) s.is ∙ number_before-split p.row s.ids s.after s.before (standing-lacks rows k p s d).0

  module _ (d : AreDistinct rows) (f : AreFilled rows) where
    -- the first position of the first row has index 0
    pub standing-first : p.index ≡ 0 → number_before rows p.row ≡ None → k ≡ 0
    standing-first z e =
        let b : s.before ≡ [] = no_last s.before (sym (standing-row_before d) ∙ e) in
        let n : length (numbers s.before) ≡ 0 = ap (λ l. length (numbers l)) b in
        let i = s.index in
        omega arith

    module _ (r : ℕ) (e : number_before rows p.row ≡ Some r) where
      last_is : last_number s.before ≡ Some r
      last_is = sym (standing-row_before d) ∙ e

      fills : AreFilled s.before
      fills = (AreFilled-parts s.before ((p.row, s.ids) ∷ s.after) (subst AreFilled s.is f)).0

      apart : AreDistinct s.before
      apart = (AreDistinct-parts s.before ((p.row, s.ids) ∷ s.after) (subst AreDistinct s.is d)).0

      -- a position with a row before its row does not have index 0
      pub standing-not_first : 0 < k
      standing-not_first = (let n = filled-some s.before r fills last_is in let i = s.index in omega arith)

      -- at the first index of a row, the position before is the last index of the row before
      pub standing-row_end : p.index ≡ 0 → (ids : List ℕ) → leaf_in rows r ≡ Some ids → position_at rows (k - 1) ≡ Some (end_of (length ids) r)
      standing-row_end z ids g =
          let n = filled-some s.before r fills last_is in
          let i = s.index in
          let e : k - 1 ≡ length (numbers s.before) - 1 = omega arith in
          let h : leaf_in s.before r ≡ Some ids = leaf_in-front s.before ((p.row, s.ids) ∷ s.after) r ids (Has-last s.before r last_is) (sym (ap (λ rs. leaf_in rs r) s.is) ∙ g) in
          ap (λ rs. position_at rs (k - 1)) s.is ∙ ap (position_at (s.before ++ (p.row, s.ids) ∷ s.after)) e ∙ position-in s.before ((p.row, s.ids) ∷ s.after) (length (numbers s.before) - 1) (omega arith) ∙ position-last s.before apart fills r ids last_is h

-- each row has a number
pub filled-row : (rows : List (Numbered (List ℕ))) → AreFilled rows → (r : ℕ) (ids : List ℕ) → leaf_in rows r ≡ Some ids → 0 < length ids
filled-row [] f r ids e = absurd cc
filled-row (q ∷ rs) f r ids e = elim (eqb_tells q.0 r) [
  | inl t ↦ (let a : Some q.1 ≡ Some ids = rw t.0 at e in let b : q.1 ≡ ids = cc in rw (← b) f.0)
  | inr t ↦ filled-row rs f.1 r ids (rw t.0 at e)
]

-- a position is the first, or there is a position before it
pub before_cases : (rows : List (Numbered (List ℕ))) (p : Position) (o : Option Position) → ((k : ℕ) → position_at rows (k + 1) ≡ Some p → o ≡ position_at rows k) → (position_at rows 0 ≡ Some p → o ≡ None) → (j : ℕ) → position_at rows j ≡ Some p → ((j ≡ 0) × (o ≡ None)) ⊎ ((k : ℕ) × ((j ≡ suc k) × (o ≡ position_at rows k)))
before_cases rows p o before first zero e = inl (refl, first e)
before_cases rows p o before first (suc k) e = inr (k, (refl, before k (let m : suc k ≡ k + 1 = omega arith in rw m at e)))

-- the position before, if there is one
pub before_some : (rows : List (Numbered (List ℕ))) {p q : Position} {o : Option Position} {j : ℕ} →
    ((k : ℕ) → position_at rows (k + 1) ≡ Some p → o ≡ position_at rows k) → (position_at rows 0 ≡ Some p → o ≡ None) → position_at rows j ≡ Some p → o ≡ Some q → (k : ℕ) × (j ≡ suc k) × (position_at rows k ≡ Some q)
before_some rows {p} {q} {o} {j} before first at is = elim (before_cases rows p o before first j at) [
  | inl t ↦ (let e = t.1 in absurd cc)
  | inr t ↦ (t.0, t.1.0, sym t.1.1 ∙ is)
]
