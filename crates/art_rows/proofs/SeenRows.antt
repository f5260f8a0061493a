-- What a contract sees of rows, after a change of the counts of cells in use.
use Rattle.std.proofs.Common.{◌≡◌, ◌≢◌, ℕ, List, [], ◌∷◌, map, take, refl, sym, ap, subst, ◌∙◌, Option, Some, None, true, false, inl, inr}
use Rattle.std.specs.Prelude.{option_map}
use Rattle.std.proofs.lemmas.Bool.Decides.{eqb_tells}
use Rattle.std.proofs.lemmas.Bool.{cases_Bool}
use Rattle.art_slots.specs.Words.{block_at}
use Rattle.art_rows.specs.Numbers.{Numbered, leaf_in, Has, first_number, last_number, number_after, number_before, number_before_from, with_pair_after, with_pair, without_number, Lacks, AreDistinct}
use Rattle.art_rows.specs.Rows.{among, numbers, row_with}
use Rattle.art_rows.specs.Cells.{cells_of}
use Rattle.art_rows.proofs.NumbersLemmas.{eqb_same, Has-tail, leaf_in_lacking, has_other}
use Rattle.art_rows.proofs.RowsLemmas.{among-append}

-- the numbers of the first `count` cells of a row
abbrev pub first_of : List ℕ → ℕ → ℕ → List ℕ
first_of cells r count = take count (block_at cells r)

module _ (cells : List ℕ) where
  -- ---- each row under its number

  -- a row is seen if it has a count
  pub leaf_in-rows : (ps : List (Numbered ℕ)) (r : ℕ) → leaf_in (map (cells_of cells) ps) r ≡ option_map (first_of cells r) (leaf_in ps r)
  leaf_in-rows [] r = refl
  leaf_in-rows (p ∷ ps) r = elim (eqb_tells p.0 r) [
    | inl t ↦ rw t.0 (ap (λ q. Some (first_of cells q p.1)) t.1)
    | inr t ↦ rw t.0 (leaf_in-rows ps r)
  ]

  -- the cells in use of a row with this count
  pub row_counted : (ps : List (Numbered ℕ)) (r count : ℕ) → leaf_in ps r ≡ Some count → leaf_in (map (cells_of cells) ps) r ≡ Some (first_of cells r count)
  row_counted ps r count e = leaf_in-rows ps r ∙ ap (option_map (first_of cells r)) e

  -- the same rows are there
  pub Has-rows : (ps : List (Numbered ℕ)) (r : ℕ) → Has (map (cells_of cells) ps) r → Has ps r
  Has-rows [] r h = h
  Has-rows (p ∷ ps) r h = elim (eqb_tells p.0 r) [ inl t ↦ rw t.0 refl | inr t ↦ rw t.0 (Has-rows ps r (rw t.0 at h)) ]

  -- the order of the rows is that of the counts
  pub first-rows : (ps : List (Numbered ℕ)) → first_number (map (cells_of cells) ps) ≡ first_number ps
  first-rows [] = refl
  first-rows (p ∷ ps) = refl

  pub last-rows : (ps : List (Numbered ℕ)) → last_number (map (cells_of cells) ps) ≡ last_number ps
  last-rows [] = refl
  last-rows (p ∷ []) = refl
  last-rows (p ∷ q ∷ ps) = last-rows (q ∷ ps)

  pub after-rows : (ps : List (Numbered ℕ)) (r : ℕ) → number_after (map (cells_of cells) ps) r ≡ number_after ps r
  after-rows [] r = refl
  after-rows (p ∷ ps) r = elim (eqb_tells p.0 r) [ inl t ↦ rw t.0 (first-rows ps) | inr t ↦ rw t.0 (after-rows ps r) ]

  before_from-rows : (b : Option ℕ) (ps : List (Numbered ℕ)) (r : ℕ) → number_before_from b (map (cells_of cells) ps) r ≡ number_before_from b ps r
  before_from-rows b [] r = refl
  before_from-rows b (p ∷ ps) r = elim (eqb_tells p.0 r) [ inl t ↦ rw t.0 refl | inr t ↦ rw t.0 (before_from-rows (Some p.0) ps r) ]

  pub before-rows : (ps : List (Numbered ℕ)) (r : ℕ) → number_before (map (cells_of cells) ps) r ≡ number_before ps r
  before-rows ps r = before_from-rows None ps r

  -- ---- one row more or less

  -- a row was placed
  pub rows-with_pair_after : (o : Option ℕ) (x : Numbered ℕ) (ps : List (Numbered ℕ)) → map (cells_of cells) (with_pair_after o x ps) ≡ with_pair_after o (cells_of cells x) (map (cells_of cells) ps)
  rows-with_pair_after None x ps = refl
  rows-with_pair_after (Some i) x [] = refl
  rows-with_pair_after (Some i) x (p ∷ ps) = elim (eqb_tells p.0 i) [
    | inl t ↦ rw t.0 refl
    | inr t ↦ rw t.0 (ap (λ l. cells_of cells p ∷ l) (rows-with_pair_after (Some i) x ps))
  ]

  -- a row was removed
  pub rows-without_number : (ps : List (Numbered ℕ)) (i : ℕ) → map (cells_of cells) (without_number ps i) ≡ without_number (map (cells_of cells) ps) i
  rows-without_number [] i = refl
  rows-without_number (p ∷ ps) i = elim (eqb_tells p.0 i) [
    | inl t ↦ rw t.0 refl
    | inr t ↦ rw t.0 (ap (λ l. cells_of cells p ∷ l) (rows-without_number ps i))
  ]

  -- ---- the row of a number

  -- a number that is in no row is not seen
  pub among-rows : (ps : List (Numbered ℕ)) (n : ℕ) → AreDistinct ps → ((r count : ℕ) → leaf_in ps r ≡ Some count → among (first_of cells r count) n ≡ false) → among (numbers (map (cells_of cells) ps)) n ≡ false
  among-rows [] n d h = refl
  among-rows (p ∷ ps) n d h =
      let a : among (first_of cells p.0 p.1) n ≡ false = h p.0 p.1 (rw (eqb_same p.0) refl) in
      let b : among (numbers (map (cells_of cells) ps)) n ≡ false = among-rows ps n d.1 (λ r count e. h r count (rest r count e)) in
      among-append (first_of cells p.0 p.1) (numbers (map (cells_of cells) ps)) n ∙ rw (a, b) refl
    where
      rest : (r count : ℕ) → leaf_in ps r ≡ Some count → leaf_in (p ∷ ps) r ≡ Some count
      rest r count e = elim (eqb_tells p.0 r) [
        | inl t ↦ (let l : leaf_in ps r ≡ None = leaf_in_lacking ps r (subst (Lacks ps) t.1 d.0) in absurd (cc))
        | inr t ↦ rw t.0 e
      ]

  -- a number that is seen is a number of its row
  pub row_with-rows : (ps : List (Numbered ℕ)) (n : ℕ) → among (numbers (map (cells_of cells) ps)) n ≡ true → Has ps (row_with (map (cells_of cells) ps) n) × ((count : ℕ) × (among (first_of cells (row_with (map (cells_of cells) ps) n) count) n ≡ true))
  row_with-rows [] n h = (let f : false ≡ true = h in absurd cc)
  row_with-rows (p ∷ ps) n h = elim (cases_Bool (among (first_of cells p.0 p.1) n)) [
    | inl t ↦ rw t (rw (eqb_same p.0) refl, (p.1, t))
    | inr t ↦
        let g : among (numbers (map (cells_of cells) ps)) n ≡ true = rw t at (sym (among-append (first_of cells p.0 p.1) (numbers (map (cells_of cells) ps)) n) ∙ h) in
        let i = row_with-rows ps n g in
        rw t (Has-more (row_with (map (cells_of cells) ps) n) i.0, i.1)
  ]
    where
      Has-more : (r : ℕ) → Has ps r → Has (p ∷ ps) r
      Has-more r i = elim (eqb_tells p.0 r) [ inl t ↦ rw t.0 refl | inr t ↦ rw t.0 i ]

-- ---- other numbers in blocks

-- the rows that are not changed are seen unchanged
pub rows-others : (cells cells' : List ℕ) (ps : List (Numbered ℕ)) → ((r : ℕ) → Has ps r → block_at cells' r ≡ block_at cells r) → map (cells_of cells') ps ≡ map (cells_of cells) ps
rows-others cells cells' [] h = refl
rows-others cells cells' (p ∷ ps) h =
    let a : block_at cells' p.0 ≡ block_at cells p.0 = h p.0 (rw (eqb_same p.0) refl) in
    let b = rows-others cells cells' ps (λ r g. h r (more r g)) in
    rw (a, b) refl
  where
    more : (r : ℕ) → Has ps r → Has (p ∷ ps) r
    more r i = elim (eqb_tells p.0 r) [ inl t ↦ rw t.0 refl | inr t ↦ rw t.0 i ]

-- one row is changed
pub rows-with_pair : (cells cells' : List ℕ) (ps : List (Numbered ℕ)) (row count : ℕ) (ids : List ℕ) → AreDistinct ps → ((r : ℕ) → r ≢ row → block_at cells' r ≡ block_at cells r) → first_of cells' row count ≡ ids → map (cells_of cells') (with_pair ps row count) ≡ with_pair (map (cells_of cells) ps) row ids
rows-with_pair cells cells' [] row count ids d h e = refl
rows-with_pair cells cells' (p ∷ ps) row count ids d h e = elim (eqb_tells p.0 row) [
  | inl t ↦
      let f : first_of cells' p.0 count ≡ ids = ap (λ q. first_of cells' q count) t.1 ∙ e in
      let g : map (cells_of cells') ps ≡ map (cells_of cells) ps = rows-others cells cells' ps (λ r i. h r (λ s. has_other ps r p.0 i d.0 (s ∙ sym t.1))) in
      rw t.0 (rw (f, g) refl)
  | inr t ↦
      let f : block_at cells' p.0 ≡ block_at cells p.0 = h p.0 t.1 in
      rw t.0 (rw (f, rows-with_pair cells cells' ps row count ids d.1 h e) refl)
]

-- the upper part of a row moves to a new row after it
pub rows-cut : (cells cells' : List ℕ) (ps : List (Numbered ℕ)) (row new few more : ℕ) (low high : List ℕ) → Has ps row → AreDistinct ps → Lacks ps new → ((r : ℕ) → r ≢ row → r ≢ new → block_at cells' r ≡ block_at cells r) → first_of cells' row few ≡ low → first_of cells' new more ≡ high → map (cells_of cells') (with_pair (with_pair_after (Some row) (new, more) ps) row few) ≡ with_pair_after (Some row) (new, high) (with_pair (map (cells_of cells) ps) row low)
rows-cut cells cells' [] row new few more low high i d l h e f = (let g : false ≡ true = i in absurd cc)
rows-cut cells cells' (p ∷ ps) row new few more low high i d l h e f = elim (eqb_tells p.0 row) [
  | inl t ↦
      let a : first_of cells' p.0 few ≡ low = ap (λ q. first_of cells' q few) t.1 ∙ e in
      let g : map (cells_of cells') ps ≡ map (cells_of cells) ps = rows-others cells cells' ps (λ r j. h r (λ s. has_other ps r p.0 j d.0 (s ∙ sym t.1)) (λ s. has_other ps r new j l.1 s)) in
      simp t.0 (rw (a, f, g) refl)
  | inr t ↦
      let a : block_at cells' p.0 ≡ block_at cells p.0 = h p.0 t.1 l.0 in
      simp t.0 (rw (a, rows-cut cells cells' ps row new few more low high (Has-tail p ps row t.1 i) d.1 l.1 h e f) refl)
]
