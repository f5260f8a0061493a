-- Rows of cells that they own, and what a contract sees of them.
use Rattle.std.proofs.Common.{◌≡◌, ◌≢◌, ℕ, ◌+◌, ◌-◌, ◌*◌, ◌<◌, ◌≤◌, List, [], ◌∷◌, ◌++◌, length, map, take, drop, get_or, refl, sym, ap, subst, ◌∙◌, Option, Some, None, IsSome, Bool, true, false, cond, eqb, inl, inr, arith}
use Rattle.std.specs.Prelude.{option_map, IfSome}
use Rattle.std.proofs.lemmas.Bool.{cases_Bool}
use Rattle.std.proofs.lemmas.Bool.Decides.{eqb_tells}
use Rattle.std.proofs.lemmas.List.{length-take-le, length-drop, take-take, take_all, take_at, take_more}
use Rattle.art_slots.specs.Words.{block_at, moved_down, moved_up}
use Rattle.art_slots.proofs.CallerLemmas.{at_block, length-block, take-moved_down, take-moved_up}
use Rattle.art_rows.specs.Numbers.{Numbered, Numbers, leaf_in, Has, with_pair_after, with_pair, without_number, Lacks}
use Rattle.art_rows.specs.Rows.{among, numbers, row_with}
use Rattle.art_rows.specs.Cells.{cells_of, rows_of, HaveCells, IsOwned, AreOwned}
use Rattle.art_rows.proofs.NumbersLemmas.{leaf_in-with_pair, leaf_in-with_pair_after, leaf_in-without_number, Lacks-from_leaf_in, AreDistinct-with_pair, AreDistinct-with_pair_after, AreDistinct-without_number}
use Rattle.art_rows.proofs.Blocks.{next_fresh}
use Rattle.art_rows.proofs.SeenRows.{first_of, leaf_in-rows, row_counted, Has-rows, among-rows, row_with-rows, rows-with_pair, rows-with_pair_after, rows-without_number, rows-others, rows-cut}
use Rattle.art_rows.proofs.OwnedCells.{own_long, own_at, own_among}

-- ---- the count of a row

-- a row in use has a count
pub count_of : (ps : List (Numbered ℕ)) (r : ℕ) → Has ps r → (count : ℕ) × (leaf_in ps r ≡ Some count)
count_of ps r h = go (leaf_in ps r) h
  where
    go : (x : Option ℕ) → IsSome x → (count : ℕ) × (x ≡ Some count)
    go None s = (let f : false ≡ true = s in absurd cc)
    go (Some n) s = (n, refl)

-- a row in use is still in use after another row was placed
pub has_placed : (ps qs : List (Numbered ℕ)) (prev : Option ℕ) (x : Numbered ℕ) (r : ℕ) → qs ≡ with_pair_after prev x ps → IfSome prev (Has ps) → leaf_in ps x.0 ≡ None → Has ps r → Has qs r
has_placed ps qs prev x r e p f h =
    let l : Lacks ps x.0 = Lacks-from_leaf_in ps x.0 f in
    let at : leaf_in qs r ≡ cond (eqb x.0 r) (Some x.1) (leaf_in ps r) = ap (λ l. leaf_in l r) e ∙ leaf_in-with_pair_after prev x ps r p l in
    elim (eqb_tells x.0 r) [
      | inl t ↦ rw (at, t.0) refl
      | inr t ↦ rw (at, t.0) h
    ]

-- a row in use is not a row that is not in use
pub has_not_none : (ps : List (Numbered ℕ)) (r new : ℕ) → Has ps r → leaf_in ps new ≡ None → r ≢ new
has_not_none ps r new h f e = (let g : false ≡ true = subst (λ (x : Option ℕ). IsSome x) f (subst (Has ps) e h) in cc)

-- ---- after a change

module _ {counts : Numbers ℕ} {cells owners : List ℕ} {ready : ℕ} (o : AreOwned counts cells owners ready) (cells' owners' : List ℕ) (h : HaveCells cells' owners' ready) where
  -- other cells, and the same rows
  pub owned_same : AreOwned counts cells' owners' ready
  owned_same = record { distinct = o.distinct; top = o.top; inside = o.inside; counted = o.counted; have = h }

  -- the same rows in another chain
  pub owned_copied : (counts' : Numbers ℕ) → counts'.pairs ≡ counts.pairs → counts'.top ≡ counts.top → AreOwned counts' cells' owners' ready
  owned_copied counts' e t = record {
    distinct = rw e o.distinct;
    top = omega (arith, o.top);
    inside = λ r i. o.inside r (rw e at i);
    counted = λ r n g. o.counted r n (rw e at g);
    have = h;
  }

  -- another count of a row
  pub owned_counted : (row count : ℕ) → count ≤ 64 → AreOwned (record counts { pairs = with_pair counts.pairs row count }) cells' owners' ready
  owned_counted row count le = record {
    distinct = AreDistinct-with_pair counts.pairs row count o.distinct;
    top = o.top;
    inside = λ r i. o.inside r (has r i);
    counted = λ r n e. small r n (sym (leaf_in-with_pair counts.pairs row count r) ∙ e);
    have = h;
  }
    where
      has : (r : ℕ) → Has (with_pair counts.pairs row count) r → Has counts.pairs r
      has r i = go (leaf_in counts.pairs r) (eqb row r) (subst (λ (x : Option ℕ). IsSome x) (leaf_in-with_pair counts.pairs row count r) i)
        where
          go : (x : Option ℕ) (b : Bool) → IsSome (cond b (option_map (λ _. count) x) x) → IsSome x
          go None true s = s
          go None false s = s
          go (Some y) b s = refl

      small : (r n : ℕ) → cond (eqb row r) (option_map (λ _. count) (leaf_in counts.pairs r)) (leaf_in counts.pairs r) ≡ Some n → n ≤ 64
      small r n e = elim (eqb_tells row r) [
        | inl t ↦ go (leaf_in counts.pairs r) (rw t.0 at e)
        | inr t ↦ o.counted r n (rw t.0 at e)
      ]
        where
          go : (x : Option ℕ) → option_map (λ _. count) x ≡ Some n → n ≤ 64
          go None f = absurd (cc)
          go (Some y) f = (let g : count ≡ n = cc in omega arith)

  -- one more row
  pub owned_placed : (counts' : Numbers ℕ) (prev : Option ℕ) (row count : ℕ) → IfSome prev (Has counts.pairs) → leaf_in counts.pairs row ≡ None → row < ready → count ≤ 64 → counts'.pairs ≡ with_pair_after prev (row, count) counts.pairs → counts'.top ≡ counts.top → AreOwned counts' cells' owners' ready
  owned_placed counts' prev row count p f below le e t =
      let l : Lacks counts.pairs row = Lacks-from_leaf_in counts.pairs row f in
      let at : (r : ℕ) → leaf_in counts'.pairs r ≡ cond (eqb row r) (Some count) (leaf_in counts.pairs r) = λ r. ap (λ ps. leaf_in ps r) e ∙ leaf_in-with_pair_after prev (row, count) counts.pairs r p l in
      record {
        distinct = rw e (AreDistinct-with_pair_after prev (row, count) counts.pairs o.distinct l);
        top = omega (arith, o.top);
        inside = λ r i. inside r (subst (λ (x : Option ℕ). IsSome x) (at r) i);
        counted = λ r n g. counted r n (sym (at r) ∙ g);
        have = h;
      }
    where
      inside : (r : ℕ) → IsSome (cond (eqb row r) (Some count) (leaf_in counts.pairs r)) → r < ready
      inside r i = elim (eqb_tells row r) [
        | inl u ↦ rw (← u.1) below
        | inr u ↦ o.inside r (rw u.0 at i)
      ]

      counted : (r n : ℕ) → cond (eqb row r) (Some count) (leaf_in counts.pairs r) ≡ Some n → n ≤ 64
      counted r n g = elim (eqb_tells row r) [
        | inl u ↦ (let k : Some count ≡ Some n = rw u.0 at g in let q : count ≡ n = cc in omega arith)
        | inr u ↦ o.counted r n (rw u.0 at g)
      ]

  -- one row less
  pub owned_removed : (counts' : Numbers ℕ) (row : ℕ) → counts'.pairs ≡ without_number counts.pairs row → counts'.top ≡ counts.top → AreOwned counts' cells' owners' ready
  owned_removed counts' row e t =
      let at : (r : ℕ) → leaf_in counts'.pairs r ≡ cond (eqb row r) None (leaf_in counts.pairs r) = λ r. ap (λ ps. leaf_in ps r) e ∙ leaf_in-without_number counts.pairs row r o.distinct in
      record {
        distinct = rw e (AreDistinct-without_number counts.pairs row o.distinct);
        top = omega (arith, o.top);
        inside = λ r i. inside r (subst (λ (x : Option ℕ). IsSome x) (at r) i);
        counted = λ r n g. counted r n (sym (at r) ∙ g);
        have = h;
      }
    where
      inside : (r : ℕ) → IsSome (cond (eqb row r) None (leaf_in counts.pairs r)) → r < ready
      inside r i = elim (eqb_tells row r) [
        | inl u ↦ absurd (let f : false ≡ true = rw u.0 at i in cc)
        | inr u ↦ o.inside r (rw u.0 at i)
      ]

      counted : (r n : ℕ) → cond (eqb row r) None (leaf_in counts.pairs r) ≡ Some n → n ≤ 64
      counted r n g = elim (eqb_tells row r) [
        | inl u ↦ absurd (let k : None ≡ Some n = rw u.0 at g in cc)
        | inr u ↦ o.counted r n (rw u.0 at g)
      ]

-- more rows have cells
pub owned_more : {counts : Numbers ℕ} {cells owners : List ℕ} {ready : ℕ} → AreOwned counts cells owners ready → (counts' : Numbers ℕ) (cells' owners' : List ℕ) (ready' : ℕ) → counts' ≡ counts → ready ≤ ready' → HaveCells cells' owners' ready' → AreOwned counts' cells' owners' ready'
owned_more o counts' cells' owners' ready' e le h = record {
  distinct = rw e o.distinct;
  top = (let t = ap (λ (x : Numbers ℕ). x.top) e in omega (arith, o.top));
  inside = λ r i. (let l = o.inside r (rw e at i) in omega arith);
  counted = λ r n g. o.counted r n (rw e at g);
  have = h;
}

-- ---- what a contract sees

module _ {counts : Numbers ℕ} {cells owners : List ℕ} {ready : ℕ} {now : Numbers (List ℕ)} (o : AreOwned counts cells owners ready) (v : rows_of counts cells ready ≡ now) where
  pairs_now : map (cells_of cells) counts.pairs ≡ now.pairs
  pairs_now = ap (λ t. t.pairs) v

  -- a row that is seen is in use
  pub has_now : (r : ℕ) → Has now.pairs r → Has counts.pairs r
  has_now r h = Has-rows cells counts.pairs r (subst (λ ps. Has ps r) (sym pairs_now) h)

  -- an optional row
  pub prev_now : (p : Option ℕ) → IfSome p (Has now.pairs) → IfSome p (Has counts.pairs)
  prev_now None h = h
  prev_now (Some r) h = has_now r h

  -- a row with no count is not seen
  pub unused_now : (r : ℕ) → leaf_in counts.pairs r ≡ None → leaf_in now.pairs r ≡ None
  unused_now r e = ap (λ ps. leaf_in ps r) (sym pairs_now) ∙ leaf_in-rows cells counts.pairs r ∙ ap (option_map (first_of cells r)) e

  -- a number that is in no row in use is not seen
  pub fresh_now : (r k cell : ℕ) → r < ready → k < 64 → ((m : ℕ) → leaf_in counts.pairs r ≡ Some m → m ≤ k) → cell ≡ get_or cells (64 * r + k) 0 → among (numbers now.pairs) cell ≡ false
  fresh_now r k cell rl kl most e = ap (λ ps. among (numbers ps) cell) (sym pairs_now) ∙ among-rows cells counts.pairs cell o.distinct (λ q m f. each q m f)
    where
      own : IsOwned cells owners ready r cell
      own = rw e (own_at o.have r k rl kl)

      each : (q m : ℕ) → leaf_in counts.pairs q ≡ Some m → among (first_of cells q m) cell ≡ false
      each q m f = elim (cases_Bool (among (first_of cells q m) cell)) [
        | inr t ↦ t
        | inl t ↦
            let g = own_among o.have q m cell (o.inside q (rw f refl)) t in
            let s : q ≡ r = sym g.owner ∙ own.owner in
            let b : length (block_at cells r) ≡ 64 = length-block cells r (own_long o.have r rl) in
            let at : cell ≡ get_or (block_at cells r) k 0 = e ∙ sym (at_block cells r k kl) in
            let le : m ≤ k = most m (ap (leaf_in counts.pairs) (sym s) ∙ f) in
            let w : among (take m (block_at cells r)) (get_or (block_at cells r) k 0) ≡ false = next_fresh (block_at cells r) m k 0 le (omega arith) (rw at at own.once) in
            ap (λ x. among (first_of cells x m) cell) s ∙ ap (among (first_of cells r m)) at ∙ w
      ]

  -- a number at an index of a row is less than 64 times the number of rows that have cells
  pub lies_now : (r k cell : ℕ) → r < ready → k < 64 → cell ≡ get_or cells (64 * r + k) 0 → cell < 64 * now.top
  lies_now r k cell rl kl e =
      let t : ready ≡ now.top = ap (λ t. t.top) v in
      rw (← t) (rw e (own_at o.have r k rl kl).below)

  -- a number that is seen tells its row
  pub owner_now : (n : ℕ) → among (numbers now.pairs) n ≡ true → IsOwned cells owners ready (row_with now.pairs n) n
  owner_now n a =
      let w = row_with-rows cells counts.pairs n (ap (λ ps. among (numbers ps) n) pairs_now ∙ a) in
      let r = row_with (map (cells_of cells) counts.pairs) n in
      let g = own_among o.have r w.1.0 n (o.inside r w.0) w.1.1 in
      subst (λ ps. IsOwned cells owners ready (row_with ps n) n) pairs_now g

  -- after a row with one cell in use was begun
  pub begin_now : (ps : List (Numbered ℕ)) (prev : Option ℕ) (r cell : ℕ) → ps ≡ with_pair_after prev (r, 1) counts.pairs → r < ready → cell ≡ get_or cells (64 * r + 0) 0 → map (cells_of cells) ps ≡ with_pair_after prev (r, cell ∷ []) now.pairs
  begin_now ps prev r cell e rl is =
      let b : length (block_at cells r) ≡ 64 = length-block cells r (own_long o.have r rl) in
      let lt : 0 < 64 = omega arith in
      let a : get_or (block_at cells r) 0 0 ≡ cell = at_block cells r 0 lt ∙ sym is in
      let f : first_of cells r 1 ≡ cell ∷ [] = take_more (block_at cells r) 0 0 (omega arith) ∙ ap (λ n. n ∷ []) a in
      ap (map (cells_of cells)) e ∙ rows-with_pair_after cells prev (r, 1) counts.pairs ∙ ap (λ l. with_pair_after prev (r, l) (map (cells_of cells) counts.pairs)) f ∙ ap (with_pair_after prev (r, cell ∷ [])) pairs_now

  -- after a change that leaves the blocks of these rows unchanged
  pub same_now : (cells' : List ℕ) → ((r : ℕ) → r < ready → block_at cells' r ≡ block_at cells r) → map (cells_of cells') counts.pairs ≡ now.pairs
  same_now cells' h = rows-others cells cells' counts.pairs (λ r i. h r (o.inside r i)) ∙ pairs_now

  -- after a row was removed
  pub without_now : (ps : List (Numbered ℕ)) (r : ℕ) → ps ≡ without_number counts.pairs r → map (cells_of cells) ps ≡ without_number now.pairs r
  without_now ps r e = ap (map (cells_of cells)) e ∙ rows-without_number cells counts.pairs r ∙ ap (λ qs. without_number qs r) pairs_now

  module _ (r count : ℕ) (e : leaf_in counts.pairs r ≡ Some count) where
    -- the cells in use of a row
    pub row_now : leaf_in now.pairs r ≡ Some (first_of cells r count)
    row_now = ap (λ ps. leaf_in ps r) (sym pairs_now) ∙ row_counted cells counts.pairs r count e

    -- the row has cells
    pub row_inside : r < ready
    row_inside = o.inside r (rw e refl)

    -- its block is within the numbers
    pub row_within : 64 * r + 64 ≤ length cells
    row_within = own_long o.have r row_inside

    -- as many cells are in use as its count says
    pub row_length : length (first_of cells r count) ≡ count
    row_length =
        let b = length-block cells r row_within in
        let c = o.counted r count e in
        length-take-le count (block_at cells r) (omega arith)

    -- what holds of the cells in use
    pub from_now : (P : List ℕ → Type 0) → IfSome (leaf_in now.pairs r) P → P (first_of cells r count)
    from_now P h = rw row_now at h

    pub to_now : (P : List ℕ → Type 0) → P (first_of cells r count) → IfSome (leaf_in now.pairs r) P
    to_now P h = rw row_now h

    -- after a cell was put at an index
    pub insert_now : (cells' : List ℕ) (index cell : ℕ) → index ≤ count → count < 64 → cell ≡ get_or cells (64 * r + count) 0 → block_at cells' r ≡ moved_down (block_at cells r) count index → ((j : ℕ) → j ≢ r → block_at cells' j ≡ block_at cells j) → map (cells_of cells') (with_pair counts.pairs r (count + 1)) ≡ with_pair now.pairs r (take index (first_of cells r count) ++ cell ∷ drop index (first_of cells r count))
    insert_now cells' index cell le lt is moved others =
        let first = ap (take (count + 1)) moved ∙ take-moved_down (block_at cells r) count index le (omega (arith, length-block cells r row_within)) in
        let a : get_or (block_at cells r) count 0 ≡ cell = at_block cells r count lt ∙ sym is in
        let b : take index (first_of cells r count) ≡ take index (block_at cells r) = take-take index count (block_at cells r) le in
        let f : first_of cells' r (count + 1) ≡ take index (first_of cells r count) ++ cell ∷ drop index (first_of cells r count) = first ∙ rw (a, b) refl in
        rows-with_pair cells cells' counts.pairs r (count + 1) (take index (first_of cells r count) ++ cell ∷ drop index (first_of cells r count)) o.distinct others f ∙ ap (λ ps. with_pair ps r (take index (first_of cells r count) ++ cell ∷ drop index (first_of cells r count))) pairs_now

    -- after the cell at an index was removed
    pub remove_now : (cells' : List ℕ) (index : ℕ) → index < count → block_at cells' r ≡ moved_up (block_at cells r) index (count - 1) → ((j : ℕ) → j ≢ r → block_at cells' j ≡ block_at cells j) → map (cells_of cells') (with_pair counts.pairs r (count - 1)) ≡ with_pair now.pairs r (take index (first_of cells r count) ++ drop (index + 1) (first_of cells r count))
    remove_now cells' index lt moved others =
        let k = o.counted r count e in
        let first = ap (take (count - 1)) moved ∙ take-moved_up (block_at cells r) index (count - 1) (omega arith) (omega (arith, length-block cells r row_within)) in
        let a : count - 1 + 1 ≡ count = omega arith in
        let b : take index (first_of cells r count) ≡ take index (block_at cells r) = take-take index count (block_at cells r) (omega arith) in
        let f : first_of cells' r (count - 1) ≡ take index (first_of cells r count) ++ drop (index + 1) (first_of cells r count) = first ∙ rw (a, b) refl in
        rows-with_pair cells cells' counts.pairs r (count - 1) (take index (first_of cells r count) ++ drop (index + 1) (first_of cells r count)) o.distinct others f ∙ ap (λ ps. with_pair ps r (take index (first_of cells r count) ++ drop (index + 1) (first_of cells r count))) pairs_now

    -- after the upper half of a full row moved to a new row
    pub cut_now : (cells' : List ℕ) (new : ℕ) → count ≡ 64 → leaf_in counts.pairs new ≡ None → block_at cells' r ≡ take 32 (block_at cells r) ++ take 32 (block_at cells new) → block_at cells' new ≡ drop 32 (block_at cells r) ++ drop 32 (block_at cells new) → ((j : ℕ) → j ≢ r → j ≢ new → block_at cells' j ≡ block_at cells j) → map (cells_of cells') (with_pair (with_pair_after (Some r) (new, 32) counts.pairs) r 32) ≡ with_pair_after (Some r) (new, drop 32 (first_of cells r count)) (with_pair now.pairs r (take 32 (first_of cells r count)))
    cut_now cells' new full none row news others =
        let b : length (block_at cells r) ≡ 64 = length-block cells r row_within in
        let all : first_of cells r count ≡ block_at cells r = take_all count (block_at cells r) (omega arith) in
        let l : length (take 32 (block_at cells r)) ≡ 32 = length-take-le 32 (block_at cells r) (omega arith) in
        let d : length (drop 32 (block_at cells r)) ≡ length (block_at cells r) - 32 = length-drop 32 (block_at cells r) in
        let e1 : first_of cells' r 32 ≡ take 32 (first_of cells r count) = ap (take 32) row ∙ take_at (take 32 (block_at cells r)) (take 32 (block_at cells new)) 32 l ∙ ap (take 32) (sym all) in
        let e2 : first_of cells' new 32 ≡ drop 32 (first_of cells r count) = ap (take 32) news ∙ take_at (drop 32 (block_at cells r)) (drop 32 (block_at cells new)) 32 (omega arith) ∙ ap (drop 32) (sym all) in
        rows-cut cells cells' counts.pairs r new 32 32 (take 32 (first_of cells r count)) (drop 32 (first_of cells r count)) (rw e refl) o.distinct (Lacks-from_leaf_in counts.pairs new none) others e1 e2
        ∙ ap (λ ps. with_pair_after (Some r) (new, drop 32 (first_of cells r count)) (with_pair ps r (take 32 (first_of cells r count)))) pairs_now
