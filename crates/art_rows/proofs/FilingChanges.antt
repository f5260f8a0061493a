-- How a change of one leaf changes the filing.
use Rattle.std.proofs.Common.{◌≡◌, ◌≢◌, ℕ, suc, ◌+◌, ◌*◌, ◌≤◌, List, [], ◌∷◌, ◌++◌, length, map, take, drop, refl, sym, ap, subst, ◌∙◌, Option, Some, None, true, false, inl, inr, arith}
use Rattle.std.specs.Prelude.{IfSome}
use Rattle.std.proofs.lemmas.Bool.Decides.{eqb_tells}
use Rattle.std.proofs.lemmas.List.{length-set}
use Rattle.art_rows.specs.Numbers.{Numbered, Numbers, leaf_in, Has, with_pair_after, without_number, with_pair, Lacks}
use Rattle.art_rows.specs.Rows.{among, numbers, position_at, IsSpot, row_end}
use Rattle.art_rows.specs.Leaves.{with_value, count_before, spot_index}
use Rattle.art_rows.specs.Filing.{filed, Files}
use Rattle.art_slots.specs.Store.{Store, slot_at, used_count, with_record}
use Rattle.art_rows.specs.declared.leaves.Leaf.{Leaf}
use Rattle.art_rows.specs.declared.row.Position.{Position}
use Rattle.art_slots.proofs.CallerLemmas.{with-now, with-others, with-count}
use Rattle.art_rows.proofs.NumbersLemmas.{eqb_same, leaf_in-without_number, AreDistinct-without_number, length-without_number, leaf_in-with_pair, leaf_in-with_now, numbers-with_pair, same_distinct, same_length, Lacks-from_leaf_in, AreDistinct-with_pair_after, leaf_in-with_pair_after, length-with_pair_after, Has-tail}
use Rattle.art_rows.proofs.RowChanges.{PutsIn, puts_in, puts_row, spot-row, TakesOut, takes_one, takes_more, numbers-without}
use Rattle.art_rows.proofs.RowsLemmas.{standing, standing-row}
use Rattle.art_rows.proofs.FilingLemmas.{record_is, in_rows}

-- the numbers, after a pair was placed
numbers-placed : {K V : Type 0} (o : Option ℕ) (x : Numbered (K × V)) (ps : List (Numbered (K × V))) → IfSome o (Has ps) → map (λ p. p.0) (with_pair_after o x ps) ≡ take (spot_index o ps) (map (λ p. p.0) ps) ++ x.0 ∷ drop (spot_index o ps) (map (λ p. p.0) ps)
numbers-placed None x ps h = refl
numbers-placed (Some i) x [] h = absurd (let f : false ≡ true = h in cc)
numbers-placed {K = K} {V = V} (Some i) x (p ∷ ps) h = elim (eqb_tells p.0 i) [
  | inl t ↦ rw t.0 refl
  | inr t ↦ rw t.0 (ap (λ l. p.0 ∷ l) (numbers-placed (Some i) x ps (Has-tail p ps i t.1 h)) ∙ step p.0 (map (λ q. q.0) ps) (count_before ps i))
]
  where
    step : (m : ℕ) (ns : List ℕ) (k : ℕ) → m ∷ (take (k + 1) ns ++ x.0 ∷ drop (k + 1) ns) ≡ take (suc k + 1) (m ∷ ns) ++ x.0 ∷ drop (suc k + 1) (m ∷ ns)
    step m ns k = (let e : suc k + 1 ≡ suc (k + 1) = omega arith in rw e refl)

module _ {K V : Type 0} {leaves : ℕ → Option (Leaf K V)} {rows : List (Numbered (List ℕ))} {count : ℕ} {ps : List (Numbered (K × V))} (f : Files leaves rows count ps) where
  -- if a record is removed, and its number is removed from its row, the others are filed
  pub files_removed : (id : ℕ) → Has ps id → (new : List (Numbered (List ℕ))) → TakesOut rows new (count_before ps id) → (taken : ℕ → Option (Leaf K V)) → taken id ≡ None → ((j : ℕ) → j ≢ id → taken j ≡ leaves j) → (less : ℕ) → less + 1 ≡ count → Files taken new less (without_number ps id)
  files_removed id has new out taken gone rest less one = record {
    distinct = AreDistinct-without_number ps id f.distinct;
    each = λ j. elim (eqb_tells id j) [
      | inl t ↦ subst (λ k. taken k ≡ filed (without_number ps id) k) t.1 (gone ∙ sym (rw (leaf_in-without_number ps id id f.distinct, eqb_same id) refl))
      | inr t ↦ rest j (λ e. t.1 (sym e)) ∙ f.each j ∙ rw (leaf_in-without_number ps id j f.distinct, t.0) refl
    ];
    joined = numbers-without ps id has ∙ ap (λ ns. take (count_before ps id) ns ++ drop (count_before ps id + 1) ns) f.joined ∙ sym out.joined;
    filled = out.filled;
    apart = out.apart;
    counted = (let n = length-without_number ps id has in let c = f.counted in omega arith);
  }

  -- if a record gets another pair, the pairs are filed
  pub files_changed : (i : ℕ) (r : Leaf K V) → leaves i ≡ Some r → (y : K × V) → (changed : ℕ → Option (Leaf K V)) → changed i ≡ Some (record { key = y.0; value = y.1 }) → ((j : ℕ) → j ≢ i → changed j ≡ leaves j) → Files changed rows count (with_pair ps i y)
  files_changed i r was y changed now rest =
      let q = record_is f i r was in
      let has : Has ps i = rw q refl in
      let same : map (λ p. p.0) (with_pair ps i y) ≡ map (λ p. p.0) ps = numbers-with_pair ps i y in
      record {
        distinct = same_distinct ps (with_pair ps i y) (sym same) f.distinct;
        each = λ j. elim (eqb_tells i j) [
          | inl t ↦ subst (λ k. changed k ≡ filed (with_pair ps i y) k) t.1 (rw (now, leaf_in-with_now ps i y has) refl)
          | inr t ↦ rest j (λ e. t.1 (sym e)) ∙ f.each j ∙ rw (leaf_in-with_pair ps i y j, t.0) refl
        ];
        joined = same ∙ f.joined;
        filled = f.filled;
        apart = f.apart;
        counted = f.counted ∙ sym (same_length (with_pair ps i y) ps same);
      }

  -- the number of a leaf is removed from its row
  pub taken_out : (id : ℕ) → Has ps id → (p : Position) → position_at rows (count_before ps id) ≡ Some p → (new : List (Numbered (List ℕ))) → IfSome (leaf_in rows p.row) (λ ids. length ids ≡ 1 → new ≡ without_number rows p.row) → IfSome (leaf_in rows p.row) (λ ids. length ids ≢ 1 → new ≡ with_pair rows p.row (take p.index ids ++ drop (p.index + 1) ids)) → TakesOut rows new (count_before ps id)
  taken_out id has p at new one more =
      let s = standing rows (count_before ps id) p at in
      let r : leaf_in rows p.row ≡ Some s.ids = standing-row rows (count_before ps id) p s f.apart in
      elim (eqb_tells (length s.ids) 1) [
        | inl t ↦ takes_one rows (count_before ps id) p s f.apart f.filled t.1 new ((rw r at one) t.1)
        | inr t ↦ takes_more rows (count_before ps id) p s f.apart f.filled t.1 new ((rw r at more) t.1)
      ]

  -- if a pair is added, and its number is added to the rows, the pairs are filed
  pub files_inserted : (o : Option ℕ) (n : ℕ) (k : K) (v : V) → IfSome o (Has ps) → leaf_in ps n ≡ None → (new : List (Numbered (List ℕ))) → PutsIn rows new (spot_index o ps) n → (made : ℕ → Option (Leaf K V)) → made n ≡ Some (record { key = k; value = v }) → ((j : ℕ) → j ≢ n → made j ≡ leaves j) → (more : ℕ) → more ≡ count + 1 → Files made new more (with_pair_after o (n, (k, v)) ps)
  files_inserted o n k v has fresh new out made now rest more one =
      let l : Lacks ps n = Lacks-from_leaf_in ps n fresh in
      record {
        distinct = AreDistinct-with_pair_after o (n, (k, v)) ps f.distinct l;
        each = λ j. elim (eqb_tells n j) [
          | inl t ↦ subst (λ i. made i ≡ filed (with_pair_after o (n, (k, v)) ps) i) t.1 (now ∙ sym (rw (leaf_in-with_pair_after o (n, (k, v)) ps n has l, eqb_same n) refl))
          | inr t ↦ rest j (λ e. t.1 (sym e)) ∙ f.each j ∙ rw (leaf_in-with_pair_after o (n, (k, v)) ps j has l, t.0) refl
        ];
        joined = numbers-placed o (n, (k, v)) ps has ∙ ap (λ ns. take (spot_index o ps) ns ++ n ∷ drop (spot_index o ps) ns) f.joined ∙ sym out.joined;
        filled = out.filled;
        apart = out.apart;
        counted = (let m = length-with_pair_after o (n, (k, v)) ps has in let c = f.counted in omega arith);
      }

  -- a number that is in no row has no pair
  pub fresh_pair : (n : ℕ) → among (numbers rows) n ≡ false → leaf_in ps n ≡ None
  fresh_pair n off = go (leaf_in ps n) refl
    where
      go : (o : Option (K × V)) → leaf_in ps n ≡ o → o ≡ None
      go None e = refl
      go (Some x) e = absurd (let a : true ≡ false = sym (in_rows f n (rw e refl)) ∙ off in cc)

  module _ (o : Option ℕ) (has : IfSome o (Has ps)) (n : ℕ) (none : leaf_in ps n ≡ None) (k : K) (v : V) where
    -- if a pair is added, with its number in an existing row, the pairs are filed
    pub files_put : (p : Position) → IsSpot rows p (spot_index o ps) → (new : List (Numbered (List ℕ))) → IfSome (leaf_in rows p.row) (λ ids. new ≡ with_pair rows p.row (take p.index ids ++ n ∷ drop p.index ids)) → (made : ℕ → Option (Leaf K V)) → made n ≡ Some (record { key = k; value = v }) → ((j : ℕ) → j ≢ n → made j ≡ leaves j) → (more : ℕ) → more ≡ count + 1 → Files made new more (with_pair_after o (n, (k, v)) ps)
    files_put p s new put made there rest more one =
        let e : new ≡ with_pair rows p.row (take p.index s.ids ++ n ∷ drop p.index s.ids) = rw (spot-row rows (spot_index o ps) p s f.apart) at put in
        files_inserted o n k v has none new (puts_in rows (spot_index o ps) p s f.apart f.filled n new e) made there rest more one

    -- if a pair is added, with its number in a new row, the pairs are filed
    pub files_begun : (b : Option ℕ) → IfSome b (Has rows) → spot_index o ps ≡ row_end b rows → (r : ℕ) → leaf_in rows r ≡ None → (new : List (Numbered (List ℕ))) → new ≡ with_pair_after b (r, n ∷ []) rows → (made : ℕ → Option (Leaf K V)) → made n ≡ Some (record { key = k; value = v }) → ((j : ℕ) → j ≢ n → made j ≡ leaves j) → (more : ℕ) → more ≡ count + 1 → Files made new more (with_pair_after o (n, (k, v)) ps)
    files_begun b h index r fresh new e made there rest more one =
        files_inserted o n k v has none new (subst (λ j. PutsIn rows new j n) (sym index) (puts_row r n b rows new f.apart f.filled h fresh e)) made there rest more one

-- if a record of a store gets another pair, the pairs are filed
pub files_changed_at : {K V : Type 0} {rows : List (Numbered (List ℕ))} {ps : List (Numbered (K × V))} (s : Store (Leaf K V)) → Files (slot_at s) rows (used_count s) ps → (id n : ℕ) → n ≡ id → (r : Leaf K V) → slot_at s n ≡ Some r → (k : K) (v : V) (x : Leaf K V) → x ≡ record { key = k; value = v } → Files (slot_at (with_record s n x)) rows (used_count (with_record s n x)) (with_pair ps id (k, v))
files_changed_at {K = K} {V = V} s f id n is r was k v x e =
    let y : Leaf K V = record { key = k; value = v } in
    let now : slot_at (with_record s n x) id ≡ Some y = subst (λ m. slot_at (with_record s n x) m ≡ Some y) is (with-now s n r x was ∙ ap Some e) in
    let rest : (j : ℕ) → j ≢ id → slot_at (with_record s n x) j ≡ slot_at s j = λ j ne. with-others s n r x was j (λ d. ne (d ∙ is)) in
    rw (with-count s n r x was) (files_changed f id r (rw is at was) (k, v) (slot_at (with_record s n x)) now rest)

-- if a record changes, there are still enough cells for the rows
pub cells_changed : {K V : Type 0} (s : Store (Leaf K V)) (rows : Numbers (List ℕ)) (n : ℕ) (x : Leaf K V) → 64 * rows.top ≤ length s.slots → 64 * rows.top ≤ length (with_record s n x).slots
cells_changed s rows n x h = (let e = length-set s.slots n (Some x) in omega arith)

-- to set the value under a number is to set the pair with the same key
pub with_value-pair : {K V : Type 0} (ps : List (Numbered (K × V))) (i : ℕ) (k : K) (w v : V) → leaf_in ps i ≡ Some (k, w) → with_value ps i v ≡ with_pair ps i (k, v)
with_value-pair [] i k w v e = refl
with_value-pair (p ∷ ps) i k w v e = elim (eqb_tells p.0 i) [
  | inl t ↦ (let f : Some p.1 ≡ Some (k, w) = rw t.0 at e in let g : p.1 ≡ (k, w) = cc in rw t.0 (same p ps k w v g))
  | inr t ↦ rw t.0 (ap (λ qs. p ∷ qs) (with_value-pair ps i k w v (rw t.0 at e)))
]
  where
    same : {A B : Type 0} (p : Numbered (A × B)) (ps : List (Numbered (A × B))) (k : A) (w v : B) → p.1 ≡ (k, w) → (p.0, (p.1.0, v)) ∷ ps ≡ (p.0, (k, v)) ∷ ps
    same p ps k w v g = rw g refl
