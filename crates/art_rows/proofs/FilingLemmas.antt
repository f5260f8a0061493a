-- What holds of leaf records and the rows in which they are filed.
use Rattle.std.proofs.Common.{◌≡◌, ℕ, suc, ◌+◌, ◌-◌, ◌<◌, ◌≤◌, List, [], ◌∷◌, length, map, refl, sym, ap, subst, ◌∙◌, Option, Some, None, IsSome, true, false, eqb, inl, inr, arith}
use Rattle.std.specs.Prelude.{option_map, IfSome}
use Rattle.std.proofs.lemmas.List.{length-map}
use Rattle.art_rows.specs.Numbers.{Numbered, leaf_in, Has, last_number, number_after, number_before, Lacks, AreDistinct}
use Rattle.art_rows.specs.Rows.{among, index_in, nth, numbers, row_with, position_at, start_of}
use Rattle.art_rows.specs.Leaves.{Leaves, count_before}
use Rattle.art_rows.specs.Filing.{gather, Files, pairs_in, AllFiled, AllPlaced, content}
use Rattle.art_slots.specs.Store.{Store, slot_at, used_count}
use Rattle.art_rows.specs.declared.leaves.Leaf.{Leaf}
use Rattle.art_rows.specs.declared.leaves.Leaves.TheInside.{Inside}
use Rattle.art_rows.specs.declared.row.Position.{Position}
use Rattle.art_rows.proofs.NumbersLemmas.{eqb_same, eqb_other, has_other, split, leaf_in-split, no_last}
use Rattle.art_rows.proofs.RowsLemmas.{among-numbers, number_after-nth, number_before-first, number_before-nth, before_cases, nth-within, index_in-within, index_in-nth, position-split, position-here, found, standing, standing-row, standing-number, standing-within, standing-after, standing-earlier, standing-first, standing-not_first, standing-row_end, end_of, position-none, position-last, filled-row}

-- if P implies Q, then `IfSome o P` implies `IfSome o Q`
pub if_some : {A : Type 0} (o : Option A) (P Q : A → Type 0) → ((x : A) → P x → Q x) → IfSome o P → IfSome o Q
if_some None P Q f h = h
if_some (Some x) P Q f h = f x h

module _ {K V : Type 0} (leaves : ℕ → Option (Leaf K V)) where
  -- each pair has its record
  abbrev HasRecords : List (Numbered (K × V)) → Type 0
  HasRecords ps = (i : ℕ) → Has ps i → (x : Leaf K V) × (leaves i ≡ Some x) × (leaf_in ps i ≡ Some (x.key, x.value))

  -- the same for the pairs after the first
  HasRecords-tail : (p : Numbered (K × V)) (ps : List (Numbered (K × V))) → Lacks ps p.0 → HasRecords (p ∷ ps) → HasRecords ps
  HasRecords-tail p ps l h i has =
      let n : eqb p.0 i ≡ false = eqb_other p.0 i (λ e. has_other ps i p.0 has l (sym e)) in
      let g : Has (p ∷ ps) i = rw n has in
      let y = h i g in
      (y.0, y.1, rw n at y.2)

  -- the pairs of the records, in the order of the numbers, are the pairs
  gather_records : (ps : List (Numbered (K × V))) → AreDistinct ps → HasRecords ps → gather leaves (map (λ p. p.0) ps) ≡ ps
  gather_records [] d h = refl
  gather_records (p ∷ ps) d h =
      let s : eqb p.0 p.0 ≡ true = eqb_same p.0 in
      let g : Has (p ∷ ps) p.0 = rw s refl in
      let y = h p.0 g in
      let e : Some p.1 ≡ Some (y.0.key, y.0.value) = rw s at y.2 in
      let v : (y.0.key, y.0.value) ≡ p.1 = cc in
      rw (y.1, gather_records ps d.1 (HasRecords-tail p ps d.0 h), v) refl

module _ {K V : Type 0} {leaves : ℕ → Option (Leaf K V)} {rows : List (Numbered (List ℕ))} {count : ℕ} {ps : List (Numbered (K × V))} (f : Files leaves rows count ps) where
  -- each pair has its record
  has_records : (i : ℕ) → Has ps i → (x : Leaf K V) × (leaves i ≡ Some x) × (leaf_in ps i ≡ Some (x.key, x.value))
  has_records i h = go (leaf_in ps i) refl h
    where
      go : (o : Option (K × V)) → leaf_in ps i ≡ o → IsSome o → (x : Leaf K V) × (leaves i ≡ Some x) × (leaf_in ps i ≡ Some (x.key, x.value))
      go None e s = absurd (let f : false ≡ true = s in cc)
      go (Some x) e s = (record { key = x.0; value = x.1 }, f.each i ∙ ap (option_map (λ (x : K × V). record { key = x.0; value = x.1 })) e, e)

  -- the pairs of the records, in the order of the rows, are the pairs
  pub gather-filed : gather leaves (numbers rows) ≡ ps
  gather-filed = rw (← f.joined) (gather_records leaves ps f.distinct has_records)

  -- each number of the list has a record
  pub has_record : (i : ℕ) → Has ps i → IsSome (leaves i)
  has_record i h = rw (has_records i h).1 refl

  -- each number of the list is in the rows
  pub in_rows : (i : ℕ) → Has ps i → among (numbers rows) i ≡ true
  in_rows i h = rw (← f.joined) (among-numbers ps i h)

  -- the record of a number has the pair of the number
  pub record_is : (i : ℕ) (x : Leaf K V) → leaves i ≡ Some x → leaf_in ps i ≡ Some (x.key, x.value)
  record_is i x e = go (leaf_in ps i) refl
    where
      go : (o : Option (K × V)) → leaf_in ps i ≡ o → leaf_in ps i ≡ Some (x.key, x.value)
      go None g = (let h : Some x ≡ None = sym e ∙ f.each i ∙ rw g refl in absurd (cc))
      go (Some y) g =
          let r : Leaf K V = record { key = y.0; value = y.1 } in
          let h : Some x ≡ Some r = sym e ∙ f.each i ∙ rw g refl in
          let k : x ≡ r = cc in
          rw k g

  -- a number with no pair has no record
  pub no_pair : (i : ℕ) → leaf_in ps i ≡ None → leaves i ≡ None
  no_pair i e = f.each i ∙ ap (option_map (λ (x : K × V). record { key = x.0; value = x.1 })) e

  -- a number with no record has no pair
  pub no_record : (i : ℕ) → leaves i ≡ None → leaf_in ps i ≡ None
  no_record i e = go (leaf_in ps i) refl
    where
      go : (o : Option (K × V)) → leaf_in ps i ≡ o → leaf_in ps i ≡ None
      go None g = g
      go (Some y) g =
          let r : Leaf K V = record { key = y.0; value = y.1 } in
          let h : None ≡ Some r = sym e ∙ f.each i ∙ rw g refl in
          absurd (cc)

module _ {K V : Type 0} where
  -- the pairs that a contract sees are filed
  pub seen : {c : Leaves K V} (i : Inside K V) → content i.records i.rows ≡ c → AllPlaced i.records i.rows →
      Files (slot_at i.records) i.rows.pairs (used_count i.records) c.pairs
  seen i e f = subst (λ (d : Leaves K V). Files (slot_at i.records) i.rows.pairs (used_count i.records) d.pairs) e f.0

  -- the pairs that a contract sees are filed in the rows that it sees
  pub seen_rows : {c : Leaves K V} (i : Inside K V) → content i.records i.rows ≡ c → AllPlaced i.records i.rows →
      Files (slot_at i.records) c.rows (used_count i.records) c.pairs
  seen_rows i e f = subst (λ (d : Leaves K V). Files (slot_at i.records) d.rows (used_count i.records) d.pairs) e f.0

module _ {K V : Type 0} (s : Store (Leaf K V)) {rows : List (Numbered (List ℕ))} {ps : List (Numbered (K × V))} (f : Files (slot_at s) rows (used_count s) ps) where
  -- filed pairs are the pairs that a contract sees
  pub pairs_are : pairs_in s rows ≡ ps
  pairs_are = gather-filed f

  -- if the pairs are filed, the invariant holds
  pub all_filed : AllFiled s rows
  all_filed = subst (λ qs. Files (slot_at s) rows (used_count s) qs) (sym pairs_are) f

module _ {K V : Type 0} {leaves : ℕ → Option (Leaf K V)} {rows : List (Numbered (List ℕ))} {count : ℕ} {ps : List (Numbered (K × V))} (f : Files leaves rows count ps) where
  -- the row that has a number exists
  pub row_has : (i : ℕ) → Has ps i → Has rows (row_with rows i)
  row_has i h = rw (found rows i f.apart (in_rows f i h)).row refl

  -- the position of a number is its row, and its index in that row
  pub located : (i : ℕ) → Has ps i → (ids : List ℕ) → leaf_in rows (row_with rows i) ≡ Some ids → position_at rows (count_before ps i) ≡ Some (record { row = row_with rows i; index = index_in ids i })
  located i h ids g =
      let s = found rows i f.apart (in_rows f i h) in
      let a : Some ids ≡ Some s.ids = sym g ∙ s.row in
      let b : ids ≡ s.ids = cc in
      rw (b, f.joined) s.position

  -- a number is in its row
  pub in_own_row : (i : ℕ) → Has ps i → (ids : List ℕ) → leaf_in rows (row_with rows i) ≡ Some ids → among ids i ≡ true
  in_own_row i h ids g =
      let s = found rows i f.apart (in_rows f i h) in
      let a : Some ids ≡ Some s.ids = sym g ∙ s.row in
      let b : ids ≡ s.ids = cc in
      rw b s.inside

  module _ (k : ℕ) (p : Position) (at : position_at rows k ≡ Some p) where
    -- the row of a position exists
    pub row_at : (leaf_in rows p.row ≡ Some (standing rows k p at).ids)
    row_at = standing-row rows k p (standing rows k p at) f.apart

    pub has_row_at : Has rows p.row
    has_row_at = rw row_at refl

    pub if_row_at : IfSome (leaf_in rows p.row) (λ ids. p.index < length ids)
    if_row_at = rw row_at (standing rows k p at).within

    -- the index of a position is less than the length of its row
    pub index_at : (ids : List ℕ) → leaf_in rows p.row ≡ Some ids → p.index < length ids
    index_at ids g =
        let a : Some ids ≡ Some (standing rows k p at).ids = sym g ∙ row_at in
        let b : ids ≡ (standing rows k p at).ids = cc in
        rw b (standing rows k p at).within

    -- the number at a position is the number at the index in its row
    pub number_there : (ids : List ℕ) → leaf_in rows p.row ≡ Some ids → nth (map (λ q. q.0) ps) k ≡ nth ids p.index
    number_there ids g =
        let a : Some ids ≡ Some (standing rows k p at).ids = sym g ∙ row_at in
        let b : ids ≡ (standing rows k p at).ids = cc in
        rw (f.joined, b) (standing-number rows k p (standing rows k p at))

    -- the row of a position has these numbers
    pub same_ids : (ids : List ℕ) → leaf_in rows p.row ≡ Some ids → (standing rows k p at).ids ≡ ids
    same_ids ids g = (let a : Some ids ≡ Some (standing rows k p at).ids = sym g ∙ row_at in cc)

    -- the next position is the next index in the row, if there is one
    pub forward_within : (ids : List ℕ) → leaf_in rows p.row ≡ Some ids → p.index + 1 < length ids → position_at rows (k + 1) ≡ Some (record { row = p.row; index = p.index + 1 })
    forward_within ids g w = standing-within rows k p (standing rows k p at) (rw (same_ids ids g) w)

    -- if there is none, the next position is the start of the next row
    pub forward_after : (ids : List ℕ) → leaf_in rows p.row ≡ Some ids → length ids ≤ p.index + 1 → position_at rows (k + 1) ≡ option_map start_of (number_after rows p.row)
    forward_after ids g w = standing-after rows k p (standing rows k p at) f.apart f.filled (rw (same_ids ids g) w)

    -- the position before is the index before in the row, if there is one
    pub backward_within : 0 < p.index → position_at rows (k - 1) ≡ Some (record { row = p.row; index = p.index - 1 })
    backward_within w = standing-earlier rows k p (standing rows k p at) w

    pub not_first_within : 0 < p.index → 0 < k
    not_first_within w = (let i = (standing rows k p at).index in omega arith)

    -- if there is none, the position before is the end of the row before
    pub backward_end : p.index ≤ 0 → (r : ℕ) → number_before rows p.row ≡ Some r → (ids : List ℕ) → leaf_in rows r ≡ Some ids → position_at rows (k - 1) ≡ Some (end_of (length ids) r)
    backward_end z r e ids g = standing-row_end rows k p (standing rows k p at) f.apart f.filled r e (omega arith) ids g

    pub not_first_end : (r : ℕ) → number_before rows p.row ≡ Some r → 0 < k
    not_first_end r e = standing-not_first rows k p (standing rows k p at) f.apart f.filled r e

    -- at the first index of the first row no number comes before
    pub backward_none : p.index ≤ 0 → number_before rows p.row ≡ None → k ≡ 0
    backward_none z e = standing-first rows k p (standing rows k p at) f.apart f.filled (omega arith) e

  -- the position of a leaf is the position at which its number is found
  pub stands_there : (i : ℕ) (p : Position) (ids : List ℕ) → leaf_in rows p.row ≡ Some ids → nth ids p.index ≡ Some i → position_at rows (count_before ps i) ≡ Some p
  stands_there i p ids g e =
      let h : Has rows p.row = rw g refl in
      let s = split rows p.row h in
      let a : Some s.pair ≡ Some ids = sym (leaf_in-split p.row s.pair s.after s.before s.lacks) ∙ sym (ap (λ rs. leaf_in rs p.row) s.is) ∙ g in
      let b : s.pair ≡ ids = cc in
      let w : p.index < length s.pair = rw b (nth-within ids p.index i e) in
      let k : ℕ = length (numbers s.before) + p.index in
      let at : position_at rows k ≡ Some p = ap (λ rs. position_at rs k) s.is ∙ position-split s.before ((p.row, s.pair) ∷ s.after) p.index ∙ position-here p.row s.pair s.after p.index w in
      let n : nth (map (λ q. q.0) ps) k ≡ Some i = number_there k p at ids g ∙ e in
      ap (position_at rows) (index_in-nth ps k i f.distinct n) ∙ at

  -- the number after a leaf in its row is the number of the next leaf
  pub after_there : (i n : ℕ) → Has ps i → (p : Position) (ids : List ℕ) → leaf_in rows p.row ≡ Some ids → nth ids p.index ≡ Some i → nth ids (p.index + 1) ≡ Some n → number_after ps i ≡ Some n
  after_there i n h p ids g e b =
      let k : ℕ = count_before ps i in
      let q : Position = record { row = p.row; index = p.index + 1 } in
      let at : position_at rows (k + 1) ≡ Some q = forward_within k p (stands_there i p ids g e) ids g (nth-within ids (p.index + 1) n b) in
      number_after-nth ps i h ∙ number_there (k + 1) q at ids g ∙ b

  -- the number before a leaf in its row is the number of the leaf before
  pub before_there : (i n : ℕ) → Has ps i → (p : Position) (ids : List ℕ) → leaf_in rows p.row ≡ Some ids → 0 < p.index → nth ids p.index ≡ Some i → nth ids (p.index - 1) ≡ Some n → number_before ps i ≡ Some n
  before_there i n h p ids g w e b =
      let k : ℕ = count_before ps i in
      let s = stands_there i p ids g e in
      let q : Position = record { row = p.row; index = p.index - 1 } in
      let at : position_at rows (k - 1) ≡ Some q = backward_within k p s w in
      let z : 0 < k = not_first_within k p s w in
      let m : k ≡ suc (k - 1) = omega arith in
      number_before-nth None ps i (k - 1) h m ∙ number_there (k - 1) q at ids g ∙ b

  -- if there is no position, there is no number
  pub none_there : (k : ℕ) → position_at rows k ≡ None → nth (map (λ q. q.0) ps) k ≡ None
  none_there k e = rw f.joined (position-none rows k e)

  -- if there is no position before, there is no number before
  pub none_before : (i : ℕ) → Has ps i → (p : Position) (o : Option Position) → ((k : ℕ) → position_at rows (k + 1) ≡ Some p → o ≡ position_at rows k) →
      (position_at rows 0 ≡ Some p → o ≡ None) → position_at rows (count_before ps i) ≡ Some p → o ≡ None → number_before ps i ≡ None
  none_before i has p o before first at is = elim (before_cases rows p o before first (count_before ps i) at) [
    | inl t ↦ number_before-first None ps i has t.0
    | inr t ↦ number_before-nth None ps i t.0 has t.1.0 ∙ none_there t.0 (sym t.1.1 ∙ is)
  ]

  -- the rows have as many numbers as there are pairs
  pub how_many : length (numbers rows) ≡ length ps
  how_many = sym (ap length f.joined) ∙ length-map ps (λ q. q.0)

  -- the index of a position is less than the number of leaves
  pub index_below : (i : ℕ) (p : Position) → Has ps i → position_at rows (count_before ps i) ≡ Some p → p.index < count
  index_below i p h at =
      let k = (standing rows (count_before ps i) p at).index in
      let w : count_before ps i < length (map (λ q. q.0) ps) = index_in-within (map (λ q. q.0) ps) i (among-numbers ps i h) in
      let n : length (map (λ q. q.0) ps) ≡ length ps = length-map ps (λ q. q.0) in
      let c = f.counted in
      omega arith

  -- each row has a number
  pub row_filled : (r : ℕ) (ids : List ℕ) → leaf_in rows r ≡ Some ids → 0 < length ids
  row_filled r ids e = filled-row rows f.filled r ids e

  -- the last position is the end of the last row
  pub last_there : (r : ℕ) (ids : List ℕ) → last_number rows ≡ Some r → leaf_in rows r ≡ Some ids → position_at rows (length ps - 1) ≡ Some (end_of (length ids) r)
  last_there r ids e g = rw (← how_many) (position-last rows f.apart f.filled r ids e g)

  -- if there is no last row, there is no last position
  pub last_none : last_number rows ≡ None → position_at rows (length ps - 1) ≡ None
  last_none e = ap (λ rs. position_at rs (length ps - 1)) (no_last rows e)
