-- What holds of lists of numbered pairs.
use Rattle.std.proofs.Common.{◌≡◌, ◌≢◌, ℕ, ◌+◌, List, [], ◌∷◌, ◌++◌, length, map, refl, sym, ap, subst, ◌∙◌, Option, Some, None, IsSome, true, false, cond, eqb, inl, inr, arith}
use Rattle.std.specs.Prelude.{option_map, IfSome}
use Rattle.std.specs.Option.{option_or}
use Rattle.std.proofs.lemmas.Bool.Decides.{eqb_tells}
use Rattle.art_rows.specs.Numbers.{Numbered, leaf_in, Has, first_number, last_number, number_after, number_before, number_before_from, next_number, with_pair_after, without_number, with_pair, Lacks, AreDistinct, OthersStand}
use Rattle.art_rows.specs.Links.{is_at, end_with}

-- ---- tests on numbers

-- `eqb` is true for a number and itself
pub eqb_same : (i : ℕ) → eqb i i ≡ true
eqb_same i = elim (eqb_tells i i) [ inl e ↦ e.0 | inr e ↦ absurd (e.1 refl) ]

-- `eqb` is false for two different numbers
pub eqb_other : (i j : ℕ) → i ≢ j → eqb i j ≡ false
eqb_other i j n = elim (eqb_tells i j) [ inl e ↦ absurd (n e.1) | inr e ↦ e.0 ]

-- `option_or` with no alternative is the option itself
option_or-none : {X : Type 0} (o : Option X) → option_or o None ≡ o
option_or-none None = refl
option_or-none (Some x) = refl

-- after an alternative that is there, a further alternative is not used
option_or-some : {X : Type 0} (o b : Option X) (a : X) → option_or (option_or o (Some a)) b ≡ option_or o (Some a)
option_or-some None b a = refl
option_or-some (Some x) b a = refl

-- an alternative may be added before an end is changed, or after
option_or-end : (o : Option ℕ) (x a : ℕ) (l : Option ℕ) → option_or (end_with o (Some x) l) (Some a) ≡ end_with o (Some x) (option_or l (Some a))
option_or-end None x a l = refl
option_or-end (Some i) x a l = refl

-- `option_or` is associative
option_or-assoc : {X : Type 0} (a b c : Option X) → option_or (option_or a b) c ≡ option_or a (option_or b c)
option_or-assoc None b c = refl
option_or-assoc (Some x) b c = refl

-- two tests for different numbers may be exchanged
swapped : {X : Type 0} (a b j : ℕ) (x y z : X) → a ≢ b → cond (eqb a j) x (cond (eqb b j) y z) ≡ cond (eqb b j) y (cond (eqb a j) x z)
swapped a b j x y z n = elim (eqb_tells a j) [
  | inl t ↦ rw (t.0, eqb_other b j (λ e. n (t.1 ∙ sym e))) refl
  | inr t ↦ rw t.0 refl
]

module _ {X : Type 0} where
  -- ---- which numbers there are

  -- there is no item under a number that no pair has
  pub leaf_in_lacking : (ps : List (Numbered X)) (i : ℕ) → Lacks ps i → leaf_in ps i ≡ None
  leaf_in_lacking [] i l = refl
  leaf_in_lacking (p ∷ ps) i l = rw (eqb_other p.0 i l.0) (leaf_in_lacking ps i l.1)

  -- if there is no item under a number, no pair has it
  pub Lacks-from_leaf_in : (ps : List (Numbered X)) (i : ℕ) → leaf_in ps i ≡ None → Lacks ps i
  Lacks-from_leaf_in [] i e = tt
  Lacks-from_leaf_in (p ∷ ps) i e = elim (eqb_tells p.0 i) [
    | inl t ↦ (let f : Some p.1 ≡ None = rw t.0 at e in cc)
    | inr t ↦ (t.1, Lacks-from_leaf_in ps i (rw t.0 at e))
  ]

  -- if there is an item under a number, some pair has it
  pub has_not_lacks : (ps : List (Numbered X)) (i : ℕ) → Has ps i → Lacks ps i → ⊥
  has_not_lacks ps i h l = (let f : false ≡ true = subst (λ (o : Option X). IsSome o) (leaf_in_lacking ps i l) h in cc)

  -- a number that the list has differs from a number that it lacks
  pub has_other : (ps : List (Numbered X)) (i j : ℕ) → Has ps i → Lacks ps j → i ≢ j
  has_other ps i j h l e = has_not_lacks ps i h (subst (λ k. Lacks ps k) (sym e) l)

  -- a number of the list that is not the first is a number of the other pairs
  pub Has-tail : (p : Numbered X) (ps : List (Numbered X)) (i : ℕ) → p.0 ≢ i → Has (p ∷ ps) i → Has ps i
  Has-tail p ps i n h = rw (eqb_other p.0 i n) at h

  -- a number that no pair has is not the first
  pub is_at-first : (ps : List (Numbered X)) (j : ℕ) → Lacks ps j → is_at (first_number ps) j ≡ false
  is_at-first [] j l = refl
  is_at-first (p ∷ ps) j l = eqb_other p.0 j l.0

  -- a number that no pair has is not after another
  pub is_at-after : (ps : List (Numbered X)) (i j : ℕ) → Lacks ps j → is_at (number_after ps i) j ≡ false
  is_at-after [] i j l = refl
  is_at-after (p ∷ ps) i j l = elim (eqb_tells p.0 i) [
    | inl t ↦ rw t.0 (is_at-first ps j l.1)
    | inr t ↦ rw t.0 (is_at-after ps i j l.1)
  ]

  -- a number that no pair has is not the next number
  pub is_at-next_number : (o : Option ℕ) (ps : List (Numbered X)) (j : ℕ) → Lacks ps j → is_at (next_number o ps) j ≡ false
  is_at-next_number None ps j l = is_at-first ps j l
  is_at-next_number (Some i) ps j l = is_at-after ps i j l

  -- a number that no pair has is not a number of the list
  pub is_at-has : (o : Option ℕ) (ps : List (Numbered X)) (j : ℕ) → IfSome o (Has ps) → Lacks ps j → is_at o j ≡ false
  is_at-has None ps j h l = refl
  is_at-has (Some i) ps j h l = eqb_other i j (has_other ps i j h l)

  -- ---- the list split at a number

  -- the pairs before the pair of a number, that pair, and the pairs after it
  pub record Split (ps : List (Numbered X)) (i : ℕ) : Type 0 where
    pub before : List (Numbered X)
    pub pair : X
    pub after : List (Numbered X)
    pub is : ps ≡ before ++ (i, pair) ∷ after
    pub lacks : Lacks before i

  -- a list that has a number splits there
  pub split : (ps : List (Numbered X)) (i : ℕ) → Has ps i → Split ps i
  split [] i h = absurd (let f : false ≡ true = h in cc)
  split (p ∷ ps) i h = elim (eqb_tells p.0 i) [
    | inl t ↦ record { before = []; pair = p.1; after = ps; is = ap (λ k. (k, p.1) ∷ ps) t.1; lacks = tt }
    | inr t ↦
        let s = split ps i (Has-tail p ps i t.1 h) in
        record { before = p ∷ s.before; pair = s.pair; after = s.after; is = ap (λ l. p ∷ l) s.is; lacks = (t.1, s.lacks) }
  ]

  -- a number that the list lacks is in neither part, and is not the number between them
  pub Lacks-parts : (before after : List (Numbered X)) (p : Numbered X) (i : ℕ) → Lacks (before ++ p ∷ after) i → Lacks before i × (p.0 ≢ i) × Lacks after i
  Lacks-parts [] after p i l = (tt, l.0, l.1)
  Lacks-parts (q ∷ before) after p i l = let r = Lacks-parts before after p i l.1 in ((l.0, r.0), r.1, r.2)

  -- if the numbers are distinct, the number at the split is in neither part
  pub distinct_parts : (before after : List (Numbered X)) (p : Numbered X) → AreDistinct (before ++ p ∷ after) → Lacks before p.0 × Lacks after p.0
  distinct_parts [] after p d = (tt, d.0)
  distinct_parts (q ∷ before) after p d =
      let r = distinct_parts before after p d.1 in
      ((λ e. (Lacks-parts before after p q.0 d.0).1 (sym e), r.0), r.1)

  -- the last number of a list that is not empty
  pub last_number-cons : (p : Numbered X) (ps : List (Numbered X)) → last_number (p ∷ ps) ≡ option_or (last_number ps) (Some p.0)
  last_number-cons p [] = refl
  last_number-cons p (q ∷ ps) = rw (last_number-cons q ps) (sym (option_or-some (last_number ps) (Some p.0) q.0))

  module _ (i : ℕ) (x : X) (after : List (Numbered X)) where
    -- the item under the number at the split is the item there
    pub leaf_in-split : (before : List (Numbered X)) → Lacks before i → leaf_in (before ++ (i, x) ∷ after) i ≡ Some x
    leaf_in-split [] l = rw (eqb_same i) refl
    leaf_in-split (q ∷ before) l = rw (eqb_other q.0 i l.0) (leaf_in-split before l.1)

    -- the number after the split is the first number of the second part
    pub number_after-split : (before : List (Numbered X)) → Lacks before i → number_after (before ++ (i, x) ∷ after) i ≡ first_number after
    number_after-split [] l = rw (eqb_same i) refl
    number_after-split (q ∷ before) l = rw (eqb_other q.0 i l.0) (number_after-split before l.1)

    -- the number before the split is the last number of the first part, or else the start
    number_before_from-split : (b : Option ℕ) (before : List (Numbered X)) → Lacks before i → number_before_from b (before ++ (i, x) ∷ after) i ≡ option_or (last_number before) b
    number_before_from-split b [] l = rw (eqb_same i) refl
    number_before_from-split b (q ∷ before) l = rw (eqb_other q.0 i l.0, last_number-cons q before, option_or-some (last_number before) b q.0) (number_before_from-split (Some q.0) before l.1)

    -- the number before the split is the last number of the first part
    pub number_before-split : (before : List (Numbered X)) → Lacks before i → number_before (before ++ (i, x) ∷ after) i ≡ last_number before
    number_before-split before l = number_before_from-split None before l ∙ option_or-none (last_number before)

    -- another pair is placed after the pair at the split
    pub with_pair_after-split : (y : Numbered X) (before : List (Numbered X)) → Lacks before i → with_pair_after (Some i) y (before ++ (i, x) ∷ after) ≡ before ++ (i, x) ∷ y ∷ after
    with_pair_after-split y [] l = rw (eqb_same i) refl
    with_pair_after-split y (q ∷ before) l = rw (eqb_other q.0 i l.0) (ap (λ s. q ∷ s) (with_pair_after-split y before l.1))

    -- without the pair at the split the two parts remain
    pub without_number-split : (before : List (Numbered X)) → Lacks before i → without_number (before ++ (i, x) ∷ after) i ≡ before ++ after
    without_number-split [] l = rw (eqb_same i) refl
    without_number-split (q ∷ before) l = rw (eqb_other q.0 i l.0) (ap (λ s. q ∷ s) (without_number-split before l.1))

    -- the pairs with another item at the split
    pub with_pair-split : (y : X) (before : List (Numbered X)) → Lacks before i → with_pair (before ++ (i, x) ∷ after) i y ≡ before ++ (i, y) ∷ after
    with_pair-split y [] l = rw (eqb_same i) refl
    with_pair-split y (q ∷ before) l = rw (eqb_other q.0 i l.0) (ap (λ s. q ∷ s) (with_pair-split y before l.1))

  -- ---- one more pair

  -- the item under each number, after a pair was placed
  pub leaf_in-with_pair_after : (o : Option ℕ) (x : Numbered X) (ps : List (Numbered X)) (j : ℕ) → IfSome o (Has ps) → Lacks ps x.0 → leaf_in (with_pair_after o x ps) j ≡ cond (eqb x.0 j) (Some x.1) (leaf_in ps j)
  leaf_in-with_pair_after None x ps j h l = refl
  leaf_in-with_pair_after (Some i) x [] j h l = absurd (let f : false ≡ true = h in cc)
  leaf_in-with_pair_after (Some i) x (p ∷ ps) j h l = elim (eqb_tells p.0 i) [
    | inl t ↦ rw t.0 (swapped p.0 x.0 j (Some p.1) (Some x.1) (leaf_in ps j) l.0)
    | inr t ↦ rw (t.0, leaf_in-with_pair_after (Some i) x ps j (Has-tail p ps i t.1 h) l.1) (swapped p.0 x.0 j (Some p.1) (Some x.1) (leaf_in ps j) l.0)
  ]

  -- the new item is under its number
  pub leaf_in-placed_now : (o : Option ℕ) (x : Numbered X) (ps : List (Numbered X)) → IfSome o (Has ps) → Lacks ps x.0 → leaf_in (with_pair_after o x ps) x.0 ≡ Some x.1
  leaf_in-placed_now o x ps h l = leaf_in-with_pair_after o x ps x.0 h l ∙ rw (eqb_same x.0) refl

  -- the item under each other number is unchanged
  pub others-with_pair_after : (o : Option ℕ) (x : Numbered X) (ps : List (Numbered X)) → IfSome o (Has ps) → Lacks ps x.0 → OthersStand ps (with_pair_after o x ps) x.0
  others-with_pair_after o x ps h l j n = leaf_in-with_pair_after o x ps j h l ∙ rw (eqb_other x.0 j (λ e. n (sym e))) refl

  -- a number that was lacking is still lacking, if it is not the new number
  pub Lacks-with_pair_after : (o : Option ℕ) (x : Numbered X) (ps : List (Numbered X)) (j : ℕ) → Lacks ps j → x.0 ≢ j → Lacks (with_pair_after o x ps) j
  Lacks-with_pair_after None x ps j l n = (n, l)
  Lacks-with_pair_after (Some i) x [] j l n = tt
  Lacks-with_pair_after (Some i) x (p ∷ ps) j l n = elim (eqb_tells p.0 i) [
    | inl t ↦ rw t.0 (l.0, (n, l.1))
    | inr t ↦ rw t.0 (l.0, Lacks-with_pair_after (Some i) x ps j l.1 n)
  ]

  -- if the new number is fresh, the numbers are still distinct
  pub AreDistinct-with_pair_after : (o : Option ℕ) (x : Numbered X) (ps : List (Numbered X)) → AreDistinct ps → Lacks ps x.0 → AreDistinct (with_pair_after o x ps)
  AreDistinct-with_pair_after None x ps d l = (l, d)
  AreDistinct-with_pair_after (Some i) x [] d l = tt
  AreDistinct-with_pair_after (Some i) x (p ∷ ps) d l = elim (eqb_tells p.0 i) [
    | inl t ↦ rw t.0 (((λ e. l.0 (sym e)), d.0), (l.1, d.1))
    | inr t ↦ rw t.0 (Lacks-with_pair_after (Some i) x ps p.0 d.0 (λ e. l.0 (sym e)), AreDistinct-with_pair_after (Some i) x ps d.1 l.1)
  ]

  -- there is one more pair
  pub length-with_pair_after : (o : Option ℕ) (x : Numbered X) (ps : List (Numbered X)) → IfSome o (Has ps) → length (with_pair_after o x ps) ≡ length ps + 1
  length-with_pair_after None x ps h = omega arith
  length-with_pair_after (Some i) x [] h = absurd (let f : false ≡ true = h in cc)
  length-with_pair_after (Some i) x (p ∷ ps) h = elim (eqb_tells p.0 i) [
    | inl t ↦ rw t.0 (omega arith)
    | inr t ↦ rw t.0 (omega (arith, length-with_pair_after (Some i) x ps (Has-tail p ps i t.1 h)))
  ]

  -- the first number, after a pair was placed
  pub first_number-with_pair_after : (o : Option ℕ) (x : Numbered X) (ps : List (Numbered X)) → first_number (with_pair_after o x ps) ≡ end_with o (Some x.0) (first_number ps)
  first_number-with_pair_after None x ps = refl
  first_number-with_pair_after (Some i) x [] = refl
  first_number-with_pair_after (Some i) x (p ∷ ps) = elim (eqb_tells p.0 i) [ inl t ↦ rw t.0 refl | inr t ↦ rw t.0 refl ]

  -- the last number, after a pair was placed
  pub last_number-with_pair_after : (o : Option ℕ) (x : Numbered X) (ps : List (Numbered X)) → IfSome o (Has ps) → last_number (with_pair_after o x ps) ≡ end_with (next_number o ps) (Some x.0) (last_number ps)
  last_number-with_pair_after None x [] h = refl
  last_number-with_pair_after None x (p ∷ ps) h = refl
  last_number-with_pair_after (Some i) x [] h = absurd (let f : false ≡ true = h in cc)
  last_number-with_pair_after (Some i) x (p ∷ ps) h = elim (eqb_tells p.0 i) [
    | inl t ↦ rw t.0 (last_number_after p x ps)
    | inr t ↦
        rw t.0
        (last_number-cons p (with_pair_after (Some i) x ps) ∙ ap (λ o. option_or o (Some p.0)) (last_number-with_pair_after (Some i) x ps (Has-tail p ps i t.1 h)) ∙ option_or-end (number_after ps i) x.0 p.0 (last_number ps) ∙ ap (end_with (number_after ps i) (Some x.0)) (sym (last_number-cons p ps)))
  ]
    where
      last_number_after : (p x : Numbered X) (ps : List (Numbered X)) → last_number (x ∷ ps) ≡ end_with (first_number ps) (Some x.0) (last_number (p ∷ ps))
      last_number_after p x [] = refl
      last_number_after p x (q ∷ ps) = refl

  -- the number after each number, after a pair was placed
  pub number_after-with_pair_after : (o : Option ℕ) (x : Numbered X) (ps : List (Numbered X)) (j : ℕ) → IfSome o (Has ps) → Lacks ps x.0 → number_after (with_pair_after o x ps) j ≡ cond (eqb x.0 j) (next_number o ps) (cond (is_at o j) (Some x.0) (number_after ps j))
  number_after-with_pair_after None x ps j h l = refl
  number_after-with_pair_after (Some i) x [] j h l = absurd (let f : false ≡ true = h in cc)
  number_after-with_pair_after (Some i) x (p ∷ ps) j h l = elim (eqb_tells p.0 i) [
    | inl t ↦ rw (t.0, ← t.1) (elim (eqb_tells p.0 j) [
      | inl u ↦ rw (u.0, eqb_other x.0 j (λ e. l.0 (u.1 ∙ sym e))) refl
      | inr u ↦ rw u.0 refl
    ])
    | inr t ↦ rw t.0 (elim (eqb_tells p.0 j) [
      | inl u ↦ rw (u.0, eqb_other x.0 j (λ e. l.0 (u.1 ∙ sym e)), eqb_other i j (λ e. t.1 (u.1 ∙ sym e))) (first_number-with_pair_after (Some i) x ps)
      | inr u ↦ rw u.0 (number_after-with_pair_after (Some i) x ps j (Has-tail p ps i t.1 h) l.1)
    ])
  ]

  -- the number before each number, with another start
  pub number_before_from-start : (a b : Option ℕ) (ps : List (Numbered X)) (j : ℕ) → number_before_from a ps j ≡ cond (is_at (first_number ps) j) a (number_before_from b ps j)
  number_before_from-start a b [] j = refl
  number_before_from-start a b (p ∷ ps) j = elim (eqb_tells p.0 j) [ inl t ↦ rw t.0 refl | inr t ↦ rw t.0 refl ]

  -- no number is before a number that no pair has
  pub number_before-lacking : (b : Option ℕ) (ps : List (Numbered X)) (j : ℕ) → Lacks ps j → number_before_from b ps j ≡ None
  number_before-lacking b [] j l = refl
  number_before-lacking b (p ∷ ps) j l = rw (eqb_other p.0 j l.0) (number_before-lacking (Some p.0) ps j l.1)

  -- no number is after a number that no pair has
  pub number_after-lacking : (ps : List (Numbered X)) (j : ℕ) → Lacks ps j → number_after ps j ≡ None
  number_after-lacking [] j l = refl
  number_after-lacking (p ∷ ps) j l = rw (eqb_other p.0 j l.0) (number_after-lacking ps j l.1)

  -- the number before each number, from a start on, after a pair was placed after a number
  before_placed : (b : Option ℕ) (i : ℕ) (x : Numbered X) (ps : List (Numbered X)) (j : ℕ) → Has ps i → Lacks ps x.0 → AreDistinct ps → number_before_from b (with_pair_after (Some i) x ps) j ≡ cond (eqb x.0 j) (Some i) (cond (is_at (number_after ps i) j) (Some x.0) (number_before_from b ps j))
  before_placed b i x [] j h l d = absurd (let f : false ≡ true = h in cc)
  before_placed b i x (p ∷ ps) j h l d = elim (eqb_tells p.0 i) [
    | inl t ↦ rw (t.0, ← t.1) (elim (eqb_tells p.0 j) [
      | inl u ↦ (let m : Lacks ps j = subst (λ k. Lacks ps k) u.1 d.0 in rw (u.0, eqb_other x.0 j (λ e. l.0 (u.1 ∙ sym e)), is_at-first ps j m) refl)
      | inr u ↦ rw u.0 (ap (cond (eqb x.0 j) (Some p.0)) (number_before_from-start (Some x.0) (Some p.0) ps j))
    ])
    | inr t ↦ rw t.0 (elim (eqb_tells p.0 j) [
      | inl u ↦ (let m : Lacks ps j = subst (λ k. Lacks ps k) u.1 d.0 in rw (u.0, eqb_other x.0 j (λ e. l.0 (u.1 ∙ sym e)), is_at-after ps i j m) refl)
      | inr u ↦ rw u.0 (before_placed (Some p.0) i x ps j (Has-tail p ps i t.1 h) l.1 d.1)
    ])
  ]

  -- the number before each number, after a pair was placed
  pub number_before-with_pair_after : (o : Option ℕ) (x : Numbered X) (ps : List (Numbered X)) (j : ℕ) → IfSome o (Has ps) → Lacks ps x.0 → AreDistinct ps → number_before (with_pair_after o x ps) j ≡ cond (eqb x.0 j) o (cond (is_at (next_number o ps) j) (Some x.0) (number_before ps j))
  number_before-with_pair_after None x ps j h l d = ap (cond (eqb x.0 j) None) (number_before_from-start (Some x.0) None ps j)
  number_before-with_pair_after (Some i) x ps j h l d = before_placed None i x ps j h l d

  -- ---- one pair less

  -- the item under each number, after a pair was removed
  pub leaf_in-without_number : (ps : List (Numbered X)) (i j : ℕ) → AreDistinct ps → leaf_in (without_number ps i) j ≡ cond (eqb i j) None (leaf_in ps j)
  leaf_in-without_number [] i j d = elim (eqb_tells i j) [ inl t ↦ rw t.0 refl | inr t ↦ rw t.0 refl ]
  leaf_in-without_number (p ∷ ps) i j d = elim (eqb_tells p.0 i) [
    | inl t ↦ rw (t.0, ← t.1) (elim (eqb_tells p.0 j) [
      | inl u ↦ (let m : Lacks ps j = subst (λ k. Lacks ps k) u.1 d.0 in rw u.0 (leaf_in_lacking ps j m))
      | inr u ↦ rw u.0 refl
    ])
    | inr t ↦ rw (t.0, leaf_in-without_number ps i j d.1) (swapped p.0 i j (Some p.1) None (leaf_in ps j) t.1)
  ]

  -- the item under each other number is unchanged
  pub others-without_number : (ps : List (Numbered X)) (i : ℕ) → AreDistinct ps → OthersStand ps (without_number ps i) i
  others-without_number ps i d j n = leaf_in-without_number ps i j d ∙ rw (eqb_other i j (λ e. n (sym e))) refl

  -- a number that was lacking is still lacking
  pub Lacks-without_number : (ps : List (Numbered X)) (i j : ℕ) → Lacks ps j → Lacks (without_number ps i) j
  Lacks-without_number [] i j l = tt
  Lacks-without_number (p ∷ ps) i j l = elim (eqb_tells p.0 i) [
    | inl t ↦ rw t.0 l.1
    | inr t ↦ rw t.0 (l.0, Lacks-without_number ps i j l.1)
  ]

  -- no pair has the removed number
  pub Lacks-without_now : (ps : List (Numbered X)) (i : ℕ) → AreDistinct ps → Lacks (without_number ps i) i
  Lacks-without_now ps i d = Lacks-from_leaf_in (without_number ps i) i (leaf_in-without_number ps i i d ∙ rw (eqb_same i) refl)

  -- the numbers are still distinct
  pub AreDistinct-without_number : (ps : List (Numbered X)) (i : ℕ) → AreDistinct ps → AreDistinct (without_number ps i)
  AreDistinct-without_number [] i d = tt
  AreDistinct-without_number (p ∷ ps) i d = elim (eqb_tells p.0 i) [
    | inl t ↦ rw t.0 d.1
    | inr t ↦ rw t.0 (Lacks-without_number ps i p.0 d.0, AreDistinct-without_number ps i d.1)
  ]

  -- there is one pair less
  pub length-without_number : (ps : List (Numbered X)) (i : ℕ) → Has ps i → length (without_number ps i) + 1 ≡ length ps
  length-without_number [] i h = absurd (let f : false ≡ true = h in cc)
  length-without_number (p ∷ ps) i h = elim (eqb_tells p.0 i) [
    | inl t ↦ rw t.0 (omega arith)
    | inr t ↦ rw t.0 (omega (arith, length-without_number ps i (Has-tail p ps i t.1 h)))
  ]

  -- with a start, there is a number before each number
  before_is_some : (a : ℕ) (ps : List (Numbered X)) (i : ℕ) → Has ps i → (b : ℕ) × (number_before_from (Some a) ps i ≡ Some b)
  before_is_some a [] i h = absurd (let f : false ≡ true = h in cc)
  before_is_some a (p ∷ ps) i h = elim (eqb_tells p.0 i) [
    | inl t ↦ (a, rw t.0 refl)
    | inr t ↦ (let r = before_is_some p.0 ps i (Has-tail p ps i t.1 h) in (r.0, rw t.0 r.1))
  ]

  -- the first number, after a pair was removed
  pub first_number-without_number : (ps : List (Numbered X)) (i : ℕ) → Has ps i → first_number (without_number ps i) ≡ end_with (number_before ps i) (number_after ps i) (first_number ps)
  first_number-without_number [] i h = absurd (let f : false ≡ true = h in cc)
  first_number-without_number (p ∷ ps) i h = elim (eqb_tells p.0 i) [
    | inl t ↦ rw t.0 refl
    | inr t ↦ (let r = before_is_some p.0 ps i (Has-tail p ps i t.1 h) in rw (t.0, r.1) refl)
  ]

  -- the last number, or else a start, after a pair was removed
  last_without : (b : Option ℕ) (ps : List (Numbered X)) (i : ℕ) → Has ps i → option_or (last_number (without_number ps i)) b ≡ end_with (number_after ps i) (number_before_from b ps i) (option_or (last_number ps) b)
  last_without b [] i h = absurd (let f : false ≡ true = h in cc)
  last_without b (p ∷ ps) i h = elim (eqb_tells p.0 i) [
    | inl t ↦ rw t.0 (last_number_after b p ps)
    | inr t ↦
        rw (t.0, last_number-cons p (without_number ps i), last_number-cons p ps, option_or-some (last_number (without_number ps i)) b p.0, option_or-some (last_number ps) b p.0)
        (last_without (Some p.0) ps i (Has-tail p ps i t.1 h))
  ]
    where
      last_number_after : (b : Option ℕ) (p : Numbered X) (ps : List (Numbered X)) → option_or (last_number ps) b ≡ end_with (first_number ps) b (option_or (last_number (p ∷ ps)) b)
      last_number_after b p [] = refl
      last_number_after b p (q ∷ ps) = refl

  -- the last number, after a pair was removed
  pub last_number-without_number : (ps : List (Numbered X)) (i : ℕ) → Has ps i → last_number (without_number ps i) ≡ end_with (number_after ps i) (number_before ps i) (last_number ps)
  last_number-without_number ps i h =
      sym (option_or-none (last_number (without_number ps i))) ∙ last_without None ps i h ∙ ap (end_with (number_after ps i) (number_before ps i)) (option_or-none (last_number ps))

  -- the first number, after a pair was removed that need not exist
  first_without : (ps : List (Numbered X)) (i : ℕ) → first_number (without_number ps i) ≡ cond (is_at (first_number ps) i) (number_after ps i) (first_number ps)
  first_without [] i = refl
  first_without (p ∷ ps) i = elim (eqb_tells p.0 i) [ inl t ↦ rw t.0 refl | inr t ↦ rw t.0 refl ]

  -- the start is before the first number only
  start_before_first : (ps : List (Numbered X)) (i a : ℕ) → Lacks ps a → is_at (number_before_from (Some a) ps i) a ≡ is_at (first_number ps) i
  start_before_first [] i a l = refl
  start_before_first (p ∷ ps) i a l = elim (eqb_tells p.0 i) [
    | inl t ↦ rw t.0 (eqb_same a)
    | inr t ↦ rw t.0 (no_start p.0 ps i a l.0 l.1)
  ]
    where
      no_start : (b : ℕ) (ps : List (Numbered X)) (i a : ℕ) → b ≢ a → Lacks ps a → is_at (number_before_from (Some b) ps i) a ≡ false
      no_start b [] i a n l = refl
      no_start b (p ∷ ps) i a n l = elim (eqb_tells p.0 i) [
        | inl t ↦ rw t.0 (eqb_other b a n)
        | inr t ↦ rw t.0 (no_start p.0 ps i a l.0 l.1)
      ]

  -- the start `a` does not change a test for a number other than `a`
  other_start : (ps : List (Numbered X)) (i j a : ℕ) → a ≢ j → is_at (number_before_from (Some a) ps i) j ≡ is_at (number_before_from None ps i) j
  other_start [] i j a n = refl
  other_start (p ∷ ps) i j a n = elim (eqb_tells p.0 i) [ inl t ↦ rw t.0 (eqb_other a j n) | inr t ↦ rw t.0 refl ]

  -- the number after each number, after a pair was removed
  pub number_after-without_number : (ps : List (Numbered X)) (i j : ℕ) → AreDistinct ps → number_after (without_number ps i) j ≡ cond (eqb i j) None (cond (is_at (number_before ps i) j) (number_after ps i) (number_after ps j))
  number_after-without_number [] i j d = elim (eqb_tells i j) [ inl t ↦ rw t.0 refl | inr t ↦ rw t.0 refl ]
  number_after-without_number (p ∷ ps) i j d = elim (eqb_tells p.0 i) [
    | inl t ↦ rw (t.0, ← t.1) (elim (eqb_tells p.0 j) [
      | inl u ↦ (let m : Lacks ps j = subst (λ k. Lacks ps k) u.1 d.0 in rw u.0 (number_after-lacking ps j m))
      | inr u ↦ rw u.0 refl
    ])
    | inr t ↦ rw t.0 (elim (eqb_tells p.0 j) [
      | inl u ↦ (let m : Lacks ps p.0 = d.0 in rw (u.0, ← u.1, eqb_other i p.0 (λ e. t.1 (sym e)), start_before_first ps i p.0 m) (first_without ps i))
      | inr u ↦ rw (u.0, other_start ps i j p.0 u.1) (number_after-without_number ps i j d.1)
    ])
  ]

  -- the number before each number, from a start on, after a pair was removed
  before_without : (b : Option ℕ) (ps : List (Numbered X)) (i j : ℕ) → AreDistinct ps → number_before_from b (without_number ps i) j ≡ cond (eqb i j) None (cond (is_at (number_after ps i) j) (number_before_from b ps i) (number_before_from b ps j))
  before_without b [] i j d = elim (eqb_tells i j) [ inl t ↦ rw t.0 refl | inr t ↦ rw t.0 refl ]
  before_without b (p ∷ ps) i j d = elim (eqb_tells p.0 i) [
    | inl t ↦ rw (t.0, ← t.1) (elim (eqb_tells p.0 j) [
      | inl u ↦ (let m : Lacks ps j = subst (λ k. Lacks ps k) u.1 d.0 in rw u.0 (number_before-lacking b ps j m))
      | inr u ↦ rw u.0 (number_before_from-start b (Some p.0) ps j)
    ])
    | inr t ↦ rw t.0 (elim (eqb_tells p.0 j) [
      | inl u ↦ (let m : Lacks ps j = subst (λ k. Lacks ps k) u.1 d.0 in rw (u.0, eqb_other i j (λ e. t.1 (u.1 ∙ sym e)), is_at-after ps i j m) refl)
      | inr u ↦ rw u.0 (before_without (Some p.0) ps i j d.1)
    ])
  ]

  -- the number before each number, after a pair was removed
  pub number_before-without_number : (ps : List (Numbered X)) (i j : ℕ) → AreDistinct ps → number_before (without_number ps i) j ≡ cond (eqb i j) None (cond (is_at (number_after ps i) j) (number_before ps i) (number_before ps j))
  number_before-without_number ps i j d = before_without None ps i j d

  -- ---- what the numbers alone determine

  -- lists with the same numbers have the same first number
  pub same_first : (ps qs : List (Numbered X)) → map (λ p. p.0) ps ≡ map (λ p. p.0) qs → first_number ps ≡ first_number qs
  same_first [] [] e = refl
  same_first [] (q ∷ qs) e = cc
  same_first (p ∷ ps) [] e = cc
  same_first (p ∷ ps) (q ∷ qs) e = cc

  -- they have the same last number
  pub same_last : (ps qs : List (Numbered X)) → map (λ p. p.0) ps ≡ map (λ p. p.0) qs → last_number ps ≡ last_number qs
  same_last [] [] e = refl
  same_last [] (q ∷ qs) e = cc
  same_last (p ∷ ps) [] e = cc
  same_last (p ∷ ps) (q ∷ qs) e =
      let a : p.0 ≡ q.0 = cc in
      let b : map (λ p. p.0) ps ≡ map (λ p. p.0) qs = cc in
      rw (last_number-cons p ps, last_number-cons q qs, same_last ps qs b, a) refl

  -- each number has the same number after it
  pub same_after : (ps qs : List (Numbered X)) (j : ℕ) → map (λ p. p.0) ps ≡ map (λ p. p.0) qs → number_after ps j ≡ number_after qs j
  same_after [] [] j e = refl
  same_after [] (q ∷ qs) j e = cc
  same_after (p ∷ ps) [] j e = cc
  same_after (p ∷ ps) (q ∷ qs) j e =
      let a : p.0 ≡ q.0 = cc in
      let b : map (λ p. p.0) ps ≡ map (λ p. p.0) qs = cc in
      rw (same_first ps qs b, same_after ps qs j b, a) refl

  -- each number has the same number before it
  pub same_before : (s : Option ℕ) (ps qs : List (Numbered X)) (j : ℕ) → map (λ p. p.0) ps ≡ map (λ p. p.0) qs → number_before_from s ps j ≡ number_before_from s qs j
  same_before s [] [] j e = refl
  same_before s [] (q ∷ qs) j e = cc
  same_before s (p ∷ ps) [] j e = cc
  same_before s (p ∷ ps) (q ∷ qs) j e =
      let a : p.0 ≡ q.0 = cc in
      let b : map (λ p. p.0) ps ≡ map (λ p. p.0) qs = cc in
      rw (same_before (Some p.0) ps qs j b, a) refl

  -- they lack the same numbers
  pub same_lacks : (ps qs : List (Numbered X)) (j : ℕ) → map (λ p. p.0) ps ≡ map (λ p. p.0) qs → Lacks ps j → Lacks qs j
  same_lacks [] [] j e l = tt
  same_lacks [] (q ∷ qs) j e l = absurd (cc)
  same_lacks (p ∷ ps) [] j e l = tt
  same_lacks (p ∷ ps) (q ∷ qs) j e l =
      let a : p.0 ≡ q.0 = cc in
      let b : map (λ p. p.0) ps ≡ map (λ p. p.0) qs = cc in
      ((λ f. l.0 (a ∙ f)), same_lacks ps qs j b l.1)

  -- if the numbers of one list are distinct, so are the numbers of the other
  pub same_distinct : (ps qs : List (Numbered X)) → map (λ p. p.0) ps ≡ map (λ p. p.0) qs → AreDistinct ps → AreDistinct qs
  same_distinct [] [] e d = tt
  same_distinct [] (q ∷ qs) e d = absurd (cc)
  same_distinct (p ∷ ps) [] e d = tt
  same_distinct (p ∷ ps) (q ∷ qs) e d =
      let a : p.0 ≡ q.0 = cc in
      let b : map (λ p. p.0) ps ≡ map (λ p. p.0) qs = cc in
      (subst (λ k. Lacks qs k) a (same_lacks ps qs p.0 b d.0), same_distinct ps qs b d.1)

  -- they have the same length
  pub same_length : (ps qs : List (Numbered X)) → map (λ p. p.0) ps ≡ map (λ p. p.0) qs → length ps ≡ length qs
  same_length [] [] e = refl
  same_length [] (q ∷ qs) e = absurd (cc)
  same_length (p ∷ ps) [] e = absurd (cc)
  same_length (p ∷ ps) (q ∷ qs) e = let b : map (λ p. p.0) ps ≡ map (λ p. p.0) qs = cc in let c = same_length ps qs b in omega arith

  -- ---- another item in the same place

  -- the item under each number, after the item of one number was replaced
  pub leaf_in-with_pair : (ps : List (Numbered X)) (i : ℕ) (y : X) (j : ℕ) → leaf_in (with_pair ps i y) j ≡ cond (eqb i j) (option_map (λ _. y) (leaf_in ps j)) (leaf_in ps j)
  leaf_in-with_pair [] i y j = elim (eqb_tells i j) [ inl t ↦ rw t.0 refl | inr t ↦ rw t.0 refl ]
  leaf_in-with_pair (p ∷ ps) i y j = elim (eqb_tells p.0 i) [
    | inl t ↦ rw (t.0, ← t.1) (elim (eqb_tells p.0 j) [ inl u ↦ rw u.0 refl | inr u ↦ rw u.0 refl ])
    | inr t ↦ rw t.0 (elim (eqb_tells p.0 j) [
      | inl u ↦ rw (u.0, eqb_other i j (λ e. t.1 (u.1 ∙ sym e))) refl
      | inr u ↦ rw u.0 (leaf_in-with_pair ps i y j)
    ])
  ]

  -- the new item is under the number
  pub leaf_in-with_now : (ps : List (Numbered X)) (i : ℕ) (y : X) → Has ps i → leaf_in (with_pair ps i y) i ≡ Some y
  leaf_in-with_now ps i y h = leaf_in-with_pair ps i y i ∙ rw (eqb_same i) (always y (leaf_in ps i) h)
    where
      always : (y : X) (o : Option X) → IsSome o → option_map (λ _. y) o ≡ Some y
      always y None s = absurd (let f : false ≡ true = s in cc)
      always y (Some x) s = refl

  -- the item under each other number is unchanged
  pub others-with_pair : (ps : List (Numbered X)) (i : ℕ) (y : X) → OthersStand ps (with_pair ps i y) i
  others-with_pair ps i y j n = leaf_in-with_pair ps i y j ∙ rw (eqb_other i j (λ e. n (sym e))) refl

  -- the numbers are unchanged
  pub numbers-with_pair : (ps : List (Numbered X)) (i : ℕ) (y : X) → map (λ p. p.0) (with_pair ps i y) ≡ map (λ p. p.0) ps
  numbers-with_pair [] i y = refl
  numbers-with_pair (p ∷ ps) i y = elim (eqb_tells p.0 i) [
    | inl t ↦ rw t.0 refl
    | inr t ↦ rw t.0 (ap (λ ns. p.0 ∷ ns) (numbers-with_pair ps i y))
  ]

  -- the numbers are still distinct
  pub AreDistinct-with_pair : (ps : List (Numbered X)) (i : ℕ) (y : X) → AreDistinct ps → AreDistinct (with_pair ps i y)
  AreDistinct-with_pair ps i y d = same_distinct ps (with_pair ps i y) (sym (numbers-with_pair ps i y)) d

  -- ---- the numbers of the list

  -- a number that no pair has is before no number
  is_at-before : (b : Option ℕ) (ps : List (Numbered X)) (i j : ℕ) → is_at b j ≡ false → Lacks ps j → is_at (number_before_from b ps i) j ≡ false
  is_at-before b [] i j n l = refl
  is_at-before b (p ∷ ps) i j n l = elim (eqb_tells p.0 i) [
    | inl t ↦ rw t.0 n
    | inr t ↦ rw t.0 (is_at-before (Some p.0) ps i j (eqb_other p.0 j l.0) l.1)
  ]

  -- a number that no pair has is not the last number
  is_at-last : (ps : List (Numbered X)) (j : ℕ) → Lacks ps j → is_at (last_number ps) j ≡ false
  is_at-last [] j l = refl
  is_at-last (p ∷ []) j l = eqb_other p.0 j l.0
  is_at-last (p ∷ q ∷ ps) j l = is_at-last (q ∷ ps) j l.1

  -- if an option cannot be a number that the list lacks, the list has its number
  has_at : (o : Option ℕ) (ps : List (Numbered X)) (j : ℕ) → (Lacks ps j → is_at o j ≡ false) → o ≡ Some j → Has ps j
  has_at o ps j off e = go (leaf_in ps j) refl
    where
      go : (x : Option X) → leaf_in ps j ≡ x → Has ps j
      go (Some x) f = rw f refl
      go None f =
          let g : is_at o j ≡ false = off (Lacks-from_leaf_in ps j f) in
          let k : eqb j j ≡ false = rw e at g in
          let m : eqb j j ≡ true = eqb_same j in
          absurd (cc)

  -- the list has the number after another
  pub Has-after : (ps : List (Numbered X)) (i j : ℕ) → number_after ps i ≡ Some j → Has ps j
  Has-after ps i j e = has_at (number_after ps i) ps j (is_at-after ps i j) e

  -- the list has the number before another
  pub Has-before : (ps : List (Numbered X)) (i j : ℕ) → number_before ps i ≡ Some j → Has ps j
  Has-before ps i j e = has_at (number_before ps i) ps j (is_at-before None ps i j refl) e

  -- the list has the first number
  pub Has-first : (ps : List (Numbered X)) (j : ℕ) → first_number ps ≡ Some j → Has ps j
  Has-first ps j e = has_at (first_number ps) ps j (is_at-first ps j) e

  -- the list has the last number
  pub Has-last : (ps : List (Numbered X)) (j : ℕ) → last_number ps ≡ Some j → Has ps j
  Has-last ps j e = has_at (last_number ps) ps j (is_at-last ps j) e

  -- a list with no first number is empty
  pub no_first : (ps : List (Numbered X)) → first_number ps ≡ None → ps ≡ []
  no_first [] e = refl
  no_first (p ∷ ps) e = absurd cc

  -- a list with no last number is empty
  pub no_last : (ps : List (Numbered X)) → last_number ps ≡ None → ps ≡ []
  no_last [] e = refl
  no_last (p ∷ []) e = absurd cc
  no_last (p ∷ q ∷ ps) e = absurd (let h : q ∷ ps ≡ [] = no_last (q ∷ ps) e in cc)

  -- the list has the next number
  pub Has-next_number : (o : Option ℕ) (ps : List (Numbered X)) (j : ℕ) → next_number o ps ≡ Some j → Has ps j
  Has-next_number o ps j e = has_at (next_number o ps) ps j (is_at-next_number o ps j) e

  -- no number is before itself
  pub before_other : (ps : List (Numbered X)) (i : ℕ) → AreDistinct ps → Has ps i → is_at (number_before ps i) i ≡ false
  before_other ps i d h =
      let s = split ps i h in
      rw (ap (λ qs. number_before qs i) s.is ∙ number_before-split i s.pair s.after s.before s.lacks) (is_at-last s.before i s.lacks)

  -- no number is after itself
  pub after_other : (ps : List (Numbered X)) (i : ℕ) → AreDistinct ps → Has ps i → is_at (number_after ps i) i ≡ false
  after_other ps i d h =
      let s = split ps i h in
      let r = distinct_parts s.before s.after (i, s.pair) (subst (λ qs. AreDistinct qs) s.is d) in
      rw (ap (λ qs. number_after qs i) s.is ∙ number_after-split i s.pair s.after s.before s.lacks) (is_at-first s.after i r.1)

  -- ---- lists put together

  -- the item under a number is the item in the first list, or else the item in the second
  pub leaf_in-append : (xs ys : List (Numbered X)) (i : ℕ) → leaf_in (xs ++ ys) i ≡ option_or (leaf_in xs i) (leaf_in ys i)
  leaf_in-append [] ys i = refl
  leaf_in-append (x ∷ xs) ys i = elim (eqb_tells x.0 i) [ inl t ↦ rw t.0 refl | inr t ↦ rw t.0 (leaf_in-append xs ys i) ]

  -- the last number of two lists is the last of the second, or else the last of the first
  pub last_number-append : (xs ys : List (Numbered X)) → last_number (xs ++ ys) ≡ option_or (last_number ys) (last_number xs)
  last_number-append [] ys = sym (option_or-none (last_number ys))
  last_number-append (x ∷ xs) ys =
      rw (last_number-cons x (xs ++ ys), last_number-cons x xs, last_number-append xs ys) (option_or-assoc (last_number ys) (last_number xs) (Some x.0))

  -- parts of a list with distinct numbers have distinct numbers
  pub AreDistinct-parts : (xs ys : List (Numbered X)) → AreDistinct (xs ++ ys) → AreDistinct xs × AreDistinct ys
  AreDistinct-parts [] ys d = (tt, d)
  AreDistinct-parts (x ∷ xs) ys d = let r = AreDistinct-parts xs ys d.1 in ((lacks_left xs ys x.0 d.0, r.0), r.1)
    where
      lacks_left : (xs ys : List (Numbered X)) (i : ℕ) → Lacks (xs ++ ys) i → Lacks xs i
      lacks_left [] ys i l = tt
      lacks_left (x ∷ xs) ys i l = (l.0, lacks_left xs ys i l.1)

  -- ---- further forms

  -- there is no item under the removed number
  pub leaf_in-without_now : (ps : List (Numbered X)) (i : ℕ) → AreDistinct ps → leaf_in (without_number ps i) i ≡ None
  leaf_in-without_now ps i d = leaf_in_lacking (without_number ps i) i (Lacks-without_now ps i d)
