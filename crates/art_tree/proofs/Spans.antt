-- The pairs from one number through another are a part of the list.
use Rattle.std.proofs.Common.{◌≡◌, ℕ, List, [], ◌∷◌, ◌++◌, Some, true, false, inl, inr, refl, sym, ap, ◌∙◌, subst, append_assoc, eq-eqb}
use Rattle.std.proofs.lemmas.Bool.Decides.{eqb_tells}
use Rattle.art_tree.specs.Leaves.{Numbered, leaf_in, Has, first_number, last_number, Lacks, AreDistinct}
use Rattle.std.proofs.lemmas.Bool.{ne_eqb}
use Rattle.art_rows.proofs.CallerLemmas.{distinct_parts, AreDistinct-parts, leaf_in-split, split}
use Rattle.art_tree.specs.Spans.{from_number, through_number, span_of, IsSpan}

module _ {K V : Type 0} where
  -- the list, split before the pair of the first number and after the pair of the last
  pub record Cut (ps : List (Numbered K V)) (first last : ℕ) (row : List (Numbered K V)) : Type 0 where
    pub before : List (Numbered K V)
    pub after : List (Numbered K V)
    pub is : ps ≡ before ++ (row ++ after)
    pub first_is : first_number row ≡ Some first
    pub last_is : last_number row ≡ Some last

  -- a list with a last number ends with its pair
  pub record EndsWith (row : List (Numbered K V)) (last : ℕ) : Type 0 where
    pub front : List (Numbered K V)
    pub pair : K × V
    pub is : row ≡ front ++ (last, pair) ∷ []

  pub ends_with : (row : List (Numbered K V)) (last : ℕ) → last_number row ≡ Some last → EndsWith row last
  ends_with [] last e = absurd cc
  ends_with (p ∷ []) last e = let h : p.0 ≡ last = cc in record { front = []; pair = p.1; is = ap (λ n. (n, p.1) ∷ []) h }
  ends_with (p ∷ q ∷ row) last e =
      let r = ends_with (q ∷ row) last e in
      record { front = p ∷ r.front; pair = r.pair; is = ap (λ l. p ∷ l) r.is }

  -- ---- from a number on, and through a number

  pub from_split : (before after : List (Numbered K V)) (i : ℕ) (x : K × V) → Lacks before i → from_number (before ++ (i, x) ∷ after) i ≡ (i, x) ∷ after
  from_split [] after i x l = rw (eq-eqb i i refl) refl
  from_split (p ∷ before) after i x l = rw (ne_eqb p.0 i l.0) (from_split before after i x l.1)

  pub through_split : (before after : List (Numbered K V)) (i : ℕ) (x : K × V) → Lacks before i → through_number (before ++ (i, x) ∷ after) i ≡ before ++ (i, x) ∷ []
  through_split [] after i x l = rw (eq-eqb i i refl) refl
  through_split (p ∷ before) after i x l = rw (ne_eqb p.0 i l.0) (ap (λ l. p ∷ l) (through_split before after i x l.1))

  -- ---- a part is the span of its ends

  module _ (ps : List (Numbered K V)) (distinct : AreDistinct ps) (first last : ℕ) (row : List (Numbered K V)) (c : Cut ps first last row) where
    -- the pairs from the first number on
    cut_from : (row : List (Numbered K V)) → first_number row ≡ Some first → ps ≡ c.before ++ (row ++ c.after) → from_number ps first ≡ row ++ c.after
    cut_from [] e is = absurd cc
    cut_from (p ∷ row) e is =
        let h : p.0 ≡ first = cc in
        let lacks : Lacks c.before p.0 = (distinct_parts c.before (row ++ c.after) p (subst AreDistinct is distinct)).0 in
        ap (λ l. from_number l first) is ∙ ap (λ n. from_number (c.before ++ p ∷ (row ++ c.after)) n) (sym h) ∙ from_split c.before (row ++ c.after) p.0 p.1 lacks

    -- the row ends with the last pair, which is nowhere else in it
    cut_end : (r : EndsWith row last) → (row ++ c.after ≡ r.front ++ (last, r.pair) ∷ c.after) × Lacks r.front last
    cut_end r =
        let e : row ++ c.after ≡ r.front ++ (last, r.pair) ∷ c.after = ap (λ l. l ++ c.after) r.is ∙ append_assoc r.front ((last, r.pair) ∷ []) c.after in
        let d : AreDistinct (row ++ c.after) = (AreDistinct-parts c.before (row ++ c.after) (subst AreDistinct c.is distinct)).1 in
        (e, (distinct_parts r.front c.after (last, r.pair) (subst AreDistinct e d)).0)

    -- the pairs from the first number through the last are the row
    pub cut_span : span_of ps first last ≡ row
    cut_span =
        let r = ends_with row last c.last_is in
        let e = cut_end r in
        ap (λ l. through_number l last) (cut_from row c.first_is c.is ∙ e.0) ∙ through_split r.front c.after last r.pair e.1 ∙ sym r.is

    -- the first number is not after the last
    pub cut_is_span : IsSpan ps first last
    cut_is_span =
        let r = ends_with row last c.last_is in
        let e = cut_end r in
        rw (ap (λ l. leaf_in l last) (cut_from row c.first_is c.is ∙ e.0) ∙ leaf_in-split last r.pair c.after r.front e.1) refl

  -- ---- a span is such a part

  -- the pairs through a number, and those after
  pub record Through (ps : List (Numbered K V)) (last : ℕ) : Type 0 where
    pub after : List (Numbered K V)
    pub is : ps ≡ through_number ps last ++ after
    pub last_is : last_number (through_number ps last) ≡ Some last

  pub through_cut : (ps : List (Numbered K V)) (last : ℕ) → Has ps last → Through ps last
  through_cut ps last h =
      let s = split ps last h in
      let t : through_number ps last ≡ s.before ++ (last, s.pair) ∷ [] = ap (λ l. through_number l last) s.is ∙ through_split s.before s.after last s.pair s.lacks in
      record {
        after = s.after;
        is = s.is ∙ sym (append_assoc s.before ((last, s.pair) ∷ []) s.after) ∙ ap (λ l. l ++ s.after) (sym t);
        last_is = ap last_number t ∙ ends_at s.before last s.pair;
      }
    where
      ends_at : (front : List (Numbered K V)) (last : ℕ) (x : K × V) → last_number (front ++ (last, x) ∷ []) ≡ Some last
      ends_at [] last x = refl
      ends_at (p ∷ []) last x = refl
      ends_at (p ∷ q ∷ front) last x = ends_at (q ∷ front) last x

  -- the pairs through a number begin with the list's first pair
  through_first : (ps : List (Numbered K V)) (last : ℕ) → first_number (through_number ps last) ≡ first_number ps
  through_first [] last = refl
  through_first (p ∷ ps) last = refl

  -- if a list has a number that is not before a first one, it has the first one
  first_there : (ps : List (Numbered K V)) (first last : ℕ) → IsSpan ps first last → Has ps first
  first_there [] first last h = absurd (let f : false ≡ true = h in cc)
  first_there (p ∷ ps) first last h = elim (eqb_tells p.0 first) [
    | inl t ↦ rw t.0 refl
    | inr t ↦ rw t.0 (first_there ps first last (rw t.0 at h))
  ]

  pub span_cut : (ps : List (Numbered K V)) (first last : ℕ) → IsSpan ps first last → Cut ps first last (span_of ps first last)
  span_cut ps first last h =
      let s = split ps first (first_there ps first last h) in
      let f : from_number ps first ≡ (first, s.pair) ∷ s.after = ap (λ l. from_number l first) s.is ∙ from_split s.before s.after first s.pair s.lacks in
      let t = through_cut (from_number ps first) last h in
      record {
        before = s.before;
        after = t.after;
        is = s.is ∙ ap (λ l. s.before ++ l) (sym f ∙ t.is);
        first_is = through_first (from_number ps first) last ∙ ap first_number f;
        last_is = t.last_is;
      }
