-- The pairs that a cursor has left in a tree in which another pair, or a value, has changed.
use Rattle.std.proofs.Common.{◌≡◌, ℕ, List, [], ◌∷◌, ◌++◌, Option, Some, None, inl, inr, refl, sym, ap, ◌∙◌, subst}
use Rattle.std.proofs.lemmas.Bool.Decides.{eqb_tells}
use Rattle.art_tree.specs.Leaves.{Numbered, first_number, last_number, Lacks, AreDistinct, without_number, with_value}
use Rattle.std.proofs.lemmas.Bool.{ne_eqb}
use Rattle.art_tree.proofs.CallerLemmas.{AreDistinct-parts, AreDistinct-without_number, AreDistinct-with_value, numbers-with_value, same_first, same_last}
use Rattle.art_walk.specs.declared.cursor.Cursor.{Cursor}
use Rattle.art_walk.specs.Cursor.{span_of, ends_left, EndsFit, leaves_left, FitsIn}
use Rattle.art_tree.proofs.Spans.{Cut, cut_span, cut_is_span, span_cut}

module _ {K V : Type 0} where
  -- ---- the pairs that are left

  -- the numbers of a row are distinct
  cut_distinct : (ps : List (Numbered K V)) (first last : ℕ) (row : List (Numbered K V)) → AreDistinct ps → Cut ps first last row → AreDistinct row
  cut_distinct ps first last row d c = (AreDistinct-parts row c.after (AreDistinct-parts c.before (row ++ c.after) (subst AreDistinct c.is d)).1).0

  ends_distinct : (ends : Option (ℕ × ℕ)) (ps : List (Numbered K V)) → AreDistinct ps → EndsFit ends ps → AreDistinct (ends_left ends ps)
  ends_distinct None ps d f = tt
  ends_distinct (Some e) ps d f = cut_distinct ps e.0 e.1 (span_of ps e.0 e.1) d (span_cut ps e.0 e.1 f)

  -- no number occurs twice among the pairs that are left
  pub left_distinct : (c : Cursor) (ps : List (Numbered K V)) → AreDistinct ps → FitsIn c ps → AreDistinct (leaves_left c ps)
  left_distinct c ps d f = ends_distinct c.ends ps d f

  -- ---- a change in two parts

  without_number-lacking : (ps : List (Numbered K V)) (id : ℕ) → Lacks ps id → without_number ps id ≡ ps
  without_number-lacking [] id l = refl
  without_number-lacking (p ∷ ps) id l = rw (ne_eqb p.0 id l.0) (ap (λ l. p ∷ l) (without_number-lacking ps id l.1))

  with_value-lacking : (ps : List (Numbered K V)) (id : ℕ) (v : V) → Lacks ps id → with_value ps id v ≡ ps
  with_value-lacking [] id v l = refl
  with_value-lacking (p ∷ ps) id v l = rw (ne_eqb p.0 id l.0) (ap (λ l. p ∷ l) (with_value-lacking ps id v l.1))

  lacks_right : (xs ys : List (Numbered K V)) (i : ℕ) → Lacks (xs ++ ys) i → Lacks ys i
  lacks_right [] ys i l = l
  lacks_right (x ∷ xs) ys i l = lacks_right xs ys i l.1

  without_number-append : (xs ys : List (Numbered K V)) (id : ℕ) → AreDistinct (xs ++ ys) → without_number (xs ++ ys) id ≡ without_number xs id ++ without_number ys id
  without_number-append [] ys id d = refl
  without_number-append (x ∷ xs) ys id d = elim (eqb_tells x.0 id) [
    | inl t ↦ rw t.0 (ap (λ l. xs ++ l) (sym (without_number-lacking ys id (lacks_right xs ys id (subst (Lacks (xs ++ ys)) t.1 d.0)))))
    | inr t ↦ rw t.0 (ap (λ l. x ∷ l) (without_number-append xs ys id d.1))
  ]

  with_value-append : (xs ys : List (Numbered K V)) (id : ℕ) (v : V) → AreDistinct (xs ++ ys) → with_value (xs ++ ys) id v ≡ with_value xs id v ++ with_value ys id v
  with_value-append [] ys id v d = refl
  with_value-append (x ∷ xs) ys id v d = elim (eqb_tells x.0 id) [
    | inl t ↦ rw t.0 (ap (λ l. (x.0, (x.1.0, v)) ∷ (xs ++ l)) (sym (with_value-lacking ys id v (lacks_right xs ys id (subst (Lacks (xs ++ ys)) t.1 d.0)))))
    | inr t ↦ rw t.0 (ap (λ l. x ∷ l) (with_value-append xs ys id v d.1))
  ]

  -- if a change keeps the ends of what is left, a cursor fits the changed list, and has left what
  -- was left, changed
  module _ (f : List (Numbered K V) → List (Numbered K V)) (none : f [] ≡ []) (split : (xs ys : List (Numbered K V)) → AreDistinct (xs ++ ys) → f (xs ++ ys) ≡ f xs ++ f ys) (ps : List (Numbered K V)) (old : AreDistinct ps) (new : AreDistinct (f ps)) where
    changed : (ends : Option (ℕ × ℕ)) → EndsFit ends ps → first_number (f (ends_left ends ps)) ≡ first_number (ends_left ends ps) → last_number (f (ends_left ends ps)) ≡ last_number (ends_left ends ps) → EndsFit ends (f ps) × (ends_left ends (f ps) ≡ f (ends_left ends ps))
    changed None fits first last = (tt, sym none)
    changed (Some e) fits first last =
        let row = span_of ps e.0 e.1 in
        let c = span_cut ps e.0 e.1 fits in
        let d : AreDistinct (c.before ++ (row ++ c.after)) = subst AreDistinct c.is old in
        let cut : Cut (f ps) e.0 e.1 (f row) = record {
          before = f c.before;
          after = f c.after;
          is = ap f c.is ∙ split c.before (row ++ c.after) d ∙ ap (λ l. f c.before ++ l) (split row c.after (AreDistinct-parts c.before (row ++ c.after) d).1);
          first_is = first ∙ c.first_is;
          last_is = last ∙ c.last_is;
        } in
        (cut_is_span (f ps) new e.0 e.1 (f row) cut, cut_span (f ps) new e.0 e.1 (f row) cut)

  -- the cursor fits the tree without a pair that is not left, and has the same pairs left
  pub left_without : (c : Cursor) (ps : List (Numbered K V)) (id : ℕ) → AreDistinct ps → FitsIn c ps → Lacks (leaves_left c ps) id → FitsIn c (without_number ps id) × (leaves_left c (without_number ps id) ≡ leaves_left c ps)
  left_without c ps id d f l =
      let same = without_number-lacking (leaves_left c ps) id l in
      let r = changed (λ l. without_number l id) refl (λ xs ys. without_number-append xs ys id) ps d (AreDistinct-without_number ps id d) c.ends f (ap first_number same) (ap last_number same) in
      (r.0, r.1 ∙ same)

  -- the cursor fits the tree with another value, and has that value left, if its pair is left
  pub left_with_value : (c : Cursor) (ps : List (Numbered K V)) (id : ℕ) (v : V) → AreDistinct ps → FitsIn c ps → FitsIn c (with_value ps id v) × (leaves_left c (with_value ps id v) ≡ with_value (leaves_left c ps) id v)
  left_with_value c ps id v d f =
      let same = numbers-with_value (leaves_left c ps) id v in
      changed (λ l. with_value l id v) refl (λ xs ys. with_value-append xs ys id v) ps d (AreDistinct-with_value ps id v d) c.ends f (same_first _ _ same) (same_last _ _ same)

  -- a value written at a number that is not left changes no pair that is left
  pub left_with_passed : (c : Cursor) (ps : List (Numbered K V)) (id : ℕ) (v : V) → AreDistinct ps → FitsIn c ps → Lacks (leaves_left c ps) id → leaves_left c (with_value ps id v) ≡ leaves_left c ps
  left_with_passed c ps id v d f l = (left_with_value c ps id v d f).1 ∙ with_value-lacking (leaves_left c ps) id v l
