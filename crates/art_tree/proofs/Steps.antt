-- What remains of a list between two ends after its first pair is passed, or its last.
use Rattle.std.proofs.Common.{◌≡◌, ◌≢◌, ℕ, ◌+◌, ◌<◌, List, [], ◌∷◌, ◌++◌, length, Option, Some, None, option_map, inl, inr, refl, sym, ap, ◌∙◌, subst, append_assoc, arith, length-append}
use Rattle.std.specs.Option.{option_or}
use Rattle.std.proofs.lemmas.Bool.Decides.{eqb_tells}
use Rattle.art_tree.specs.Leaves.{Numbered, leaf_in, Has, first_number, last_number, number_after, number_before, Lacks, AreDistinct}
use Rattle.art_tree.specs.Spans.{span_of, IsSpan, ends_left, EndsFit}
use Rattle.art_rows.proofs.CallerLemmas.{Has-last, has_other, distinct_parts, AreDistinct-parts, Lacks-parts, leaf_in-split, number_after-split, number_before-split, last_number-append}
use Rattle.art_tree.proofs.Spans.{Cut, ends_with, cut_span, cut_is_span, span_cut}
use Rattle.blart_keys.proofs.Options.{is_some}

pub some_inj : {A : Type 0} (a b : A) → Some a ≡ Some b → a ≡ b
some_inj a b e = cc

module _ {K V : Type 0} where
  -- a row begins with the pair of its first number
  pub record BeginsWith (row : List (Numbered K V)) (first : ℕ) : Type 0 where
    pub pair : K × V
    pub rest : List (Numbered K V)
    pub is : row ≡ (first, pair) ∷ rest

  pub begins_with : (row : List (Numbered K V)) (first : ℕ) → first_number row ≡ Some first → BeginsWith row first
  begins_with [] first e = absurd cc
  begins_with (p ∷ row) first e = let h : p.0 ≡ first = cc in record { pair = p.1; rest = row; is = ap (λ n. (n, p.1) ∷ row) h }

  module _ (ps : List (Numbered K V)) (distinct : AreDistinct ps) (first last : ℕ) (row : List (Numbered K V)) (c : Cut ps first last row) where
    row_distinct : AreDistinct (row ++ c.after)
    row_distinct = (AreDistinct-parts c.before (row ++ c.after) (subst AreDistinct c.is distinct)).1

    -- ---- from the front

    module _ (x : K × V) (rest : List (Numbered K V)) (is : row ≡ (first, x) ∷ rest) where
      front_is : ps ≡ c.before ++ (first, x) ∷ (rest ++ c.after)
      front_is = c.is ∙ ap (λ l. c.before ++ (l ++ c.after)) is

      front_lacks : Lacks c.before first × Lacks (rest ++ c.after) first
      front_lacks = distinct_parts c.before (rest ++ c.after) (first, x) (subst AreDistinct front_is distinct)

      pub first_pair : leaf_in ps first ≡ Some x
      first_pair = ap (λ l. leaf_in l first) front_is ∙ leaf_in-split first x (rest ++ c.after) c.before front_lacks.0

      -- if the ends are the same, no other pair is left
      pub first_alone : first ≡ last → rest ≡ []
      first_alone e = go rest is
        where
          go : (r : List (Numbered K V)) → row ≡ (first, x) ∷ r → r ≡ []
          go [] i = refl
          go (q ∷ r) i =
              let l : last_number (q ∷ r) ≡ Some last = ap last_number (sym i) ∙ c.last_is in
              let d : AreDistinct ((first, x) ∷ ((q ∷ r) ++ c.after)) = subst (λ (l : List (Numbered K V)). AreDistinct (l ++ c.after)) i row_distinct in
              let p = (AreDistinct-parts ((first, x) ∷ q ∷ r) c.after d).0 in
              absurd (has_other (q ∷ r) last first (Has-last (q ∷ r) last l) p.0 (sym e))

      -- if they differ, the rest begins with the next pair
      pub first_more : (n : Option ℕ) → first ≢ last → n ≡ number_after ps first → (m : ℕ) × (n ≡ Some m) × Cut ps m last rest
      first_more n ne e = go rest is
        where
          go : (r : List (Numbered K V)) → row ≡ (first, x) ∷ r → (m : ℕ) × (n ≡ Some m) × Cut ps m last r
          go [] i = absurd (ne (let h : Some first ≡ Some last = ap last_number (sym i) ∙ c.last_is in cc))
          go (q ∷ r) i =
              let f : ps ≡ c.before ++ (first, x) ∷ ((q ∷ r) ++ c.after) = c.is ∙ ap (λ l. c.before ++ (l ++ c.after)) i in
              let g = distinct_parts c.before ((q ∷ r) ++ c.after) (first, x) (subst AreDistinct f distinct) in (
                q.0,
                e ∙ ap (λ l. number_after l first) f ∙ number_after-split first x ((q ∷ r) ++ c.after) c.before g.0,
                record {
                  before = c.before ++ (first, x) ∷ [];
                  after = c.after;
                  is = f ∙ sym (append_assoc c.before ((first, x) ∷ []) ((q ∷ r) ++ c.after));
                  first_is = refl;
                  last_is = ap last_number (sym i) ∙ c.last_is;
                },
              )

    -- ---- from the back

    module _ (x : K × V) (front : List (Numbered K V)) (is : row ≡ front ++ (last, x) ∷ []) where
      back_is : ps ≡ (c.before ++ front) ++ (last, x) ∷ c.after
      back_is =
          c.is ∙ ap (λ l. c.before ++ (l ++ c.after)) is ∙ ap (λ l. c.before ++ l) (append_assoc front ((last, x) ∷ []) c.after)
          ∙ sym (append_assoc c.before front ((last, x) ∷ c.after))

      back_lacks : Lacks (c.before ++ front) last × Lacks c.after last
      back_lacks = distinct_parts (c.before ++ front) c.after (last, x) (subst AreDistinct back_is distinct)

      pub last_pair : leaf_in ps last ≡ Some x
      last_pair = ap (λ l. leaf_in l last) back_is ∙ leaf_in-split last x c.after (c.before ++ front) back_lacks.0

      number_back : number_before ps last ≡ last_number (c.before ++ front)
      number_back = ap (λ l. number_before l last) back_is ∙ number_before-split last x c.after (c.before ++ front) back_lacks.0

      front_distinct : AreDistinct (front ++ (last, x) ∷ [])
      front_distinct = subst AreDistinct is (AreDistinct-parts row c.after row_distinct).0

      -- if the ends are the same, no other pair is left
      pub last_alone : first ≡ last → front ≡ []
      last_alone e = go front is front_distinct
        where
          go : (r : List (Numbered K V)) → row ≡ r ++ (last, x) ∷ [] → AreDistinct (r ++ (last, x) ∷ []) → r ≡ []
          go [] i d = refl
          go (q ∷ r) i d =
              let f : q.0 ≡ first = (let h : Some q.0 ≡ Some first = ap first_number (sym i) ∙ c.first_is in cc) in
              absurd ((Lacks-parts r [] (last, x) q.0 d.0).1 (sym (f ∙ e)))

      -- if they differ, the rest ends with the pair before the last
      pub last_more : (n : Option ℕ) → first ≢ last → n ≡ number_before ps last → (m : ℕ) × (n ≡ Some m) × Cut ps first m front
      last_more n ne e = go front is (e ∙ number_back)
        where
          some_last : (q : Numbered K V) (r : List (Numbered K V)) → (m : ℕ) × (last_number (q ∷ r) ≡ Some m)
          some_last q [] = (q.0, refl)
          some_last q (p ∷ r) = some_last p r

          go : (r : List (Numbered K V)) → row ≡ r ++ (last, x) ∷ [] → n ≡ last_number (c.before ++ r) → (m : ℕ) × (n ≡ Some m) × Cut ps first m r
          go [] i b = absurd (ne (let h : Some first ≡ Some last = sym c.first_is ∙ ap first_number i in cc))
          go (q ∷ r) i b =
              let s = some_last q r in (
                s.0,
                b ∙ last_number-append c.before (q ∷ r) ∙ ap (λ o. option_or o (last_number c.before)) s.1,
                record {
                  before = c.before;
                  after = (last, x) ∷ c.after;
                  is = c.is ∙ ap (λ l. c.before ++ (l ++ c.after)) i ∙ ap (λ l. c.before ++ l) (append_assoc (q ∷ r) ((last, x) ∷ []) c.after);
                  first_is = ap first_number (sym i) ∙ c.first_is;
                  last_is = s.1;
                },
              )

  -- ---- the pairs left between two ends

  module _ (ps : List (Numbered K V)) (distinct : AreDistinct ps) (ends : Option (ℕ × ℕ)) (e : ℕ × ℕ) (was : ends ≡ Some e) (fits : EndsFit ends ps) where
    is_span : IsSpan ps e.0 e.1
    is_span = subst (λ (o : Option (ℕ × ℕ)). EndsFit o ps) was fits

    cut : Cut ps e.0 e.1 (span_of ps e.0 e.1)
    cut = span_cut ps e.0 e.1 is_span

    -- the list has the first number
    pub has_first : Has ps e.0
    has_first =
        let b = begins_with (span_of ps e.0 e.1) e.0 cut.first_is in
        is_some (leaf_in ps e.0) b.pair (first_pair ps distinct e.0 e.1 (span_of ps e.0 e.1) cut b.pair b.rest b.is)

    -- the list has the last number
    pub has_last : Has ps e.1
    has_last =
        let b = ends_with (span_of ps e.0 e.1) e.1 cut.last_is in
        is_some (leaf_in ps e.1) b.pair (last_pair ps distinct e.0 e.1 (span_of ps e.0 e.1) cut b.pair b.front b.is)

    module _ (ends' : Option (ℕ × ℕ)) (x : K × V) where
      -- without ends, no pair is left
      none_left : ends' ≡ None → (more : List (Numbered K V) → List (Numbered K V)) → span_of ps e.0 e.1 ≡ more [] → EndsFit ends' ps × (ends_left ends ps ≡ more (ends_left ends' ps))
      none_left n more is = (subst (λ (o : Option (ℕ × ℕ)). EndsFit o ps) (sym n) tt, ap (λ o. ends_left o ps) was ∙ is ∙ ap more (sym (ap (λ o. ends_left o ps) n)))

      -- with two ends, the pairs between them are left
      some_left : (f l : ℕ) → ends' ≡ Some ((f, l)) → (row : List (Numbered K V)) → Cut ps f l row → (more : List (Numbered K V) → List (Numbered K V)) → span_of ps e.0 e.1 ≡ more row
          → EndsFit ends' ps × (ends_left ends ps ≡ more (ends_left ends' ps))
      some_left f l s row c more is = (
        subst (λ (o : Option (ℕ × ℕ)). EndsFit o ps) (sym s) (cut_is_span ps distinct f l row c),
        ap (λ o. ends_left o ps) was ∙ is ∙ ap more (sym (ap (λ o. ends_left o ps) s ∙ cut_span ps distinct f l row c)),
      )

      -- after the first pair is passed, the others are left
      pub passed_first : (n : Option ℕ) → leaf_in ps e.0 ≡ Some x → n ≡ number_after ps e.0
          → (e.0 ≡ e.1 → ends' ≡ None) → (e.0 ≢ e.1 → ends' ≡ option_map (λ m. (m, e.1)) n)
          → EndsFit ends' ps × (ends_left ends ps ≡ (e.0, x) ∷ ends_left ends' ps)
      passed_first n there next one two =
          let b = begins_with (span_of ps e.0 e.1) e.0 cut.first_is in
          let same : b.pair ≡ x = some_inj b.pair x (sym (first_pair ps distinct e.0 e.1 (span_of ps e.0 e.1) cut b.pair b.rest b.is) ∙ there) in
          let is : span_of ps e.0 e.1 ≡ (e.0, x) ∷ b.rest = b.is ∙ ap (λ y. (e.0, y) ∷ b.rest) same in
          elim (eqb_tells e.0 e.1) [
            | inl t ↦ none_left (one t.1) (λ l. (e.0, x) ∷ l) (is ∙ ap (λ l. (e.0, x) ∷ l) (first_alone ps distinct e.0 e.1 (span_of ps e.0 e.1) cut x b.rest is t.1))
            | inr t ↦
                let m = first_more ps distinct e.0 e.1 (span_of ps e.0 e.1) cut x b.rest is n t.1 next in
                some_left m.0 e.1 (two t.1 ∙ ap (option_map (λ m. (m, e.1))) m.1) b.rest m.2 (λ l. (e.0, x) ∷ l) is
          ]

      -- after the last pair is passed, the others are left
      pub passed_last : (n : Option ℕ) → leaf_in ps e.1 ≡ Some x → n ≡ number_before ps e.1
          → (e.0 ≡ e.1 → ends' ≡ None) → (e.0 ≢ e.1 → ends' ≡ option_map (λ m. (e.0, m)) n)
          → EndsFit ends' ps × (ends_left ends ps ≡ ends_left ends' ps ++ (e.1, x) ∷ [])
      passed_last n there prev one two =
          let b = ends_with (span_of ps e.0 e.1) e.1 cut.last_is in
          let same : b.pair ≡ x = some_inj b.pair x (sym (last_pair ps distinct e.0 e.1 (span_of ps e.0 e.1) cut b.pair b.front b.is) ∙ there) in
          let is : span_of ps e.0 e.1 ≡ b.front ++ (e.1, x) ∷ [] = b.is ∙ ap (λ y. b.front ++ (e.1, y) ∷ []) same in
          elim (eqb_tells e.0 e.1) [
            | inl t ↦ none_left (one t.1) (λ l. l ++ (e.1, x) ∷ []) (is ∙ ap (λ l. l ++ (e.1, x) ∷ []) (last_alone ps distinct e.0 e.1 (span_of ps e.0 e.1) cut x b.front is t.1))
            | inr t ↦
                let m = last_more ps distinct e.0 e.1 (span_of ps e.0 e.1) cut x b.front is n t.1 prev in
                some_left e.0 m.0 (two t.1 ∙ ap (option_map (λ m. (e.0, m))) m.1) b.front m.2 (λ l. l ++ (e.1, x) ∷ []) is
          ]

-- ---- one item less

module _ {X : Type 0} (x : X) (xs ys : List X) where
  pub fewer_last : xs ≡ ys ++ x ∷ [] → length ys < length xs
  fewer_last e = let l : length xs ≡ length ys + 1 = ap length e ∙ length-append ys (x ∷ []) in omega arith
