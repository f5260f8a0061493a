-- The pairs to which the key of an inner entry is related.
use Rattle.std.proofs.Common.{◌≡◌, ◌≢◌, ℕ, Bool, true, false, cond, eqb, inl, inr, List, [], ◌∷◌, length, refl, sym, ap, ◌∙◌, subst, Option, Some, None, is_some, eq-eqb}
use Rattle.std.proofs.lemmas.Bool.{false≢true}
use Rattle.std.proofs.lemmas.Bool.Decides.{eqb_tells}
use Rattle.std.specs.Prelude.{IfSome}
use Rattle.blart_keys.specs.Bytes.{related}
use Rattle.blart_keys.specs.Content.{IsContent, subtree}
use Rattle.blart_keys.specs.Steps.{bytes as pair_bytes}
use Rattle.blart_keys.specs.Stored.{Updates}
use Rattle.blart_keys.proofs.Mapped.{filter-map}
use Rattle.blart_keys.proofs.Options.{some_of}
use Rattle.blart_keys.proofs.RankLemmas.{Member, filter_member}
use Rattle.art_tree.specs.Leaves.{Numbered, leaf_in, Has, AreDistinct, first_number, last_number, with_value, bytes}
use Rattle.art_tree.specs.Pairs.{pairs_of}
use Rattle.art_tree.proofs.CallerLemmas.{leaf_in-member, AreDistinct-filter, two_ends, only_one}
use Rattle.art_walk.specs.Cursor.{span_of, IsSpan}
use Rattle.art_walk.proofs.Ranges.{subtree_span}
use Rattle.blart_map.specs.InnerEntry.{only}
use Rattle.art_edits.specs.Spans.{is_number, spans, Spans}
use Rattle.art_edits.proofs.Placed.Setting.{rewritten}
use Rattle.art_edits.proofs.Related.Thinning.{first_has}

is_number_Some : (o : Option ℕ) (i : ℕ) → is_number o i ≡ true → o ≡ Some i
is_number_Some None i e = absurd (false≢true e)
is_number_Some (Some j) i e = elim (eqb_tells j i) [ inl t ↦ ap (λ n. Some n) t.1 | inr f ↦ absurd (false≢true (sym f.0 ∙ e)) ]

both_true : (a b : Bool) → cond a b false ≡ true → (a ≡ true) × (b ≡ true)
both_true true b e = (refl, e)
both_true false b e = absurd (false≢true e)

-- numbers that pass a test of equality are equal
pub tested : (a b : ℕ) → true ≡ eqb a b → a ≡ b
tested a b e = elim (eqb_tells a b) [ inl t ↦ t.1 | inr f ↦ absurd (false≢true (sym f.0 ∙ sym e)) ]

-- numbers that fail it are not equal
pub tested_not : (a b : ℕ) → false ≡ eqb a b → a ≢ b
tested_not a b e f = false≢true (e ∙ ap (λ n. eqb a n) (sym f) ∙ eq-eqb a a refl)

module _ {K V : Type 0} (kb : K → List ℕ) (q : List ℕ) where
  -- a written value does not change the first number of the related pairs
  first_written : (ps : List (Numbered K V)) (i : ℕ) (w : V) → first_number (subtree (bytes kb) (with_value ps i w) q) ≡ first_number (subtree (bytes kb) ps q)
  first_written [] i w = refl
  first_written (p ∷ ps) i w = elim (eqb_tells p.0 i) [
    | inl t ↦ rw t.0 (elim (related (kb p.1.0) q) as (λ b. first_number (cond b ((p.0, (p.1.0, w)) ∷ subtree (bytes kb) ps q) (subtree (bytes kb) ps q)) ≡ first_number (cond b (p ∷ subtree (bytes kb) ps q) (subtree (bytes kb) ps q))) [ true ↦ refl | false ↦ refl ])
    | inr t ↦ rw t.0 (elim (related (kb p.1.0) q) as (λ b. first_number (cond b (p ∷ subtree (bytes kb) (with_value ps i w) q) (subtree (bytes kb) (with_value ps i w) q)) ≡ first_number (cond b (p ∷ subtree (bytes kb) ps q) (subtree (bytes kb) ps q))) [ true ↦ refl | false ↦ first_written ps i w ])
  ]

  -- the last number of the list, or n if it is empty
  abbrev last_from : ℕ → List (Numbered K V) → ℕ
  last_from n [] = n
  last_from n (p ∷ ps) = last_from p.0 ps

  last_is : (p : Numbered K V) (ps : List (Numbered K V)) → last_number (p ∷ ps) ≡ Some (last_from p.0 ps)
  last_is p [] = refl
  last_is p (r ∷ ps) = last_is r ps

  -- a written value does not change it
  same_from : (n : ℕ) (ps : List (Numbered K V)) (i : ℕ) (w : V) → last_from n (subtree (bytes kb) (with_value ps i w) q) ≡ last_from n (subtree (bytes kb) ps q)
  same_from n [] i w = refl
  same_from n (p ∷ ps) i w = elim (eqb_tells p.0 i) [
    | inl t ↦ rw t.0 (elim (related (kb p.1.0) q) as (λ b. last_from n (cond b ((p.0, (p.1.0, w)) ∷ subtree (bytes kb) ps q) (subtree (bytes kb) ps q)) ≡ last_from n (cond b (p ∷ subtree (bytes kb) ps q) (subtree (bytes kb) ps q))) [ true ↦ refl | false ↦ refl ])
    | inr t ↦ rw t.0 (elim (related (kb p.1.0) q) as (λ b. last_from n (cond b (p ∷ subtree (bytes kb) (with_value ps i w) q) (subtree (bytes kb) (with_value ps i w) q)) ≡ last_from n (cond b (p ∷ subtree (bytes kb) ps q) (subtree (bytes kb) ps q))) [ true ↦ same_from p.0 ps i w | false ↦ same_from n ps i w ])
  ]

  -- a written value does not change the last number of the related pairs
  last_written : (ps : List (Numbered K V)) (i : ℕ) (w : V) → last_number (subtree (bytes kb) (with_value ps i w) q) ≡ last_number (subtree (bytes kb) ps q)
  last_written [] i w = refl
  last_written (p ∷ ps) i w = elim (eqb_tells p.0 i) [
    | inl t ↦ rw t.0 (elim (related (kb p.1.0) q) as (λ b. last_number (cond b ((p.0, (p.1.0, w)) ∷ subtree (bytes kb) ps q) (subtree (bytes kb) ps q)) ≡ last_number (cond b (p ∷ subtree (bytes kb) ps q) (subtree (bytes kb) ps q))) [ true ↦ last_is (p.0, (p.1.0, w)) (subtree (bytes kb) ps q) ∙ sym (last_is p (subtree (bytes kb) ps q)) | false ↦ refl ])
    | inr t ↦ rw t.0 (elim (related (kb p.1.0) q) as (λ b. last_number (cond b (p ∷ subtree (bytes kb) (with_value ps i w) q) (subtree (bytes kb) (with_value ps i w) q)) ≡ last_number (cond b (p ∷ subtree (bytes kb) ps q) (subtree (bytes kb) ps q))) [ true ↦ last_is p (subtree (bytes kb) (with_value ps i w) q) ∙ ap (λ n. Some n) (same_from p.0 ps i w) ∙ sym (last_is p (subtree (bytes kb) ps q)) | false ↦ last_written ps i w ])
  ]

  -- so the related pairs lie between the same numbers
  pub spans_written : (ps : List (Numbered K V)) (i : ℕ) (w : V) (first last : ℕ) → spans kb ps q first last ≡ true → spans kb (with_value ps i w) q first last ≡ true
  spans_written ps i w first last h =
      ap (λ o. cond (is_number o first) (is_number (last_number (subtree (bytes kb) (with_value ps i w) q)) last) false) (first_written ps i w)
      ∙ ap (λ o. cond (is_number (first_number (subtree (bytes kb) ps q)) first) (is_number o last) false) (last_written ps i w) ∙ h

module _ {K V : Type 0} (kb : K → List ℕ) (ps : List (Numbered K V)) (q : List ℕ) (first last : ℕ) where
  -- what the test of the ends says
  pub from_spans : spans kb ps q first last ≡ true → Spans kb ps q first last
  from_spans h =
      let b = both_true (is_number (first_number (subtree (bytes kb) ps q)) first) (is_number (last_number (subtree (bytes kb) ps q)) last) h in
      record { first_is = is_number_Some (first_number (subtree (bytes kb) ps q)) first b.0; last_is = is_number_Some (last_number (subtree (bytes kb) ps q)) last b.1 }

  -- and which numbers pass it
  pub to_spans : first_number (subtree (bytes kb) ps q) ≡ Some first → last_number (subtree (bytes kb) ps q) ≡ Some last → spans kb ps q first last ≡ true
  to_spans e f =
      ap (λ o. cond (is_number o first) (is_number (last_number (subtree (bytes kb) ps q)) last) false) e
      ∙ ap (λ b. cond b (is_number (last_number (subtree (bytes kb) ps q)) last) false) (eq-eqb first first refl)
      ∙ ap (λ o. is_number o last) f ∙ eq-eqb last last refl

  module _ (content : IsContent (bytes kb) ps) (distinct : AreDistinct ps) (h : spans kb ps q first last ≡ true) where
    pub inner_has : Has ps first
    inner_has = first_has kb ps content distinct q first last (from_spans h)

    pub inner_span : IsSpan ps first last × (span_of ps first last ≡ subtree (bytes kb) ps q)
    inner_span = let s = from_spans h in subtree_span kb ps content distinct q first last s.first_is s.last_is

    -- the related pairs without their numbers
    pub subtree_pairs : subtree (pair_bytes kb) (pairs_of ps) q ≡ pairs_of (subtree (bytes kb) ps q)
    subtree_pairs = filter-map (λ p. p.1) (λ x. related (kb x.0) q) ps

    -- if the ends are equal, their pair is the only related one
    pub one_pair : first ≡ last → leaf_in ps first ≡ only (subtree (pair_bytes kb) (pairs_of ps) q)
    one_pair same =
        let s = from_spans h in
        let o = only_one (subtree (bytes kb) ps q) first (AreDistinct-filter (λ p. related (bytes kb p) q) ps distinct) s.first_is (s.last_is ∙ ap (λ n. Some n) (sym same)) in
        let m : Member (first, o.0) (subtree (bytes kb) ps q) = subst (Member (first, o.0)) (sym o.1) (inl refl) in
        leaf_in-member ps first o.0 distinct (filter_member (λ p. related (bytes kb p) q) ps (first, o.0) m).0
        ∙ sym (ap only (subtree_pairs ∙ ap pairs_of o.1))

    -- if they are not equal, there are more related pairs
    pub more_pairs : first ≢ last → None ≡ only (subtree (pair_bytes kb) (pairs_of ps) q)
    more_pairs off =
        let s = from_spans h in
        let e = two_ends (subtree (bytes kb) ps q) first last s.first_is s.last_is off in
        sym (ap only (subtree_pairs ∙ ap pairs_of e.is))

    -- there is just one related pair if and only if the ends are equal
    pub only_tested : eqb first last ≡ is_some (only (subtree (pair_bytes kb) (pairs_of ps) q))
    only_tested = elim (eqb_tells first last) [
      | inl t ↦ t.0 ∙ ap (λ o. is_some o) (sym (some_of (leaf_in ps first) inner_has).1 ∙ one_pair t.1)
      | inr f ↦ f.0 ∙ ap (λ o. is_some o) (more_pairs (λ e. false≢true (sym f.0 ∙ ap (λ n. eqb first n) (sym e) ∙ eq-eqb first first refl)))
    ]

    -- an entry of the first number, returned if the ends are equal, has the only related pair
    pub only_answered : {O : Type 0} (now : O → List (Numbered K V)) (id : O → ℕ) (r : Option O) → is_some r ≡ eqb first last → IfSome r (λ o. now o ≡ ps) → IfSome r (λ o. id o ≡ first) → IfSome r (λ o. leaf_in (now o) (id o) ≡ only (subtree (pair_bytes kb) (pairs_of ps) q))
    only_answered now id None e f h = tt
    only_answered now id (Some o) e f h = ap (λ l. leaf_in l (id o)) f ∙ ap (leaf_in ps) h ∙ one_pair (tested first last e)

    -- a value is written at the only related pair
    pub only_written : (w : V) → IfSome (only (subtree (pair_bytes kb) (pairs_of ps) q)) (λ p. Updates kb (pairs_of ps) (pairs_of (with_value ps first w)) (kb p.0) (Some (p.0, w)) × (length (pairs_of (with_value ps first w)) ≡ length (pairs_of ps)))
    only_written w = elim (eqb_tells first last) [
      | inl t ↦ subst Written (one_pair t.1) (there (leaf_in ps first) refl)
      | inr f ↦ subst Written (more_pairs (λ e. false≢true (sym f.0 ∙ ap (λ n. eqb first n) (sym e) ∙ eq-eqb first first refl))) tt
    ]
      where
        Written : Option (K × V) → Type 0
        Written o = IfSome o (λ p. Updates kb (pairs_of ps) (pairs_of (with_value ps first w)) (kb p.0) (Some (p.0, w)) × (length (pairs_of (with_value ps first w)) ≡ length (pairs_of ps)))

        there : (o : Option (K × V)) → leaf_in ps first ≡ o → Written o
        there None e = tt
        there (Some x) e = rewritten kb ps content distinct first x e w
