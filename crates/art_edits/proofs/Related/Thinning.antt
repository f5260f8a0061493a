-- All pairs related to some bytes but one are removed.
use Rattle.std.proofs.Common.{◌≡◌, ◌≢◌, ℕ, Bool, true, false, not, cond, inl, inr, List, [], ◌∷◌, ◌++◌, refl, sym, ap, ◌∙◌, subst, append_assoc, eqb, Some, None, Contains, eq-eqb}
use Rattle.std.proofs.lemmas.Bool.{false≢true, false_from_ne_true, eqb-true}
use Rattle.std.proofs.lemmas.Bool.Decides.{eqb_tells}
use Rattle.blart_keys.specs.Bytes.{related}
use Rattle.blart_keys.specs.Content.{IsContent, IsPut, IsOver, subtree}
use Rattle.blart_keys.specs.Steps.{bytes as pair_bytes}
use Rattle.blart_keys.proofs.RankLemmas.{Member, Contains-from_Member, Member-from_Contains, filter_member, filter_none, member_filter}
use Rattle.blart_keys.proofs.ContentLemmas.{related-same}
use Rattle.blart_keys.proofs.PartsOfContents.{subtree_is_part}
use Rattle.art_tree.specs.Leaves.{Numbered, leaf_in, Has, AreDistinct, OthersStand, first_number, last_number, number_after, without_number, with_pair, bytes}
use Rattle.art_tree.specs.Takes.{MayTake}
use Rattle.art_tree.proofs.CallerLemmas.{AreDistinct-filter, filter-without, dropped_without, filter_every, two_ends, only_one, leaf_in-member, Member-from_leaf_in, number_after-split, distinct_parts, leaf_in-with_now, others-with_pair}
use Rattle.blart_keys.proofs.Options.{is_some}
use Rattle.art_edits.specs.Spans.{Spans, UnrelatedStand, LeavesOne, thinned}
use Rattle.blart_keys.proofs.Mapped.{filter-map, Member-map, Member-from_map, content_map}
use Rattle.art_tree.specs.Pairs.{pairs_of}

module _ {K V : Type 0} (kb : K → List ℕ) (ps : List (Numbered K V)) (content : IsContent (bytes kb) ps) (distinct : AreDistinct ps) (q : List ℕ) where
  -- the first of the related pairs exists, and its key is related
  pub first_there : (first last : ℕ) → Spans kb ps q first last → (x : K × V) × (leaf_in ps first ≡ Some x) × (related (kb x.0) q ≡ true)
  first_there first last s =
      let r = member_of (subtree (bytes kb) ps q) first s.first_is in
      let m = filter_member (λ p. related (bytes kb p) q) ps (first, r.0) r.1 in
      (r.0, leaf_in-member ps first r.0 distinct m.0, m.1)
    where
      member_of : (S : List (Numbered K V)) (i : ℕ) → first_number S ≡ Some i → (x : K × V) × Member (i, x) S
      member_of [] i e = absurd cc
      member_of (p ∷ S) i e = let a : p.0 ≡ i = cc in (p.1, inl (λ j. (a j, p.1)))

  -- the list has the number of that pair
  pub first_has : (first last : ℕ) → Spans kb ps q first last → Has ps first
  first_has first last s = let r = first_there first last s in is_some (leaf_in ps first) r.0 r.1

  -- if the first of the related pairs is not the last, the next pair is the next of them
  pub next_there : (first last : ℕ) → Spans kb ps q first last → first ≢ last → (n : ℕ) × (number_after ps first ≡ Some n) × Spans kb (without_number ps first) q n last
  next_there first last s off =
      let e = two_ends (subtree (bytes kb) ps q) first last s.first_is s.last_is off in
      let part = subtree_is_part (bytes kb) ps q content in
      let cut : ps ≡ part.before ++ (first, e.pair) ∷ e.second ∷ (e.rest ++ part.after) = part.is ∙ append_assoc part.before (subtree (bytes kb) ps q) part.after ∙ ap (λ l. part.before ++ (l ++ part.after)) e.is in
      let lacks = (distinct_parts part.before (e.second ∷ (e.rest ++ part.after)) (first, e.pair) (subst AreDistinct cut distinct)).0 in
      let left : subtree (bytes kb) (without_number ps first) q ≡ e.second ∷ e.rest =
      filter-without (λ p. related (bytes kb p) q) ps first distinct ∙ ap (λ l. without_number l first) e.is ∙ ap (λ b. cond b (e.second ∷ e.rest) ((first, e.pair) ∷ without_number (e.second ∷ e.rest) first)) (eq-eqb first first refl) in (
        e.second.0,
        ap (λ l. number_after l first) cut ∙ number_after-split first e.pair (e.second ∷ (e.rest ++ part.after)) part.before lacks,
        record { first_is = ap first_number left; last_is = ap last_number left ∙ sym (ap last_number e.is) ∙ s.last_is },
      )

  -- without a related pair, the pairs that are not related are unchanged
  pub unrelated_without : (id last : ℕ) → Spans kb ps q id last → (new : List (Numbered K V)) → OthersStand ps new id → leaf_in new id ≡ None → UnrelatedStand kb ps q new
  unrelated_without id last s new others gone j x u =
      let r = first_there id last s in
      elim (eqb_tells id j) [
        | inl t ↦ (
          λ h. absurd (let a : leaf_in new j ≡ None = ap (leaf_in new) (sym t.1) ∙ gone in let b : None ≡ Some x = sym a ∙ h in cc),
          λ h. absurd (let a : leaf_in ps id ≡ Some x = ap (leaf_in ps) t.1 ∙ h in let b : Some r.0 ≡ Some x = sym r.1 ∙ a in let c : r.0 ≡ x = cc in false≢true (sym u ∙ subst (λ (z : K × V). related (kb z.0) q ≡ true) c r.2)),
        )
        | inr f ↦ let e = others j (λ h. f.1 (sym h)) in (λ h. sym e ∙ h, λ h. e ∙ h)
      ]

  -- a key with these bytes may replace the only related key
  pub one_takes : (id : ℕ) → Spans kb ps q id id → MayTake kb ps id q
  one_takes id s =
      let r = first_there id id s in
      let o = only_one (subtree (bytes kb) ps q) id (AreDistinct-filter (λ p. related (bytes kb p) q) ps distinct) s.first_is s.last_is in
      record {
        own = λ x e. (let a : Some r.0 ≡ Some x = sym r.1 ∙ e in let b : r.0 ≡ x = cc in subst (λ (z : K × V). related (kb z.0) q ≡ true) b r.2);
        others = λ p m off. false_from_ne_true (related (bytes kb p) q) (λ t.
            let n = subst (Member p) o.1 (member_filter (λ p. related (bytes kb p) q) ps p (Member-from_Contains p ps m) t) in
            elim n [ inl e ↦ off (ap (λ (z : Numbered K V). z.0) (sym e)) | inr z ↦ absurd z ]);
      }

  -- if the first of the related pairs is not the last, it is one of the removed pairs
  pub thinned_without : (first last : ℕ) → Spans kb ps q first last → first ≢ last → thinned kb (without_number ps first) q last ≡ thinned kb ps q last
  thinned_without first last s off =
      let r = first_there first last s in
      dropped_without (λ p. cond (related (bytes kb p) q) (eqb p.0 last) true) ps first (λ x e.
      let a : Some r.0 ≡ Some x = sym r.1 ∙ e in
      let b : r.0 ≡ x = cc in
      let rel = subst (λ (z : K × V). related (kb z.0) q ≡ true) b r.2 in
      ap (λ t. cond t (eqb first last) true) rel ∙ false_from_ne_true (eqb first last) (λ t. off (eqb-true first last t)))

  -- if the first of the related pairs is the last, all pairs are kept
  pub thinned_one : (id : ℕ) → Spans kb ps q id id → ps ≡ thinned kb ps q id
  thinned_one id s =
      let o = only_one (subtree (bytes kb) ps q) id (AreDistinct-filter (λ p. related (bytes kb p) q) ps distinct) s.first_is s.last_is in
      sym (filter_every (λ p. cond (related (bytes kb p) q) (eqb p.0 id) true) ps (λ y m. kept y m o (related (bytes kb y) q) refl))
    where
      kept : (y : Numbered K V) → Member y ps → (x : K × V) × (subtree (bytes kb) ps q ≡ (id, x) ∷ []) → (b : Bool) → related (bytes kb y) q ≡ b → cond (related (bytes kb y) q) (eqb y.0 id) true ≡ true
      kept y m o false e = ap (λ t. cond t (eqb y.0 id) true) e
      kept y m o true e =
          ap (λ t. cond t (eqb y.0 id) true) e
          ∙ elim (subst (Member y) o.1 (member_filter (λ p. related (bytes kb p) q) ps y m e)) [ inl same ↦ eq-eqb y.0 id (ap (λ (z : Numbered K V). z.0) (sym same)) | inr none ↦ absurd none ]

-- numbers that fail a test for difference are equal
pub same_number : (a b : ℕ) → false ≡ not (eqb a b) → a ≡ b
same_number a b e = elim (eqb_tells a b) [ inl t ↦ t.1 | inr f ↦ absurd (false≢true (e ∙ ap not f.0)) ]

-- what is unchanged by two changes is unchanged
pub stand_on : {K V : Type 0} (kb : K → List ℕ) (old mid new : List (Numbered K V)) (q : List ℕ) → UnrelatedStand kb old q mid → UnrelatedStand kb mid q new → UnrelatedStand kb old q new
stand_on kb old mid new q f g j x u = let a = f j x u in let b = g j x u in (λ h. a.0 (b.0 h), λ h. b.1 (a.1 h))

-- an item that is put is put over the related items
pub over_of_put : {X : Type 0} (bytes : X → List ℕ) (S S' : List X) (x : X) → IsPut bytes S x S' → IsOver bytes S x S'
over_of_put bytes S S' x p = record {
  content = p.content;
  there = p.there;
  others = λ y u. p.others y (λ e. false≢true (sym u ∙ related-same (bytes y) (bytes x) e));
}

-- if no numbered pair is related, no pair is related
pub no_subtree_pairs : {K V : Type 0} (kb : K → List ℕ) (ps : List (Numbered K V)) (q : List ℕ) → ((y : Numbered K V) → Member y ps → related (bytes kb y) q ≡ false) → subtree (pair_bytes kb) (pairs_of ps) q ≡ []
no_subtree_pairs kb ps q alone = filter-map (λ p. p.1) (λ x. related (kb x.0) q) ps ∙ ap pairs_of (filter_none (λ x. related (bytes kb x) q) ps alone)

-- the pair is put over the related pairs
pub over_one : {K V : Type 0} (kb : K → List ℕ) (old mid new : List (Numbered K V)) (id : ℕ) (x : K × V) → AreDistinct old → IsContent (bytes kb) mid → AreDistinct mid → IsContent (bytes kb) new → AreDistinct new
    → LeavesOne kb old (kb x.0) id mid → new ≡ with_pair mid id x → IsOver (pair_bytes kb) (pairs_of old) x (pairs_of new)
over_one {K} {V} kb old mid new id x d c m content distinct one e =
    let has = first_has kb mid c m (kb x.0) id id one.one in
    let now : leaf_in new id ≡ Some x = ap (λ l. leaf_in l id) e ∙ leaf_in-with_now mid id x has in
    let stand : OthersStand mid new id = subst (λ l. OthersStand mid l id) (sym e) (others-with_pair mid id x) in
    let r = first_there kb mid c m (kb x.0) id id one.one in
    let own = related-same (kb x.0) (kb x.0) refl in
    let through : UnrelatedStand kb mid (kb x.0) new = λ j y u.
    elim (eqb_tells id j) [
      | inl t ↦ (
        λ h. absurd (let a : Some x ≡ Some y = sym now ∙ ap (leaf_in new) t.1 ∙ h in let b : x ≡ y = cc in false≢true (sym u ∙ subst (λ (z : K × V). related (kb z.0) (kb x.0) ≡ true) b own)),
        λ h. absurd (let a : Some r.0 ≡ Some y = sym r.1 ∙ ap (leaf_in mid) t.1 ∙ h in let b : r.0 ≡ y = cc in false≢true (sym u ∙ subst (λ (z : K × V). related (kb z.0) (kb x.0) ≡ true) b r.2)),
      )
      | inr f ↦ let e = stand j (λ h. f.1 (sym h)) in (λ h. sym e ∙ h, λ h. e ∙ h)
    ] in
    let names = stand_on kb old mid new (kb x.0) one.others through in
    record {
      content = content_map (λ p. p.1) (pair_bytes kb) new content;
      there = Contains-from_Member x (pairs_of new) (Member-map (λ (p : Numbered K V). p.1) (id, x) new (Member-from_leaf_in new id x now));
      others = λ y u. (
        λ h. across new old distinct y u (λ j z v. (names j z v).0) h,
        λ h. across old new d y u (λ j z v. (names j z v).1) h,
      );
    }
  where
    across : (a b : List (Numbered K V)) → AreDistinct a → (y : K × V) → related (kb y.0) (kb x.0) ≡ false → ((j : ℕ) (z : K × V) → related (kb z.0) (kb x.0) ≡ false → leaf_in a j ≡ Some z → leaf_in b j ≡ Some z) → Contains (pairs_of a) y → Contains (pairs_of b) y
    across a b da y u f h =
        let p = Member-from_map (λ (p : Numbered K V). p.1) y a (Member-from_Contains y (pairs_of a) h) in
        let l = leaf_in-member a p.0.0 p.0.1 da p.1 in
        let v = subst (λ (z : K × V). related (kb z.0) (kb x.0) ≡ false) (sym p.2) u in
        Contains-from_Member y (pairs_of b) (subst (λ z. Member z (pairs_of b)) p.2 (Member-map (λ (p : Numbered K V). p.1) p.0 b (Member-from_leaf_in b p.0.0 p.0.1 (f p.0.0 p.0.1 v l))))
