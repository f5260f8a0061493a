-- A value that is written under a number, as seen in the pairs.
use Rattle.std.proofs.Common.{◌≡◌, ℕ, Bool, true, false, cond, inl, inr, List, [], ◌∷◌, ◌++◌, map, refl, sym, ap, ◌∙◌, subst, Some, option_map, find, bytes_eq}
use Rattle.std.proofs.lemmas.Bool.{false_from_ne_true}
use Rattle.std.proofs.lemmas.List.{map-append}
use Rattle.std.specs.Cmp.Lexicographic.{bytes_decides}
use Rattle.blart_keys.specs.Bytes.{begins}
use Rattle.blart_keys.specs.Content.{IsContent}
use Rattle.blart_keys.proofs.ByteLemmas.{fronts_related}
use Rattle.blart_keys.proofs.ContentLemmas.{related-same, same_item}
use Rattle.blart_keys.proofs.RankLemmas.{Member, Member-append_left, Member-append_right, find_found}
use Rattle.art_tree.specs.Leaves.{Numbered, leaf_in, AreDistinct, Lacks, with_value, bytes}
use Rattle.art_tree.specs.Pairs.{pairs_of}
use Rattle.art_tree.proofs.CallerLemmas.{with_value-split, distinct_parts}
use Rattle.art_edits.proofs.Numbers.{cut_at, found}

-- a pair of the list has no number that the list lacks
lacks_of_member : {K V : Type 0} (ps : List (Numbered K V)) (i : ℕ) (y : Numbered K V) → Lacks ps i → Member y ps → y.0 ≡ i → ⊥
lacks_of_member [] i y l m h = absurd m
lacks_of_member {K} {V} (p ∷ ps) i y l (inl e) h = l.0 (ap (λ (x : Numbered K V). x.0) e ∙ h)
lacks_of_member (p ∷ ps) i y l (inr m) h = lacks_of_member ps i y l.1 m h

module _ {K V : Type 0} (test : K → Bool) where
  -- the pair, with this value if the test passes
  abbrev written : V → K × V → K × V
  written v p = cond (test p.0) (p.0, v) p

  -- if no pair passes, nothing is written
  kept : (v : V) (ps : List (Numbered K V)) → ((y : Numbered K V) → Member y ps → test y.1.0 ≡ false) → map (written v) (pairs_of ps) ≡ pairs_of ps
  kept v [] none = refl
  kept v (p ∷ ps) none = rw (none p (inl refl)) (ap (λ l. p.1 ∷ l) (kept v ps (λ y m. none y (inr m))))

  -- if only one pair passes, the value is written there
  pub written_once : (ps : List (Numbered K V)) (id : ℕ) (x : K × V) → AreDistinct ps → leaf_in ps id ≡ Some x → test x.0 ≡ true → ((y : Numbered K V) → Member y ps → test y.1.0 ≡ true → y.0 ≡ id) → (v : V) → pairs_of (with_value ps id v) ≡ map (written v) (pairs_of ps)
  written_once ps id x distinct l passes only v =
      let c = cut_at ps id x l in
      let d = distinct_parts c.before c.after (id, x) (subst AreDistinct c.is distinct) in
      let fails_before : (y : Numbered K V) → Member y c.before → test y.1.0 ≡ false = λ y m. false_from_ne_true (test y.1.0) (λ t. lacks_of_member c.before id y d.0 m (only y (subst (Member y) (sym c.is) (Member-append_left y c.before ((id, x) ∷ c.after) m)) t)) in
      let fails_after : (y : Numbered K V) → Member y c.after → test y.1.0 ≡ false = λ y m. false_from_ne_true (test y.1.0) (λ t. lacks_of_member c.after id y d.1 m (only y (subst (Member y) (sym c.is) (Member-append_right y c.before ((id, x) ∷ c.after) (inr m))) t)) in
      let new : pairs_of (with_value ps id v) ≡ pairs_of c.before ++ (x.0, v) ∷ pairs_of c.after =
      ap (λ l. pairs_of (with_value l id v)) c.is ∙ ap pairs_of (with_value-split id x c.after v c.before c.lacks) ∙ map-append (λ (p : Numbered K V). p.1) c.before ((id, (x.0, v)) ∷ c.after) in
      let old : map (written v) (pairs_of ps) ≡ map (written v) (pairs_of c.before) ++ written v x ∷ map (written v) (pairs_of c.after) =
      ap (λ l. map (written v) (pairs_of l)) c.is ∙ ap (map (written v)) (map-append (λ (p : Numbered K V). p.1) c.before ((id, x) ∷ c.after)) ∙ map-append (written v) (pairs_of c.before) (x ∷ pairs_of c.after) in
      let here : written v x ≡ (x.0, v) = rw passes refl in
      new ∙ sym (old ∙ (λ j. kept v c.before fails_before j ++ here j ∷ kept v c.after fails_after j))

module _ {K V : Type 0} (kb : K → List ℕ) (ps : List (Numbered K V)) (content : IsContent (bytes kb) ps) (distinct : AreDistinct ps) (q : List ℕ) (id : ℕ) where
  -- a value written at the bytes found
  pub written_found : Some id ≡ option_map (λ (p : Numbered K V). p.0) (find (λ (p : Numbered K V). bytes_eq (kb p.1.0) q) ps) → (v : V) → pairs_of (with_value ps id v) ≡ map (written (λ k. bytes_eq (kb k) q) v) (pairs_of ps)
  written_found e v =
      let r = found ps distinct (λ x. bytes_eq (kb x.0) q) id e in
      let f = find_found (λ (p : Numbered K V). bytes_eq (kb p.1.0) q) ps (id, r.0) r.1 in
      written_once (λ k. bytes_eq (kb k) q) ps id r.0 distinct r.2 f.1
      (λ y m t. ap (λ (p : Numbered K V). p.0) (same_item (bytes kb) ps content y (id, r.0) m f.0 (related-same (bytes kb y) (kb r.0.0) ((bytes_decides (bytes kb y) q).0 t ∙ sym ((bytes_decides (kb r.0.0) q).0 f.1)))))
      v

  -- a value written at the prefix found
  pub written_front : Some id ≡ option_map (λ (p : Numbered K V). p.0) (find (λ (p : Numbered K V). begins (kb p.1.0) q) ps) → (v : V) → pairs_of (with_value ps id v) ≡ map (written (λ k. begins (kb k) q) v) (pairs_of ps)
  written_front e v =
      let r = found ps distinct (λ x. begins (kb x.0) q) id e in
      let f = find_found (λ (p : Numbered K V). begins (kb p.1.0) q) ps (id, r.0) r.1 in
      written_once (λ k. begins (kb k) q) ps id r.0 distinct r.2 f.1
      (λ y m t. ap (λ (p : Numbered K V). p.0) (same_item (bytes kb) ps content y (id, r.0) m f.0 (fronts_related (bytes kb y) (kb r.0.0) q t f.1)))
      v
