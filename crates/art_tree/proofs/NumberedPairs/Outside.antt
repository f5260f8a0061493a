-- The pairs that begin with some bytes are removed, from the first to the last.
use Rattle.std.proofs.Common.{◌≡◌, ◌≢◌, ℕ, List, [], ◌∷◌, ◌++◌, not, true, Some, None, inl, inr, refl, sym, ap, ◌∙◌, subst, cond, append_assoc, eq-eqb}
use Rattle.std.proofs.lemmas.Bool.Decides.{eqb_tells}
use Rattle.blart_keys.specs.Bytes.{begins}
use Rattle.blart_keys.specs.Content.{IsContent, under}
use Rattle.blart_keys.specs.Outside.{outside}
use Rattle.blart_keys.proofs.ContentLemmas.{under_is_part}
use Rattle.blart_keys.proofs.Options.{some_of, is_some}
use Rattle.blart_keys.proofs.OutsideLemmas.{outside_all}
use Rattle.blart_keys.proofs.RankLemmas.{filter_member}
use Rattle.art_tree.specs.Leaves.{Numbered, leaf_in, Has, AreDistinct, last_number, number_after, without_number, bytes}
use Rattle.art_tree.specs.Seeks.{ends}
use Rattle.art_rows.proofs.CallerLemmas.{Has-first, distinct_parts, number_after-split, others-without_number, leaf_in-without_now}
use Rattle.art_tree.proofs.NumberedPairs.Bounds.{are_ends, ends_are, no_pairs_between}
use Rattle.art_tree.proofs.NumberedPairs.Filtering.{AreDistinct-filter, filter-without, dropped_without, two_ends, only_one}
use Rattle.art_tree.proofs.NumberedPairs.Numbers.{Member-from_leaf_in, leaf_in-member}

module _ {K V : Type 0} where
  module _ (key_bytes : K → List ℕ) (ps : List (Numbered K V)) (q : List ℕ) where
    -- if there are none, all pairs remain
    pub none_below : None ≡ ends (under (bytes key_bytes) ps q) → outside (bytes key_bytes) ps q ≡ ps
    none_below e = outside_all (bytes key_bytes) ps q (no_pairs_between (under (bytes key_bytes) ps q) (sym e))

    module _ (distinct : AreDistinct ps) (first last : ℕ) (is : ends (under (bytes key_bytes) ps q) ≡ Some (first, last)) where
      -- the first of them is there, and begins with q
      pub first_there : (x : K × V) × (leaf_in ps first ≡ Some x) × (begins q (key_bytes x.0) ≡ true)
      first_there =
          let below : List (Numbered K V) = under (bytes key_bytes) ps q in
          let has = some_of (leaf_in below first) (Has-first below first (are_ends below first last is).0) in
          let m = filter_member (λ x. begins q (bytes key_bytes x)) ps (first, has.0) (Member-from_leaf_in below first has.0 has.1) in
          (has.0, leaf_in-member ps first has.0 distinct m.0, m.1)

      pub first_has : Has ps first
      first_has = let r = first_there in is_some (leaf_in ps first) r.0 r.1

      -- once it is removed, the pairs that are to remain are the same
      pub outside_without : outside (bytes key_bytes) (without_number ps first) q ≡ outside (bytes key_bytes) ps q
      outside_without =
          let r = first_there in
          dropped_without (λ p. not (begins q (bytes key_bytes p))) ps first (λ x e.
          let a : Some r.0 ≡ Some x = sym r.1 ∙ e in
          let b : r.0 ≡ x = cc in
          ap not (subst (λ (z : K × V). begins q (key_bytes z.0) ≡ true) b r.2))

      -- after it, if it is not the last, is the next of them
      pub next_below : IsContent (bytes key_bytes) ps → first ≢ last → (n : ℕ) × (number_after ps first ≡ Some n) × (ends (under (bytes key_bytes) (without_number ps first) q) ≡ Some (n, last))
      next_below content off =
          let below : List (Numbered K V) = under (bytes key_bytes) ps q in
          let both = are_ends below first last is in
          let e = two_ends below first last both.0 both.1 off in
          let part = under_is_part (bytes key_bytes) ps q content in
          let cut : ps ≡ part.before ++ (first, e.pair) ∷ e.second ∷ (e.rest ++ part.after) = part.is ∙ append_assoc part.before below part.after ∙ ap (λ l. part.before ++ (l ++ part.after)) e.is in
          let lacks = (distinct_parts part.before (e.second ∷ (e.rest ++ part.after)) (first, e.pair) (subst AreDistinct cut distinct)).0 in
          let left : under (bytes key_bytes) (without_number ps first) q ≡ e.second ∷ e.rest =
          filter-without (λ p. begins q (bytes key_bytes p)) ps first distinct ∙ ap (λ l. without_number l first) e.is ∙ ap (λ b. cond b (e.second ∷ e.rest) ((first, e.pair) ∷ without_number (e.second ∷ e.rest) first)) (eq-eqb first first refl) in
          let low : last_number (e.second ∷ e.rest) ≡ Some last = sym (ap last_number e.is) ∙ both.1 in (
            e.second.0,
            ap (λ l. number_after l first) cut ∙ number_after-split first e.pair (e.second ∷ (e.rest ++ part.after)) part.before lacks,
            ap ends left ∙ ends_are (e.second ∷ e.rest) e.second.0 last refl low,
          )

      -- if it is the last, it is the only one
      pub outside_last : first ≡ last → without_number ps first ≡ outside (bytes key_bytes) ps q
      outside_last same =
          let below : List (Numbered K V) = under (bytes key_bytes) ps q in
          let both = are_ends below first last is in
          let o = only_one below first (AreDistinct-filter (λ p. begins q (bytes key_bytes p)) ps distinct) both.0 (both.1 ∙ ap (λ (n : ℕ). Some n) (sym same)) in
          let none : under (bytes key_bytes) (without_number ps first) q ≡ [] =
          filter-without (λ p. begins q (bytes key_bytes p)) ps first distinct ∙ ap (λ l. without_number l first) o.1 ∙ ap (λ b. cond b [] ((first, o.0) ∷ [])) (eq-eqb first first refl) in
          sym (outside_all (bytes key_bytes) (without_number ps first) q none) ∙ outside_without

module _ {K V : Type 0} where
  -- a pair that remains after a removal was there before
  pub stood_without : (ps : List (Numbered K V)) (i : ℕ) → AreDistinct ps → (j : ℕ) (x : K × V) → leaf_in (without_number ps i) j ≡ Some x → leaf_in ps j ≡ Some x
  stood_without ps i d j x e = elim (eqb_tells j i) [
    | inl t ↦
        let f : leaf_in (without_number ps i) i ≡ Some x = ap (leaf_in (without_number ps i)) (sym t.1) ∙ e in
        let n : leaf_in (without_number ps i) i ≡ None = leaf_in-without_now ps i d in
        let z : None ≡ Some x = sym n ∙ f in
        absurd cc
    | inr t ↦ sym (others-without_number ps i d j t.1) ∙ e
  ]
