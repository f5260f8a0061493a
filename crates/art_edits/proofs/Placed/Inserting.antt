-- What a point tells about an insertion at it.
use Rattle.std.proofs.Common.{◌≡◌, ℕ, true, false, ◌⊎◌, inl, inr, List, refl, sym, ap, ◌∙◌, subst, Some, None, Ok, option_map, bytes_eq, subst₂}
use Rattle.std.proofs.lemmas.Bool.{false≢true, false_from_ne_true, or_cases}
use Rattle.blart_keys.specs.Bytes.{begins, related}
use Rattle.blart_keys.specs.Content.{IsContent, IsPut, at, conflict}
use Rattle.blart_keys.specs.Keys.{NoFronts}
use Rattle.blart_keys.specs.Steps.{bytes as pair_bytes, Puts}
use Rattle.blart_keys.proofs.RankLemmas.{Member, Member-from_Contains}
use Rattle.blart_keys.proofs.ContentLemmas.{at_Some, same_item, related-same, stored_no_conflict}
use Rattle.blart_keys.proofs.PutLemmas.{put_at}
use Rattle.art_tree.specs.Begins.{Bytes}
use Rattle.art_tree.specs.Content.{IsOpen}
use Rattle.art_tree.specs.Leaves.{Numbered, leaf_in, Has, AreDistinct, with_pair, bytes}
use Rattle.art_tree.specs.Points.{IsGood}
use Rattle.art_tree.specs.Takes.{MayTake}
use Rattle.art_tree.specs.declared.tree.point.Gap.{Gap}
use Rattle.art_tree.specs.declared.tree.point.Point.{Point}
use Rattle.art_tree.specs.declared.tree.point.Point.TheVariants.{Empty, Exact, Related, Free}
use Rattle.art_tree.proofs.CallerLemmas.{leaf_in-member, Member-from_leaf_in, free_alone}
pub use Rattle.art_tree.proofs.CallerLemmas.{alone_no_conflict, alone_absent, alone_none, conflict_pairs}
use Rattle.blart_keys.proofs.Options.{is_some}
use Rattle.blart_keys.proofs.Mapped.{find-map, content_map}
use Rattle.art_tree.specs.Pairs.{pairs_of}
use Rattle.art_edits.proofs.Numbers.{cut_at, cut_pairs, exchanged_pairs}
use Rattle.art_edits.proofs.Related.Thinning.{first_there}

-- a pair may be placed at these points
pub opens : (point : Point) → (point ≡ Empty) ⊎ ((gap : Gap) × (point ≡ Free gap)) → IsOpen point
opens point (inl e) = subst IsOpen (sym e) tt
opens point (inr e) = subst IsOpen (sym e.1) tt

-- a pair may be placed at each point that is neither a leaf nor a conflict
pub opens_else : (point : Point) → ((i : ℕ) → point ≡ Exact i → ⊥) → ((i j : ℕ) → point ≡ Related i j → ⊥) → IsOpen point
opens_else Empty e r = tt
opens_else (Exact id) e r = absurd (e id refl)
opens_else (Related i j) e r = absurd (r i j refl)
opens_else (Free gap) e r = tt

module _ {K V : Type 0} (kb : K → Bytes) (ps : List (Numbered K V)) where
  module _ (content : IsContent (bytes kb) ps) where
    module _ (distinct : AreDistinct ps) (q : Bytes) where
      -- no key is related to a key whose point is open
      pub open_alone : (point : Point) → IsGood kb ps point q → IsOpen point → (y : Numbered K V) → Member y ps → related (bytes kb y) q ≡ false
      open_alone Empty good able y m = absurd (subst (Member y) good m)
      open_alone (Exact id) good able y m = absurd able
      open_alone (Related first last) good able y m = absurd able
      open_alone (Free gap) good able y m = free_alone kb ps content distinct q gap good y m

      -- if the point of a key is not a conflict, the key does not conflict
      pub unrelated_point : (point : Point) → IsGood kb ps point q → ((i j : ℕ) → point ≡ Related i j → ⊥) → conflict (bytes kb) ps q ≡ false
      unrelated_point Empty good never = alone_no_conflict (bytes kb) ps q (open_alone Empty good tt)
      unrelated_point (Exact id) good never =
          let r = at_Some (bytes kb) ps q (id, good.0) good.1 in
          subst (λ q. conflict (bytes kb) ps q ≡ false) r.1 (stored_no_conflict (bytes kb) ps content (id, good.0) r.0)
      unrelated_point (Related first last) good never = absurd (never first last refl)
      unrelated_point (Free gap) good never = alone_no_conflict (bytes kb) ps q (open_alone (Free gap) good tt)

      -- the leaf with the bytes of a key exists
      pub exact_has : (id : ℕ) → IsGood kb ps (Exact id) q → Has ps id
      exact_has id good = is_some (leaf_in ps id) good.0 (leaf_in-member ps id good.0 distinct (at_Some (bytes kb) ps q (id, good.0) good.1).0)

      -- the leaf may take a key with these bytes
      pub exact_takes : (id : ℕ) → IsGood kb ps (Exact id) q → MayTake kb ps id q
      exact_takes id good =
          let r = at_Some (bytes kb) ps q (id, good.0) good.1 in
          let here : leaf_in ps id ≡ Some good.0 = leaf_in-member ps id good.0 distinct r.0 in
          record {
            own = λ x e. related-same (kb x.0) q (let f : Some good.0 ≡ Some x = sym here ∙ e in let g : good.0 ≡ x = cc in sym (ap (λ (z : K × V). kb z.0) g) ∙ r.1);
            others = λ p m off. false_from_ne_true (related (bytes kb p) q) (λ rel.
                let same = same_item (bytes kb) ps content p (id, good.0) (Member-from_Contains p ps m) r.0 (subst (λ l. related (bytes kb p) l ≡ true) (sym r.1) rel) in
                off (ap (λ (z : Numbered K V). z.0) same));
          }

      -- the first related leaf exists, and its key is related
      pub related_first : (first last : ℕ) → IsGood kb ps (Related first last) q → (x : K × V) × (leaf_in ps first ≡ Some x) × (related (kb x.0) q ≡ true)
      related_first first last good = first_there kb ps content distinct q first last (record { first_is = good.1; last_is = good.2 })

    -- ---- the results

    module _ (distinct : AreDistinct ps) (x : K × V) where
      -- a pair that is placed is put, if no pair is related
      pub placed : ((y : Numbered K V) → Member y ps → related (bytes kb y) (kb x.0) ≡ false) → (old new : List (Numbered K V)) → old ≡ ps → IsPut (pair_bytes kb) (pairs_of old) x (pairs_of new) → Puts kb (λ pair. pair) (pairs_of ps) x x (Ok None) (pairs_of new)
      placed alone old new e put = (
        conflict_pairs kb ps (kb x.0) ∙ alone_no_conflict (bytes kb) ps (kb x.0) alone,
        subst (λ S. IsPut (pair_bytes kb) (pairs_of S) x (pairs_of new)) e put,
        sym (find-map (λ p. p.1) (λ y. bytes_eq (kb y.0) (kb x.0)) ps ∙ ap (option_map (λ p. p.1)) (alone_none (bytes kb) ps (kb x.0) alone)),
      )

      -- the pair with the same bytes is replaced
      pub exchanged : (id : ℕ) → IsGood kb ps (Exact id) (kb x.0) → (old : K × V) → leaf_in ps id ≡ Some old → (new : List (Numbered K V)) → new ≡ with_pair ps id x → Puts kb (λ pair. pair) (pairs_of ps) x x (Ok (Some old)) (pairs_of new)
      exchanged id good old l new e =
          let r = at_Some (bytes kb) ps (kb x.0) (id, good.0) good.1 in
          let f : Some good.0 ≡ Some old = sym (leaf_in-member ps id good.0 distinct r.0) ∙ l in
          let g : good.0 ≡ old = cc in
          let own : kb old.0 ≡ kb x.0 = ap (λ (z : K × V). kb z.0) (sym g) ∙ r.1 in
          let c = cut_at ps id old l in
          let cut = cut_pairs ps id old c in
          let whole = content_map (λ p. p.1) (pair_bytes kb) ps content in
          let there : at (pair_bytes kb) (pairs_of ps) (kb x.0) ≡ Some old = find-map (λ p. p.1) (λ y. bytes_eq (kb y.0) (kb x.0)) ps ∙ ap (option_map (λ p. p.1)) good.1 ∙ f in
          let m = (at_Some (pair_bytes kb) (pairs_of ps) (kb x.0) old there).0 in
          let p = put_at (pair_bytes kb) (pairs_of c.before) (pairs_of c.after) old x (subst (IsContent (pair_bytes kb)) cut whole) own in (
            subst (λ q. conflict (pair_bytes kb) (pairs_of ps) q ≡ false) own (stored_no_conflict (pair_bytes kb) (pairs_of ps) whole old m),
            subst₂ (λ S T. IsPut (pair_bytes kb) S x T) (sym cut) (sym (ap pairs_of e ∙ exchanged_pairs ps id old c x)) p,
            sym there,
          )

      -- ---- keys that are never proper prefixes of one another

      -- a related key has the same bytes, and then nothing conflicts
      pub disjoint_unrelated : (IsValue : K → Type 0) → NoFronts kb IsValue → IsValue x.0 → (first last : ℕ) → IsGood kb ps (Related first last) (kb x.0) → (y : K × V) → leaf_in ps first ≡ Some y → IsValue y.0 → ⊥
      disjoint_unrelated IsValue law v first last good y l w =
          let r = related_first distinct (kb x.0) first last good in
          let f : Some r.0 ≡ Some y = sym r.1 ∙ l in
          let g : r.0 ≡ y = cc in
          let rel : related (kb y.0) (kb x.0) ≡ true = subst (λ (z : K × V). related (kb z.0) (kb x.0) ≡ true) g r.2 in
          let same : kb y.0 ≡ kb x.0 = elim (or_cases (begins (kb y.0) (kb x.0)) (begins (kb x.0) (kb y.0)) rel) [
            | inl b ↦ law y.0 x.0 w v b
            | inr b ↦ sym (law x.0 y.0 v w b)
          ] in
          let no = stored_no_conflict (bytes kb) ps content (first, y) (Member-from_leaf_in ps first y l) in
          false≢true (sym (subst (λ q. conflict (bytes kb) ps q ≡ false) same no) ∙ good.0)
