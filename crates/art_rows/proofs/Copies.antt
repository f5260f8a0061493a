-- Copies of rows, and of leaves filed in them.
use Rattle.std.proofs.Common.{◌≡◌, ℕ, List, [], ◌∷◌, map, Option, Some, None, true, false, eqb, inl, inr, refl, sym, ap, subst, ◌∙◌}
use Rattle.std.proofs.lemmas.Bool.{cases_eq}
use Rattle.std.proofs.lemmas.Slice.Zip.{AllZip-long}
use Rattle.art_slots.specs.Store.{IsSlotClone}
use Rattle.art_rows.specs.Numbers.{Numbered, leaf_in}
use Rattle.art_rows.specs.Rows.{among, numbers}
use Rattle.art_rows.specs.Leaves.{IsCopy, AreCopies}
use Rattle.art_rows.specs.Links.{Links, follow}
use Rattle.art_rows.specs.Filing.{put, gather, Files, filed}
use Rattle.art_rows.specs.declared.chain.Link.{Link}
use Rattle.art_rows.specs.declared.leaves.Leaf.{Leaf}
use Rattle.art_rows.proofs.FilingLemmas.{record_is, no_record, in_rows}
use Rattle.art_rows.proofs.NumbersLemmas.{eqb_same, eqb_other, same_distinct}

-- a copy by equality is equal
pub same_copy : {X : Type 0} (o p : Option X) → IsSlotClone (λ x y. y ≡ x) o p → p ≡ o
same_copy None p e = e
same_copy (Some x) None c = absurd c
same_copy (Some x) (Some y) e = ap Some e

-- equal records are linked in the same way
module _ {X : Type 0} (leaves copies : ℕ → Option (Link X)) (h : (j : ℕ) → IsSlotClone (λ x y. y ≡ x) (leaves j) (copies j)) (used count : ℕ) (u : count ≡ used) where
  same_leaves : copies ≡ leaves
  same_leaves i j = same_copy (leaves j) (copies j) (h j) i

  -- the links lead to the same pairs
  pub same_pairs : (first : Option ℕ) → follow copies count first ≡ follow leaves used first
  same_pairs first = ap (λ (f : ℕ → Option (Link X)). follow f count first) same_leaves ∙ ap (λ n. follow leaves n first) u

  -- the copies are linked
  pub same_links : (first last : Option ℕ) → Links leaves first last used (follow leaves used first) → Links copies first last count (follow copies count first)
  same_links first last l =
      let a : Links copies first last used (follow copies used first) = subst (λ (f : ℕ → Option (Link X)). Links f first last used (follow f used first)) (sym same_leaves) l in
      subst (λ n. Links copies first last n (follow copies n first)) (sym u) a

module _ {K V : Type 0} where
  -- the pair under a number is the pair of its record
  leaf-gather : (leaves : ℕ → Option (Leaf K V)) (ns : List ℕ) (i : ℕ) (x : Leaf K V) → leaves i ≡ Some x → among ns i ≡ true → leaf_in (gather leaves ns) i ≡ Some (x.key, x.value)
  leaf-gather leaves [] i x e a = absurd cc
  leaf-gather leaves (n ∷ ns) i x e a = elim (cases_eq n i) [
    | inl p ↦ rw (p, e, eqb_same i) refl
    | inr q ↦ (let o : eqb n i ≡ false = eqb_other n i q in past leaves n i (gather leaves ns) o (leaves n) (leaf-gather leaves ns i x e (rw o at a)))
  ]
    where
      past : {y : K × V} (leaves : ℕ → Option (Leaf K V)) (n i : ℕ) (rest : List (Numbered (K × V))) → eqb n i ≡ false → (o : Option (Leaf K V)) → leaf_in rest i ≡ Some y → leaf_in (put n o rest) i ≡ Some y
      past leaves n i rest q None ih = ih
      past leaves n i rest q (Some y) ih = rw q ih

module _ {K V : Type 0} (is_key : K → K → Type 0) (is_value : V → V → Type 0) where
  -- a copy of a record has a clone of the key and a clone of the value
  abbrev IsLeafCopy : Leaf K V → Leaf K V → Type 0
  IsLeafCopy x y = is_key x.key y.key × is_value x.value y.value

  -- copies have the same numbers
  pub numbers-copies : (ps qs : List (Numbered (K × V))) → AreCopies is_key is_value ps qs → map (λ p. p.0) qs ≡ map (λ p. p.0) ps
  numbers-copies [] [] h = refl
  numbers-copies [] (q ∷ qs) h = absurd h
  numbers-copies (p ∷ ps) [] h = absurd h
  numbers-copies (p ∷ ps) (q ∷ qs) h = ap (λ n. n ∷ map (λ p. p.0) qs) h.0.number ∙ ap (λ ns. p.0 ∷ ns) (numbers-copies ps qs h.1)

  -- a number with no pair has no pair among the copies
  none-copies : (ps qs : List (Numbered (K × V))) → AreCopies is_key is_value ps qs → (i : ℕ) → leaf_in ps i ≡ None → leaf_in qs i ≡ None
  none-copies [] [] h i e = refl
  none-copies [] (q ∷ qs) h i e = absurd h
  none-copies (p ∷ ps) [] h i e = absurd h
  none-copies (p ∷ ps) (q ∷ qs) h i e = elim (cases_eq p.0 i) [
    | inl t ↦ (let g : Some p.1 ≡ None = rw (t, eqb_same i) at e in absurd cc)
    | inr t ↦ (let o : eqb p.0 i ≡ false = eqb_other p.0 i t in rw (h.0.number, o) (none-copies ps qs h.1 i (rw o at e)))
  ]

  module _ (leaves copies : ℕ → Option (Leaf K V)) (h : (j : ℕ) → IsSlotClone IsLeafCopy (leaves j) (copies j)) where
    -- the pairs are clones
    pub gather-copies : (ns : List ℕ) → AreCopies is_key is_value (gather leaves ns) (gather copies ns)
    gather-copies [] = tt
    gather-copies (n ∷ ns) = by_record (gather leaves ns) (gather copies ns) (gather-copies ns) (leaves n) (copies n) (h n)
      where
        by_record : (ps qs : List (Numbered (K × V))) → AreCopies is_key is_value ps qs → (o p : Option (Leaf K V)) → IsSlotClone IsLeafCopy o p → AreCopies is_key is_value (put n o ps) (put n p qs)
        by_record ps qs a None p e = subst (λ (r : Option (Leaf K V)). AreCopies is_key is_value ps (put n r qs)) (sym e) a
        by_record ps qs a (Some x) None c = absurd c
        by_record ps qs a (Some x) (Some y) c = (record { number = refl; key = c.0; value = c.1 }, a)

    -- the copies are filed in the same way
    pub files-copies : (rows : List (Numbered (List ℕ))) (used count : ℕ) → count ≡ used → Files leaves rows used (gather leaves (numbers rows)) → Files copies rows count (gather copies (numbers rows))
    files-copies rows used count u f = record {
      distinct = same_distinct (gather leaves (numbers rows)) (gather copies (numbers rows)) (sym (numbers-copies (gather leaves (numbers rows)) (gather copies (numbers rows)) (gather-copies (numbers rows)))) f.distinct;
      each = λ i. by_record i (leaves i) (copies i) refl refl (h i);
      joined = numbers-copies (gather leaves (numbers rows)) (gather copies (numbers rows)) (gather-copies (numbers rows)) ∙ f.joined;
      filled = f.filled;
      apart = f.apart;
      counted = u ∙ f.counted ∙ sym (AllZip-long (IsCopy is_key is_value) (gather leaves (numbers rows)) (gather copies (numbers rows)) (gather-copies (numbers rows)));
    }
      where
        by_record : (i : ℕ) (o p : Option (Leaf K V)) → leaves i ≡ o → copies i ≡ p → IsSlotClone IsLeafCopy o p → copies i ≡ filed (gather copies (numbers rows)) i
        by_record i None p a b c = rw (b ∙ c, none-copies (gather leaves (numbers rows)) (gather copies (numbers rows)) (gather-copies (numbers rows)) i (no_record f i a)) refl
        by_record i (Some x) None a b c = absurd c
        by_record i (Some x) (Some y) a b c =
            let r = record_is f i x a in
            let m : among (numbers rows) i ≡ true = in_rows f i (rw r refl) in
            let g : leaf_in (gather copies (numbers rows)) i ≡ Some (y.key, y.value) = leaf-gather copies (numbers rows) i y b m in
            rw (b, g) refl
