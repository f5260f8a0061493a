-- Which parts of a content are consecutive items.
use Rattle.std.proofs.Common.{◌≡◌, ℕ, Bool, true, false, ◌&&◌, inl, inr, List, filter, refl, sym, ◌∙◌}
use Rattle.std.proofs.Math.Bool.{and_comm}
use Rattle.std.proofs.lemmas.Bool.{false≢true, or_cases, or_left, or_right, and_parts, and_from, not-true, not_from_false, false_from_ne_true}
use Rattle.std.specs.declared.ops.Bound.{Bound}
use Rattle.std.specs.declared.ops.Bound.TheVariants.{Included, Excluded, Unbounded}
use Rattle.blart_keys.specs.Bytes.{begins, related, less}
use Rattle.blart_keys.specs.Bounds.{is_from_start, is_up_to_end}
use Rattle.blart_keys.specs.Content.{IsContent, between}
use Rattle.blart_keys.proofs.ByteLemmas.{begins-trans, fronts_related}
use Rattle.blart_keys.proofs.PartLemmas.{less-trans, less-from_PartsBelow, PartsBelow-trans, related-from_PartsBelow, begins_between}
use Rattle.blart_keys.proofs.RankLemmas.{filter_is_part, filter_twice, IsPart}
use Rattle.blart_keys.proofs.ContentLemmas.{Before, Ranked-from_content, related_back}

-- ---- consecutive items

-- if a list is within an end, each lesser one is too; and if it is within a start, each greater one
pub end_down : (hi : Bound (List ℕ)) (a b : List ℕ) → less a b ≡ true → is_up_to_end hi b ≡ true → is_up_to_end hi a ≡ true
end_down (Included hi) a b l h = not_from_false _ (false_from_ne_true _ (λ t. false≢true (sym (not-true _ h) ∙ less-trans hi a b t l)))
end_down (Excluded hi) a b l h = less-trans a b hi l h
end_down Unbounded a b l h = refl

pub start_up : (lo : Bound (List ℕ)) (a b : List ℕ) → less a b ≡ true → is_from_start lo a ≡ true → is_from_start lo b ≡ true
start_up (Included lo) a b l h = not_from_false _ (false_from_ne_true _ (λ t. false≢true (sym (not-true _ h) ∙ less-trans a b lo l t)))
start_up (Excluded lo) a b l h = less-trans lo a b h l
start_up Unbounded a b l h = refl

module _ {X : Type 0} (bytes : X → List ℕ) where
  within_convex : (lo hi : Bound (List ℕ)) (x y z : X) → Before bytes x y → Before bytes y z → (is_from_start lo (bytes x) && is_up_to_end hi (bytes x)) ≡ true → (is_from_start lo (bytes z) && is_up_to_end hi (bytes z)) ≡ true → (is_from_start lo (bytes y) && is_up_to_end hi (bytes y)) ≡ true
  within_convex lo hi x y z h k s t =
      and_from _ _ (start_up lo (bytes x) (bytes y) (less-from_PartsBelow _ _ h) (and_parts _ _ s).0) (end_down hi (bytes y) (bytes z) (less-from_PartsBelow _ _ k) (and_parts _ _ t).1)

  -- the items within both bounds are consecutive
  pub between_is_part : (S : List X) (lo hi : Bound (List ℕ)) → IsContent bytes S → IsPart (λ x. is_from_start lo (bytes x) && is_up_to_end hi (bytes x)) S
  between_is_part S lo hi c = filter_is_part (Before bytes) (λ x. is_from_start lo (bytes x) && is_up_to_end hi (bytes x)) (within_convex lo hi) S (Ranked-from_content bytes S c)

  -- the items within both bounds are those within the start bound that are within the end bound
  pub between_from : (S : List X) (lo hi : Bound (List ℕ)) → filter (λ x. is_up_to_end hi (bytes x)) (between bytes S lo Unbounded) ≡ between bytes S lo hi
  between_from S lo hi =
      filter_twice (λ x. is_from_start lo (bytes x) && true) (λ x. is_up_to_end hi (bytes x)) (λ x. is_from_start lo (bytes x) && is_up_to_end hi (bytes x))
      (λ x. with_true (is_from_start lo (bytes x)) (is_up_to_end hi (bytes x))) S
    where
      with_true : (a b : Bool) → (a && b) ≡ ((a && true) && b)
      with_true true b = refl
      with_true false b = refl

  -- and those within the end bound that are within the start bound
  pub between_up : (S : List X) (lo hi : Bound (List ℕ)) → filter (λ x. is_from_start lo (bytes x)) (between bytes S Unbounded hi) ≡ between bytes S lo hi
  between_up S lo hi =
      filter_twice (λ x. is_up_to_end hi (bytes x)) (λ x. is_from_start lo (bytes x)) (λ x. is_from_start lo (bytes x) && is_up_to_end hi (bytes x))
      (λ x. and_comm (is_from_start lo (bytes x)) (is_up_to_end hi (bytes x))) S

  related_convex : (q : List ℕ) (x y z : X) → Before bytes x y → Before bytes y z → related (bytes x) q ≡ true → related (bytes z) q ≡ true → related (bytes y) q ≡ true
  related_convex q x y z h k s t =
      or_right (begins (bytes y) q) (begins q (bytes y)) (begins_between q (bytes x) (bytes y) (bytes z) hl kl (starts x z s t (apart hz)) (starts z x t s (λ r. apart hz (related_back (bytes z) (bytes x) r))))
    where
      hl : less (bytes x) (bytes y) ≡ true
      hl = less-from_PartsBelow _ _ h

      kl : less (bytes y) (bytes z) ≡ true
      kl = less-from_PartsBelow _ _ k

      hz : related (bytes x) (bytes z) ≡ false
      hz = related-from_PartsBelow _ _ (PartsBelow-trans (bytes x) (bytes y) (bytes z) h k)

      apart : {b : Bool} → b ≡ false → b ≡ true → ⊥
      apart f t = false≢true (sym f ∙ t)

      starts : (u w : X) → related (bytes u) q ≡ true → related (bytes w) q ≡ true → (related (bytes u) (bytes w) ≡ true → ⊥) → begins q (bytes u) ≡ true
      starts u w r r' never = elim (or_cases (begins (bytes u) q) (begins q (bytes u)) r) [
        | inr m ↦ m
        | inl m ↦ elim (or_cases (begins (bytes w) q) (begins q (bytes w)) r') [
          | inl n ↦ absurd (never (fronts_related (bytes u) (bytes w) q m n))
          | inr n ↦ absurd (never (or_left (begins (bytes u) (bytes w)) (begins (bytes w) (bytes u)) (begins-trans (bytes u) q (bytes w) m n)))
        ]
      ]

  -- the items that are related to q are consecutive
  pub subtree_is_part : (S : List X) (q : List ℕ) → IsContent bytes S → IsPart (λ x. related (bytes x) q) S
  subtree_is_part S q c = filter_is_part (Before bytes) (λ x. related (bytes x) q) (related_convex q) S (Ranked-from_content bytes S c)
