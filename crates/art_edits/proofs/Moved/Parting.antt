-- A content cut in two at some bytes.
use Rattle.std.proofs.Common.{◌≡◌, ◌≤◌, ◌+◌, ℕ, Bool, true, false, cond, not, ◌&&◌, inl, inr, List, [], ◌∷◌, ◌++◌, length, length-append, arith, refl, sym, ap, ◌∙◌, subst, Option, None, filter, bytes_eq, if◌then◌else◌}
use Rattle.std.proofs.lemmas.Bool.{false≢true, cases_Bool, false_from_ne_true}
use Rattle.std.specs.Cmp.Lexicographic.{bytes_decides}
use Rattle.std.specs.declared.ops.Bound.TheVariants.{Included, Excluded, Unbounded}
use Rattle.blart_keys.specs.Bytes.{less}
use Rattle.blart_keys.specs.Bounds.{is_from_start, is_up_to_end}
use Rattle.blart_keys.specs.Content.{IsContent, at, between}
use Rattle.blart_keys.specs.Steps.{bytes as pair_bytes}
use Rattle.blart_keys.specs.Stored.{pair_at}
use Rattle.blart_keys.proofs.PartLemmas.{less-trans}
use Rattle.blart_keys.proofs.MergeLemmas.{Lower}
use Rattle.blart_keys.proofs.RankLemmas.{each_member, filter_none, filter_all, Ranked, Ranked-from_AllPairs, Ranked-left, Ranked-right}
use Rattle.blart_keys.proofs.ContentLemmas.{Before, Ranked-from_content, content_from_Ranked}

-- two cuts of a list with as many items before the cut are equal
same_parts : {X : Type 0} (A B C D : List X) → A ++ B ≡ C ++ D → length A ≡ length C → (A ≡ C) × (B ≡ D)
same_parts [] B [] D e l = (refl, e)
same_parts [] B (z ∷ C) D e l = absurd (omega arith)
same_parts (x ∷ A) B [] D e l = absurd (omega arith)
same_parts (x ∷ A) B (z ∷ C) D e l =
    let h : x ≡ z = cc in
    let t : A ++ B ≡ C ++ D = cc in
    let r = same_parts A B C D t (omega arith) in
    (ap (λ y. y ∷ A) h ∙ ap (λ l. z ∷ l) r.0, r.1)

module _ {X : Type 0} (bytes : X → List ℕ) (q : List ℕ) where
  below : List X → List X
  below S = between bytes S Unbounded (Excluded q)

  from : List X → List X
  from S = between bytes S (Included q) Unbounded

  -- a list is the items less than the bytes, and then the others
  parts : (S : List X) → Ranked (Lower bytes) S → S ≡ below S ++ from S
  unfolding below from
  parts [] r = refl
  parts (x ∷ S) r = elim (cases_Bool (less (bytes x) q)) [
    | inl t ↦ rw t (ap (λ l. x ∷ l) (parts S r.1))
    | inr f ↦
        let none : below (x ∷ S) ≡ [] = filter_none (λ y. less (bytes y) q) (x ∷ S) (λ y m. elim m [
          | inl e ↦ subst (λ z. less (bytes z) q ≡ false) e f
          | inr n ↦ false_from_ne_true _ (λ t. false≢true (sym f ∙ less-trans (bytes x) (bytes y) q (each_member (Lower bytes x) S y r.0 n) t))
        ]) in
        let all : from (x ∷ S) ≡ x ∷ S = filter_all (λ y. not (less (bytes y) q) && true) (x ∷ S) (λ y m. elim m [
          | inl e ↦ subst (λ z. (not (less (bytes z) q) && true) ≡ true) e (rw f refl)
          | inr n ↦ rw (false_from_ne_true (less (bytes y) q) (λ t. false≢true (sym f ∙ less-trans (bytes x) (bytes y) q (each_member (Lower bytes x) S y r.0 n) t))) refl
        ]) in
        sym (ap (λ l. l ++ from (x ∷ S)) none ∙ all)
  ]

  -- if as many items are after a cut as are not less than q, the cut is at q
  pub parted : (S A B : List X) → IsContent bytes S → S ≡ A ++ B → length B ≡ length (between bytes S (Included q) Unbounded) → (A ≡ between bytes S Unbounded (Excluded q)) × (B ≡ between bytes S (Included q) Unbounded)
  unfolding below from
  parted S A B c e l =
      let p = parts S (Ranked-from_AllPairs (Lower bytes) S c.ascends) in
      let a = ap (λ (l : List X). length l) (sym e ∙ p) in
      let n : length A ≡ length (below S) = omega (arith, length-append A B, length-append (below S) (from S), l) in
      same_parts A B (below S) (from S) (sym e ∙ p) n

  -- the items less than q and the items not less than q are as many as all items
  pub part_lengths : (S : List X) → IsContent bytes S → length (between bytes S Unbounded (Excluded q)) + length (between bytes S (Included q) Unbounded) ≡ length S
  unfolding below from
  part_lengths S c =
      let p = ap (λ (l : List X). length l) (parts S (Ranked-from_AllPairs (Lower bytes) S c.ascends)) in
      omega (arith, p, length-append (below S) (from S))

  -- there are at most as many items not less than q as items
  pub from_short : (S : List X) → IsContent bytes S → length (between bytes S (Included q) Unbounded) ≤ length S
  unfolding below from
  from_short S c =
      let p = ap (λ (l : List X). length l) (parts S (Ranked-from_AllPairs (Lower bytes) S c.ascends)) in
      omega (arith, p, length-append (below S) (from S))

either : {X : Type 0} (b : Bool) (o : Option X) → o ≡ cond b o o
either true o = refl
either false o = refl

-- the item at some bytes, of the items whose bytes pass a test
pub at-filter : {X : Type 0} (bytes : X → List ℕ) (test : List ℕ → Bool) (S : List X) (r : List ℕ) → at bytes (filter (λ x. test (bytes x)) S) r ≡ cond (test r) (at bytes S r) None
at-filter bytes test [] r = either (test r) None
at-filter bytes test (x ∷ S) r = elim (cases_Bool (bytes_eq (bytes x) r)) [
  | inl t ↦
      let same : test (bytes x) ≡ test r = ap test ((bytes_decides (bytes x) r).0 t) in
      elim (cases_Bool (test r)) [
        | inl passes ↦ rw (same ∙ passes, t, passes) refl
        | inr fails ↦ rw (same ∙ fails, fails) (at-filter bytes test S r ∙ rw fails refl)
      ]
  | inr f ↦ elim (cases_Bool (test (bytes x))) [
    | inl passes ↦ rw (passes, f) (at-filter bytes test S r)
    | inr fails ↦ rw (fails, f) (at-filter bytes test S r)
  ]
]

module _ {K V : Type 0} (kb : K → List ℕ) (q : List ℕ) (S : List (K × V)) (r : List ℕ) where
  -- the pair at r, of the pairs less than q
  pub kept_at : pair_at kb (between (pair_bytes kb) S Unbounded (Excluded q)) r ≡ (if less r q then pair_at kb S r else None)
  unfolding pair_at
  kept_at = at-filter (pair_bytes kb) (λ b. is_from_start Unbounded b && is_up_to_end (Excluded q) b) S r

  -- the pair at r, of the other pairs
  pub given_at : pair_at kb (between (pair_bytes kb) S (Included q) Unbounded) r ≡ (if less r q then None else pair_at kb S r)
  unfolding pair_at
  given_at = at-filter (pair_bytes kb) (λ b. is_from_start (Included q) b && is_up_to_end Unbounded b) S r ∙ turned (less r q)
    where
      turned : (b : Bool) → cond (not b && true) (at (pair_bytes kb) S r) None ≡ cond b None (at (pair_bytes kb) S r)
      turned true = refl
      turned false = refl

-- ---- the two parts of a list

module _ {X : Type 0} (bytes : X → List ℕ) where
  -- the two parts of a content are contents
  pub parts_contents : (S low high : List X) → IsContent bytes S → S ≡ low ++ high → IsContent bytes low × IsContent bytes high
  parts_contents S low high c e =
      let r = Ranked-from_content bytes (low ++ high) (subst (IsContent bytes) e c) in (
        content_from_Ranked bytes low (Ranked-left (Before bytes) low high r),
        content_from_Ranked bytes high (Ranked-right (Before bytes) low high r),
      )
