-- What a query finds after a pair is put over all pairs that are related to it.
use Rattle.std.proofs.Common.{◌≡◌, ℕ, true, false, ◌⊎◌, inl, inr, List, Option, Some, None, refl, sym, ap, ◌∙◌, if◌then◌else◌}
use Rattle.std.proofs.lemmas.Bool.{false≢true, cases_Bool, false_from_ne_true}
use Rattle.blart_keys.specs.Bytes.{begins, related}
use Rattle.blart_keys.specs.Content.{IsContent, front_of, IsOver}
use Rattle.blart_keys.specs.Steps.{bytes}
use Rattle.blart_keys.specs.Stored.{pair_at_front}
use Rattle.blart_keys.proofs.ByteLemmas.{begins-trans}
use Rattle.blart_keys.proofs.RankLemmas.{Member, Contains-from_Member, Member-from_Contains, find_none}
use Rattle.blart_keys.proofs.ContentLemmas.{same_item, front_of_Some, front_of_None, front_of_member}
use Rattle.blart_keys.specs.Routed.{spared_item}

module _ {X : Type 0} (bytes : X → List ℕ) (S S' : List X) (x : X) (content : IsContent bytes S) (over : IsOver bytes S x S') (r : List ℕ) where
  -- if x is no prefix of r, an item of S' that is a prefix of r is in S, and is not related to x
  before : begins (bytes x) r ≡ false → (z : X) → Member z S' → begins (bytes z) r ≡ true → Member z S × (related (bytes z) (bytes x) ≡ false)
  before off z m b =
      let apart : related (bytes z) (bytes x) ≡ false = false_from_ne_true _ (λ t. (
      let same = same_item bytes S' over.content z x m (Member-from_Contains x S' over.there) t in
      false≢true (sym off ∙ ap (λ y. begins (bytes y) r) (sym same) ∙ b))) in
      (Member-from_Contains z S ((over.others z apart).0 (Contains-from_Member z S' m)), apart)

  -- if x is no prefix of r, r finds what it found before, unless that is a prefix of x
  elsewhere : begins (bytes x) r ≡ false → (o : Option X) → front_of bytes S r ≡ o → front_of bytes S' r ≡ spared_item bytes (bytes x) o
  elsewhere off None e = find_none (λ y. begins (bytes y) r) S' (λ z m. false_from_ne_true _ (λ t. false≢true (sym (front_of_None bytes S r z e (before off z m t).0) ∙ t)))
  elsewhere off (Some y) e = by (cases_Bool (begins (bytes y) (bytes x)))
    where
      stood : Member y S × (begins (bytes y) r ≡ true)
      stood = front_of_Some bytes S r y e

      by : (begins (bytes y) (bytes x) ≡ true) ⊎ (begins (bytes y) (bytes x) ≡ false) → front_of bytes S' r ≡ (if begins (bytes y) (bytes x) then None else Some y)
      by (inl b) = rw b (find_none (λ z. begins (bytes z) r) S' (λ z m. false_from_ne_true _ (λ t. (
          let f = before off z m t in
          let one : front_of bytes S r ≡ Some z = front_of_member bytes S content r z f.0 t in
          let same : z ≡ y = cc in
          let rel : related (bytes z) (bytes x) ≡ true = ap (λ w. related (bytes w) (bytes x)) same ∙ rw b refl in
          false≢true (sym f.1 ∙ rel)))))
      by (inr b) =
          let back : begins (bytes x) (bytes y) ≡ false = false_from_ne_true _ (λ t. false≢true (sym off ∙ begins-trans (bytes x) (bytes y) r t stood.1)) in
          let apart : related (bytes y) (bytes x) ≡ false = rw (b, back) refl in
          rw b (front_of_member bytes S' over.content r y (Member-from_Contains y S' ((over.others y apart).1 (Contains-from_Member y S stood.0))) stood.1)

  pub front_of_over : front_of bytes S' r ≡ (if begins (bytes x) r then Some x else spared_item bytes (bytes x) (front_of bytes S r))
  front_of_over = by (cases_Bool (begins (bytes x) r))
    where
      by : (begins (bytes x) r ≡ true) ⊎ (begins (bytes x) r ≡ false) → front_of bytes S' r ≡ (if begins (bytes x) r then Some x else spared_item bytes (bytes x) (front_of bytes S r))
      by (inl b) = rw b (front_of_member bytes S' over.content r x (Member-from_Contains x S' over.there) b)
      by (inr b) = rw b (elsewhere b (front_of bytes S r) refl)

pub routes_over : {K V : Type 0} (kb : K → List ℕ) (S S' : List (K × V)) (x : K × V) → IsContent (bytes kb) S → IsOver (bytes kb) S x S' → (r : List ℕ) → pair_at_front kb S' r ≡ (if begins (kb x.0) r then Some x else spared_item (bytes kb) (kb x.0) (pair_at_front kb S r))
unfolding pair_at_front
routes_over kb S S' x content over r = front_of_over (bytes kb) S S' x content over r
