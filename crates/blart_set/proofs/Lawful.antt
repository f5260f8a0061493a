-- If no key is a proper prefix of another, a key conflicts with no stored key.
use Rattle.std.proofs.Common.{◌≡◌, ℕ, Bool, true, false, List, [], ◌∷◌, refl, sym, ◌∙◌, subst, Some, None, inl, inr}
use Rattle.std.proofs.lemmas.Bool.{false≢true, false_from_ne_true, or_cases}
use Rattle.blart_keys.specs.Bytes.{begins}
use Rattle.blart_keys.specs.Content.{conflict, front_of, under, IsContent}
use Rattle.blart_keys.specs.Keys.{NoFronts}
use Rattle.blart_keys.specs.Steps.{bytes}
use Rattle.blart_keys.proofs.RankLemmas.{Member, filter_member, member_filter}
use Rattle.blart_keys.proofs.ContentLemmas.{front_of_Some, front_of_None, conflict_found, stored_no_conflict}

-- a conflict that was found contradicts that there is none
pub conflicting : (answer is : Bool) → answer ≡ is → answer ≡ true → is ≡ false → ⊥
conflicting answer is e h f = false≢true (sym f ∙ sym e ∙ h)

module _ {K V : Type 0} (kb : K → List ℕ) (S : List (K × V)) (content : IsContent (bytes kb) S) (k : K) where
  -- stored bytes do not conflict
  stored : (p : K × V) → Member p S → kb p.0 ≡ kb k → conflict (bytes kb) S (kb k) ≡ false
  stored p m e = subst (λ q. conflict (bytes kb) S q ≡ false) e (stored_no_conflict (bytes kb) S content p m)

  -- if no stored key is a prefix of k, and k is a prefix of none
  pub alone : front_of (bytes kb) S (kb k) ≡ None → under (bytes kb) S (kb k) ≡ [] → conflict (bytes kb) S (kb k) ≡ false
  alone f u = false_from_ne_true _ (λ h.
      let r = conflict_found (bytes kb) S (kb k) h in
      elim (or_cases (begins (kb r.0.0) (kb k)) (begins (kb k) (kb r.0.0)) r.2) [
        | inl b ↦ false≢true (sym (front_of_None (bytes kb) S (kb k) r.0 f r.1) ∙ b)
        | inr b ↦ subst (Member r.0) u (member_filter (λ x. begins (kb k) (kb x.0)) S r.0 r.1 b)
      ])

  module _ (IsValue : K → Type 0) (law : NoFronts kb IsValue) (v : IsValue k) (p : K × V) (w : IsValue p.0) where
    -- if a stored key is a prefix of k
    pub begun : front_of (bytes kb) S (kb k) ≡ Some p → conflict (bytes kb) S (kb k) ≡ false
    begun e =
        let r = front_of_Some (bytes kb) S (kb k) p e in
        stored p r.0 (law p.0 k w v r.1)

    -- if k is a prefix of a stored key
    pub beginning : (rest : List (K × V)) → under (bytes kb) S (kb k) ≡ p ∷ rest → conflict (bytes kb) S (kb k) ≡ false
    beginning rest e =
        let m : Member p (under (bytes kb) S (kb k)) = subst (Member p) (sym e) (inl refl) in
        let r = filter_member (λ x. begins (kb k) (kb x.0)) S p m in
        stored p r.0 (sym (law k p.0 v w r.1))
