-- What a query finds after the first pair, or the last, is removed.
use Rattle.std.proofs.Common.{◌≡◌, ℕ, Some, None, List, [], ◌∷◌, ◌++◌, refl, sym, subst, inl, append-nil, if◌then◌else◌}
use Rattle.std.proofs.Math.Bool.{and-true}
use Rattle.blart_keys.specs.Bytes.{begins}
use Rattle.blart_keys.specs.Content.{IsContent, without}
use Rattle.blart_keys.specs.Steps.{bytes}
use Rattle.blart_keys.specs.Stored.{pair_at, pair_at_front}
use Rattle.blart_keys.specs.Walks.{TakesFirst, TakesLast}
use Rattle.blart_keys.proofs.PutLemmas.{without_cut}
use Rattle.blart_keys.proofs.RankLemmas.{Member-append_right}
use Rattle.blart_keys.proofs.StoredLemmas.{pair_at_member, routes_without}

module _ {K V : Type 0} (kb : K → List ℕ) where
  -- a query finds what it found in S, but it finds nothing if it begins with the bytes of p
  abbrev pub RoutesBut : List (K × V) → K × V → List (K × V) → Type 0
  RoutesBut S p S' = (r : List ℕ) → pair_at_front kb S' r ≡ (if begins (kb p.0) r then None else pair_at_front kb S r)

  -- a pair between others is removed
  routes_cut : (A B : List (K × V)) (p : K × V) → IsContent (bytes kb) (A ++ p ∷ B) → RoutesBut (A ++ p ∷ B) p (A ++ B)
  routes_cut A B p content r =
      let S : List (K × V) = A ++ p ∷ B in
      let there : pair_at kb S (kb p.0) ≡ Some p = pair_at_member kb S content p (Member-append_right p A (p ∷ B) (inl refl)) in
      let gone : pair_at_front kb (without (bytes kb) S (kb p.0)) r ≡ (if begins (kb p.0) r then None else pair_at_front kb S r) = rw (there, and-true) at (routes_without kb S content (kb p.0) r) in
      subst (λ T. pair_at_front kb T r ≡ (if begins (kb p.0) r then None else pair_at_front kb S r)) (without_cut (bytes kb) A B p (kb p.0) content refl) gone

  pub routes_first : (S S' : List (K × V)) (p : K × V) → IsContent (bytes kb) S → TakesFirst S (Some p) S' → RoutesBut S p S'
  routes_first S S' p content e = subst (λ T. RoutesBut T p S') (sym e) (routes_cut [] S' p (subst (IsContent (bytes kb)) e content))

  pub routes_last : (S S' : List (K × V)) (p : K × V) → IsContent (bytes kb) S → TakesLast S (Some p) S' → RoutesBut S p S'
  routes_last S S' p content e =
      subst (λ T. RoutesBut T p S') (sym e) (subst (RoutesBut (S' ++ p ∷ []) p) (append-nil S') (routes_cut S' [] p (subst (IsContent (bytes kb)) e content)))
