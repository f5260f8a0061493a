-- A closure that may be called on each pair of a list, in turn.
use Rattle.std.proofs.Common.{◌≡◌, ◌∙◌, List, [], ◌∷◌, filter, Bool, true, refl, sym, ap, subst}
use Rattle.std.specs.Borrow.{Bor, MutBor}
use Rattle.std.proofs.lemmas.List.Elements.{All-filter, filter_passes}
use Rattle.std.specs.List.{All, FoldsTo}
use denote.Param.Members.{Mut}
use denote.Param.Always.{always_mut, mut_next}
use Rattle.blart_keys.proofs.Mapped.{filter-map}
use Rattle.art_tree.specs.Leaves.{Numbered}
use Rattle.art_tree.specs.Pairs.{pairs_of}
use Rattle.art_walk.proofs.Callable.{middle}
use Rattle.blart_map.specs.Content.{pairs}
use Rattle.blart_map.specs.EachWritten.{SomeCallAt, CallableInTurn, LeavesValue, TakesAtValue, LeavesPair, TakesAtPair}

module _ {F K V : Type 0} (R : F → K × V → V → F → Type 0) (Q : F → K × V → Type 0) where
  -- if each call keeps A of the state, A holds after all calls
  stays : (A : F → Type 0) → ((f f' : F) (x : K × V) (w : V) → R f x w f' → A f → A f') → (before : List (K × V)) (f f' : F) → FoldsTo (SomeCallAt R) f before f' → A f → A f'
  stays A next [] f f' e h = subst A e h
  stays A next (x ∷ before) f f' r h = stays A next before r.0 f' r.2 (next f r.0 x r.1.0 r.1.1 h)

  callable_in : (A : F → Type 0) → ((f f' : F) (x : K × V) (w : V) → R f x w f' → A f → A f') → ((f : F) (x : K × V) → A f → Q f x) → (f : F) (xs : List (K × V)) → A f → CallableInTurn R Q f xs
  callable_in A next takes f xs h = record { at = λ before after f' x e r. takes f' x (stays A next before f f' r h) }

  -- a closure that may be called in any state on a pair for which P holds
  callable_such : (P : K × V → Type 0) → ((f : F) (x : K × V) → P x → Q f x) → (f : F) (xs : List (K × V)) → All P xs → CallableInTurn R Q f xs
  callable_such P takes f xs all = record { at = λ before after f' x e r. takes f' x (middle P before after x (subst (All P) e all)) }

  -- on all pairs
  callable_all : (P : K × V → Type 0) → ((f : F) (x : K × V) → P x → Q f x) → (f : F) (left S : List (Numbered K V)) → left ≡ S → All P (pairs S) → CallableInTurn R Q f (pairs_of left)
  unfolding pairs
  callable_all P takes f left S e all = callable_such P takes f (pairs_of left) (subst (λ (l : List (Numbered K V)). All P (pairs_of l)) (sym e) all)

  -- on the pairs that pass a test
  callable_where : (t : K × V → Bool) (P : K × V → Type 0) → ((f : F) (x : K × V) → t x ≡ true → P x → Q f x) → (f : F) (left S : List (Numbered K V)) → left ≡ filter (λ p. t p.1) S → All P (pairs S) → CallableInTurn R Q f (pairs_of left)
  unfolding pairs
  callable_where t P takes f left S e all =
      let both : All (λ x. (t x ≡ true) × P x) (filter t (pairs_of S)) = λ k d l. (filter_passes t (pairs_of S) k d l, All-filter t P (pairs_of S) all k d l) in
      callable_such (λ x. (t x ≡ true) × P x) (λ f x h. takes f x h.0 h.1) f (pairs_of left) (subst (All (λ x. (t x ≡ true) × P x)) (filter-map (λ (p : Numbered K V). p.1) t S ∙ sym (ap pairs_of e)) both)

module _ {F K V : Type 0} (g : Mut F (MutBor V × Unit {0}) (Unit {0} × (MutBor V × Unit {0}))) where
  -- a closure that may always be called
  pub callable_on_each_value : (f : F) (xs : List (K × V)) → always_mut g f → CallableInTurn (LeavesValue g) (TakesAtValue g) f xs
  callable_on_each_value = callable_in (LeavesValue g) (TakesAtValue g) (always_mut g) (λ f f' x w l h. mut_next g f _ _ _ _ l.called refl h) (λ f x h p e. (h.at ((p, tt) ∷ [])).0)

  -- a closure that may be called in any state on the value of a pair for which P holds, if P holds
  -- of all pairs
  pub callable_on_such_values : (P : K × V → Type 0) → ((f : F) (x : K × V) → P x → TakesAtValue g f x) → (f : F) (left S : List (Numbered K V)) → left ≡ S → All P (pairs S) → CallableInTurn (LeavesValue g) (TakesAtValue g) f (pairs_of left)
  callable_on_such_values = callable_all (LeavesValue g) (TakesAtValue g)

module _ {F K V : Type 0} (g : Mut F (Bor K × (MutBor V × Unit {0})) (Unit {0} × (MutBor V × Unit {0}))) where
  -- the same for a closure that is called on the key too
  pub callable_on_each_lent : (f : F) (xs : List (K × V)) → always_mut g f → CallableInTurn (LeavesPair g) (TakesAtPair g) f xs
  callable_on_each_lent = callable_in (LeavesPair g) (TakesAtPair g) (always_mut g) (λ f f' x w l h. mut_next g f _ _ _ _ l.called refl h) (λ f x h p q hp hq. (h.at ((p, (q, tt)) ∷ [])).0)

  pub callable_on_such_lent : (P : K × V → Type 0) → ((f : F) (x : K × V) → P x → TakesAtPair g f x) → (f : F) (left S : List (Numbered K V)) → left ≡ S → All P (pairs S) → CallableInTurn (LeavesPair g) (TakesAtPair g) f (pairs_of left)
  callable_on_such_lent = callable_all (LeavesPair g) (TakesAtPair g)

  -- and on the pairs that pass a test
  pub callable_on_such_within : (t : K × V → Bool) (P : K × V → Type 0) → ((f : F) (x : K × V) → t x ≡ true → P x → TakesAtPair g f x) → (f : F) (left S : List (Numbered K V)) → left ≡ filter (λ p. t p.1) S → All P (pairs S) → CallableInTurn (LeavesPair g) (TakesAtPair g) f (pairs_of left)
  callable_on_such_within = callable_where (LeavesPair g) (TakesAtPair g)
