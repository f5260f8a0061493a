-- A closure that may be called on each element of a list, in turn.
use Rattle.std.proofs.Common.{◌≡◌, ◌∙◌, List, [], ◌∷◌, Bool, refl, ap, subst}
use Rattle.std.specs.Fn.{CalledAt, TakesAt}
use Rattle.std.specs.List.{All, FoldsTo}
use denote.Ref.{Bor}
use denote.Param.Members.{Mut}
use denote.Param.Always.{always_mut, mut_next}
use Rattle.blart_set.specs.Asking.{CallableOnEachElement, SomeCallAtElement}
use Rattle.blart_map.proofs.Beneath.{middle}

module _ {F K : Type 0} (g : Mut F (Bor K × Unit {0}) Bool) where
  module _ (f : F) (x : K) (xs rest : List K) (first : xs ≡ x ∷ rest) (can : CallableOnEachElement g f xs) where
    -- on the first
    pub callable_first : TakesAt g f x
    callable_first = can.at [] rest f x first refl

    -- and then on the others, in the state that this call left
    pub callable_others : (b : Bool) (h : F) → CalledAt g f x b h → CallableOnEachElement g h rest
    callable_others b h call = record { at = λ before after f' y e r. can.at (x ∷ before) after f' y (first ∙ ap (λ l. x ∷ l) e) (h, (b, call), r) }

  still : (before : List K) (f f' : F) → FoldsTo (SomeCallAtElement g) f before f' → always_mut g f → always_mut g f'
  still [] f f' e h = subst (always_mut g) e h
  still (x ∷ before) f f' r h = still before r.0 f' r.2 (mut_next g f _ _ _ _ r.1.1.called refl h)

  -- a closure that may always be called
  pub callable_on_each_element : (f : F) (xs : List K) → always_mut g f → CallableOnEachElement g f xs
  callable_on_each_element f xs h = record { at = λ before after f' x e r y same. ((still before f f' r h).at ((y, tt) ∷ [])).0 }

  -- a closure that may be called in any state on an element for which P holds, if P holds for all
  pub callable_on_such_elements : (P : K → Type 0) → ((f : F) (x : K) → P x → TakesAt g f x) → (f : F) (xs : List K) → All P xs → CallableOnEachElement g f xs
  callable_on_such_elements P takes f xs all = record { at = λ before after f' x e r. takes f' x (middle P before after x (subst (All P) e all)) }
