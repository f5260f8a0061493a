-- A closure that is called on an element.
use Rattle.std.specs.Prelude.{◌≡◌, Bool, List, ◌∷◌, ◌++◌}
use Rattle.std.specs.Fn.{CalledAt, TakesAt}
use Rattle.std.specs.List.{FoldsTo}
use denote.Ref.{Bor}
use denote.Param.Members.{Mut}

module _ {F K : Type 0} (g : Mut F (Bor K × Unit {0}) Bool) where
  -- a call on the element in state f may return `answer` and leave f', and the element is unchanged
  abbrev pub AsksElement : F → K → Bool → K → F → Type 0
  AsksElement f x answer left f' = CalledAt g f x answer f' × (left ≡ x)

  -- a call on the element may leave f'
  abbrev pub SomeCallAtElement : F → K → F → Type 0
  SomeCallAtElement f x f' = (answer : Bool) × CalledAt g f x answer f'

  -- the closure may be called on each element, in the state that the calls on those before it left
  pub record CallableOnEachElement (f : F) (xs : List K) : Type 0 where
    pub at : (before after : List K) (f' : F) (x : K) → xs ≡ before ++ x ∷ after → FoldsTo SomeCallAtElement f before f' → TakesAt g f' x
