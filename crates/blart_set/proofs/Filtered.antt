-- What a closure keeps that depends on the element alone.
use Rattle.std.proofs.Common.{◌≡◌, List, [], ◌∷◌, filter, Bool, true, false, cond, refl, ap, ◌∙◌}
use Rattle.std.specs.Fn.{CalledAt}
use denote.Ref.{Bor}
use denote.Param.Members.{Mut}
use Rattle.blart_keys.specs.Walks.{Asked, picked, Retains}
use Rattle.blart_set.specs.Asking.{AsksElement}

module _ {F K : Type 0} (g : Mut F (Bor K × Unit {0}) Bool) (I : F → Type 0) (test : K → Bool)
    (tells : (f : F) (x : K) (b : Bool) (h : F) → I f → CalledAt g f x b h → (b ≡ test x) × I h) where
  asked_all : (old : List K) (f : F) (answers : List Bool) (left : List K) (h : F) → I f → Asked (AsksElement g) old f answers left h → picked answers left ≡ filter test old
  asked_all [] f [] [] h i a = refl
  asked_all [] f [] (y ∷ left) h i a = absurd a
  asked_all [] f (b ∷ answers) left h i a = absurd a
  asked_all (x ∷ old) f [] left h i a = absurd a
  asked_all (x ∷ old) f (b ∷ answers) [] h i a = absurd a
  asked_all (x ∷ old) f (b ∷ answers) (y ∷ left) h i a =
      let t = tells f x b a.0 i a.1.0 in
      picked_first b answers y left ∙ ap (λ c. cond c (y ∷ picked answers left) (picked answers left)) t.0
      ∙ ap (λ z. cond (test x) (z ∷ picked answers left) (picked answers left)) a.1.1 ∙ ap (λ l. cond (test x) (x ∷ l) l) (asked_all old a.0 answers left h t.1 a.2)
    where
      picked_first : (b : Bool) (answers : List Bool) (y : K) (left : List K) → picked (b ∷ answers) (y ∷ left) ≡ cond b (y ∷ picked answers left) (picked answers left)
      picked_first true answers y left = refl
      picked_first false answers y left = refl

  -- so what `retain` leaves is the filter
  pub filter_from_asked : (f : F) (old new : List K) → I f → Retains (AsksElement g) old f new → new ≡ filter test old
  filter_from_asked f old new i r = r.kept ∙ asked_all old f r.answers r.left r.after i r.asked
