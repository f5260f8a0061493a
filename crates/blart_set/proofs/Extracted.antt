-- One element on which a closure is called.
use Rattle.std.proofs.Common.{◌≡◌, ℕ, suc, Bool, true, false, List, [], ◌∷◌, length, map, reverse, Option, Some, None, refl, sym, ap, ◌∙◌}
use Rattle.std.proofs.lemmas.List.{map-append, reverse-append, length-reverse}
use Rattle.std.proofs.lemmas.Option.{same_Some}
use denote.Ref.{Bor}
use denote.Param.Members.{Mut, Called}
use Rattle.std.specs.Fn.{CalledAt}
use Rattle.blart_keys.specs.Walks.{EndsAt}
use Rattle.blart_set.specs.Asking.{AsksElement}
use Rattle.blart_map.specs.Beneath.{Cursor}
use Rattle.blart_map.specs.Content.{Numbered, pairs}
use Rattle.blart_map.specs.Passed.{leaf_in, leaves_left, WasFirst, WasLast}
use Rattle.blart_set.specs.Elements.{elements}
use Rattle.blart_set.specs.Extracting.{AsksUpTo}

module _ {F K : Type 0} (g : Mut F (Bor K × Unit {0}) Bool) where
  -- a call on the element to which a reference leads
  pub called_at : (f : F) (x : Bor K) (b : Bool) (h : F) → Called g f (x, tt) b h → CalledAt g f x.now b h
  called_at f x b h m = record { shown = x; shows = refl; called = m }

  -- there is no element for a call
  pub asks_none : (coming rest : List K) (f : F) → coming ≡ [] → rest ≡ [] → AsksUpTo g coming f None rest f
  asks_none coming rest f e l = ([], record { before = []; answers = []; between = f; asked = refl; passed = tt; end = (e, l, refl) })

  module _ (coming rest : List K) (x : K) (f h : F) (b : Bool) (e : coming ≡ x ∷ rest) (m : CalledAt g f x b h) where
    -- the call returned true
    pub asks_true : b ≡ true → AsksUpTo g coming f (Some x) rest h
    asks_true t = ([], record { before = []; answers = []; between = f; asked = refl; passed = tt; end = (x, e, (rw t at m, refl)) })

    -- the call returned false, and the calls go on
    pub asks_false : b ≡ false → (r : Option K) (left : List K) (k : F) → AsksUpTo g rest h r left k → AsksUpTo g coming f r left k
    asks_false t r left k a =
        let y = a.1 in (
          x ∷ a.0,
          record {
            before = x ∷ y.before;
            answers = false ∷ y.answers;
            between = y.between;
            asked = (h, (rw t at m, refl), y.asked);
            passed = (refl, y.passed);
            end = on r y.before y.between left k y.end;
          },
        )
      where
        on : (r : Option K) (before : List K) (between : F) (left : List K) (k : F) → EndsAt (AsksElement g) rest before r between left k → EndsAt (AsksElement g) coming (x ∷ before) r between left k
        on None before between left k z = (e ∙ ap (λ l. x ∷ l) z.0, z.1, z.2)
        on (Some y) before between left k z = (z.0, e ∙ ap (λ l. x ∷ l) z.1, z.2)

pub elements_none : {K : Type 0} (S : List (Numbered K (Unit {0}))) → S ≡ [] → elements S ≡ []
unfolding elements pairs
elements_none S e = ap elements e

-- if the first item of the reversed list is removed, one less is left
pub reversed_fewer : {X : Type 0} (xs ys : List X) (x : X) → reverse xs ≡ x ∷ reverse ys → suc (length ys) ≡ length xs
reversed_fewer xs ys x e = ap suc (sym (length-reverse ys)) ∙ sym (ap length e) ∙ length-reverse xs

module _ {K : Type 0} (ps : List (Numbered K (Unit {0}))) (id : ℕ) (x : K) (named : leaf_in ps id ≡ Some (x, tt)) where
  -- a number names one element
  pub same_element : (y : K) → leaf_in ps id ≡ Some (y, tt) → x ≡ y
  same_element y e = let p : (x, tt) ≡ (y, tt) = same_Some (x, tt) (y, tt) (sym named ∙ e) in ap (λ z. z.0) p

  module _ (old new : Cursor) where
    pub first_is : WasFirst ps old id new → elements (leaves_left old ps) ≡ x ∷ elements (leaves_left new ps)
    unfolding elements pairs
    first_is w = ap elements w.splits ∙ ap (λ y. y ∷ elements (leaves_left new ps)) (sym (same_element w.pair.0 w.named))

    pub last_is : WasLast ps old id new → reverse (elements (leaves_left old ps)) ≡ x ∷ reverse (elements (leaves_left new ps))
    unfolding elements pairs
    last_is w =
        ap (λ l. reverse (elements l)) w.splits
        ∙ ap (λ l. reverse (map (λ p. p.0) l)) (map-append (λ (p : Numbered K (Unit {0})). p.1) (leaves_left new ps) ((id, w.pair) ∷ []))
        ∙ ap reverse (map-append (λ (p : K × Unit {0}). p.0) (map (λ p. p.1) (leaves_left new ps)) (w.pair ∷ []))
        ∙ reverse-append (elements (leaves_left new ps)) (w.pair.0 ∷ [])
        ∙ ap (λ y. y ∷ reverse (elements (leaves_left new ps))) (sym (same_element w.pair.0 w.named))
