-- Copies of slots: clones of the records, and the same chain of spare slots.
use Rattle.std.proofs.Common.{◌≡◌, ℕ, zero, suc, List, [], ◌∷◌, map, get_or, Option, Some, None, is_some, IsSomeAnd, count_by, refl, sym, ap, subst, ◌∙◌, arith}
use Rattle.std.proofs.lemmas.List.Sums.{sum_by-cons}
use Rattle.std.specs.List.{AllZip}
use Rattle.slab.specs.Slab.{IsSlotClone}
use Rattle.art_slots.specs.Chain.{used_of, IsCopy, AreLinked, HasSpares}
use Rattle.art_slots.specs.declared.slots.Slot.{Slot}
use Rattle.art_slots.specs.declared.slots.Slot.TheVariants.{Used, Spare}
use Rattle.art_slots.proofs.StoreSlots.{one}

module _ {X : Type 0} (R : X → X → Type 0) where
  -- the number of places with a value is the same
  pub count-copies : (xs ys : List (Option X)) → AllZip (IsSlotClone R) xs ys → count_by is_some ys ≡ count_by is_some xs
  count-copies [] [] h = refl
  count-copies [] (y ∷ ys) h = absurd h
  count-copies (x ∷ xs) [] h = absurd h
  count-copies (x ∷ xs) (y ∷ ys) h =
      let ih : count_by is_some ys ≡ count_by is_some xs = count-copies xs ys h.1 in
      let e : one y ≡ one x = by_slot x y h.0 in
      omega (arith, sum_by-cons one x xs, sum_by-cons one y ys)
    where
      by_slot : (x y : Option X) → IsSlotClone R x y → one y ≡ one x
      by_slot None y e = ap one e
      by_slot (Some x) (Some y) c = refl
      by_slot (Some x) None c = absurd c

  -- the value at each place is a clone
  pub at-copy : (xs ys : List (Option X)) → AllZip (IsSlotClone R) xs ys → (i : ℕ) → IsSlotClone R (get_or xs i None) (get_or ys i None)
  at-copy [] [] h zero = refl
  at-copy [] [] h (suc i) = refl
  at-copy [] (y ∷ ys) h i = absurd h
  at-copy (x ∷ xs) [] h i = absurd h
  at-copy (x ∷ xs) (y ∷ ys) h zero = h.0
  at-copy (x ∷ xs) (y ∷ ys) h (suc i) = at-copy xs ys h.1 i

module _ {T : Type 0} (is_clone : T → T → Type 0) where
  abbrev AreCopies : List (Option (Slot T)) → List (Option (Slot T)) → Type 0
  AreCopies xs ys = AllZip (IsSlotClone (IsCopy is_clone)) xs ys

  -- the record in a copy of a slot is a clone
  pub record-copy : (o p : Option (Slot T)) → IsSlotClone (IsCopy is_clone) o p → IsSlotClone is_clone (used_of o) (used_of p)
  record-copy None p e = ap used_of e
  record-copy (Some x) None h = absurd h
  record-copy (Some (Used x)) (Some q) (y, e, c) = subst (λ (s : Slot T). IsSomeAnd (used_of (Some s)) (is_clone x)) (sym e) c
  record-copy (Some (Spare next)) (Some q) e = ap (λ (s : Slot T). used_of (Some s)) e

  -- the records in copies of slots are clones
  pub records-copy : (xs ys : List (Option (Slot T))) → AreCopies xs ys → AllZip (IsSlotClone is_clone) (map used_of xs) (map used_of ys)
  records-copy [] [] h = tt
  records-copy [] (y ∷ ys) h = absurd h
  records-copy (x ∷ xs) [] h = absurd h
  records-copy (x ∷ xs) (y ∷ ys) h = (record-copy x y h.0, records-copy xs ys h.1)

  -- a copy of a spare slot names the same next slot
  pub spare-copy : (o p : Option (Slot T)) (next : Option ℕ) → IsSlotClone (IsCopy is_clone) o p → o ≡ Some (Spare next) → p ≡ Some (Spare next)
  spare-copy None p next h e = absurd cc
  spare-copy (Some (Used x)) p next h e = absurd cc
  spare-copy (Some (Spare m)) None next h e = absurd h
  spare-copy (Some (Spare m)) (Some q) next h e = ap (λ (s : Slot T). Some s) h ∙ e

  -- the chain of spare slots is the same
  pub linked-copies : (xs ys : List (Option (Slot T))) (n : ℕ) (from : Option ℕ) → AreCopies xs ys → AreLinked xs n from → AreLinked ys n from
  linked-copies xs ys zero from h l = l
  linked-copies xs ys (suc n) from h (id, next, e, s, l) =
      (id, next, e, spare-copy (get_or xs id None) (get_or ys id None) next (at-copy (IsCopy is_clone) xs ys h id) s, linked-copies xs ys n next h l)

  -- if there is a copy of a slot, there is a slot
  pub has-copy : (o p : Option (Slot T)) (y : Slot T) → IsSlotClone (IsCopy is_clone) o p → p ≡ Some y → (x : Slot T) × (o ≡ Some x)
  has-copy None p y h e = absurd cc
  has-copy (Some x) p y h e = (x, refl)

  -- copies of slots have the same spare slots
  pub spares-copies : (xs ys : List (Option (Slot T))) (free : Option ℕ) (spare : ℕ) → AreCopies xs ys → {top : ℕ} → HasSpares xs free spare top → HasSpares ys free spare top
  spares-copies xs ys free spare h {top} s =
      let c : count_by is_some ys ≡ count_by is_some xs = count-copies (IsCopy is_clone) xs ys h in
      let d : count_by is_some (map used_of ys) ≡ count_by is_some (map used_of xs) = count-copies is_clone (map used_of xs) (map used_of ys) (records-copy xs ys h) in
      let a = s.all in
      let f = s.fits in
      record {
        linked = linked-copies xs ys spare free h s.linked;
        all = omega arith;
        fits = omega arith;
        numbered = λ i y e. (let x = has-copy (get_or xs i None) (get_or ys i None) y (at-copy (IsCopy is_clone) xs ys h i) e in s.numbered i x.0 x.1);
        small = s.small;
      }
