-- The slots of a store: the records and the chain of spare slots after a change of one slot.
use Rattle.std.proofs.Common.{◌≡◌, ◌≢◌, ◌⊎◌, ℕ, zero, suc, ◌+◌, ◌-◌, ◌^◌, ◌<◌, ◌≤◌, max, List, [], ◌∷◌, map, length, get_or, set, Option, Some, None, is_some, IsSome, count_by, cond, refl, sym, ap, subst, ◌∙◌, inl, inr, arith, true≢false, drop, sum_by}
use Rattle.std.proofs.lemmas.List.{map-set, length-map, get_or-set_same, get_or-set_other, get_or_past}
use Rattle.std.proofs.lemmas.Bool.{cases_eq, cases_lt, cond_below, cond_above}
use Rattle.std.proofs.lemmas.List.Sums.{sum_by-set, sum_by-cons}
use Rattle.art_slots.specs.Chain.{used_of, AreLinked, HasSpares, room_of}
use Rattle.art_slots.specs.Store.{Store, slot_at, used_count, with_record}
use Rattle.art_slots.specs.declared.slots.Slot.{Slot}
use Rattle.art_slots.specs.declared.slots.Slot.TheVariants.{Used, Spare}

-- 1 for a value, 0 for none
abbrev pub one : {X : Type 0} → Option X → ℕ
one o = cond (is_some o) 1 0

module _ {X : Type 0} (f : Option X → ℕ) (zeros : f None ≡ 0) where
  -- lists with the same values at each place have the same sum
  pub sum-same : (xs ys : List (Option X)) → ((j : ℕ) → get_or ys j None ≡ get_or xs j None) → sum_by f ys ≡ sum_by f xs
  sum-same [] [] h = refl
  sum-same [] (y ∷ ys) h =
      let e : y ≡ None = h 0 in
      let v : f y ≡ 0 = ap f e ∙ zeros in
      let ih : sum_by f ys ≡ sum_by f [] = sum-same [] ys (λ j. h (suc j) ∙ sym (get_or_past {X = Option X} [] j None (omega arith))) in
      omega (arith, ih, v, sum_by-cons f y ys)
  sum-same (x ∷ xs) [] h =
      let e : None ≡ x = h 0 in
      let v : f x ≡ 0 = ap f (sym e) ∙ zeros in
      let ih : sum_by f [] ≡ sum_by f xs = sum-same xs [] (λ j. get_or_past {X = Option X} [] j None (omega arith) ∙ h (suc j)) in
      omega (arith, ih, v, sum_by-cons f x xs)
  sum-same (x ∷ xs) (y ∷ ys) h =
      let e : f y ≡ f x = ap f (h 0) in
      let ih : sum_by f ys ≡ sum_by f xs = sum-same xs ys (λ j. h (suc j)) in
      omega (arith, sum_by-cons f x xs, sum_by-cons f y ys)

  -- the sum is the sum of the first value and the rest
  sum-first : (xs : List (Option X)) → sum_by f xs ≡ f (get_or xs 0 None) + sum_by f (drop 1 xs)
  sum-first [] = omega (arith, zeros)
  sum-first (x ∷ xs) = sum_by-cons f x xs

  -- a place of the rest is the next place of the list
  rest-at : (xs : List (Option X)) (j : ℕ) → get_or (drop 1 xs) j None ≡ get_or xs (suc j) None
  rest-at [] j = get_or_past {X = Option X} [] j None (omega arith)
  rest-at (x ∷ xs) j = refl

  -- how a change at one place changes the sum
  pub sum-change : (xs ys : List (Option X)) (i : ℕ) → ((j : ℕ) → j ≢ i → get_or ys j None ≡ get_or xs j None) → sum_by f ys + f (get_or xs i None) ≡ sum_by f xs + f (get_or ys i None)
  sum-change xs ys zero h =
      let rest : sum_by f (drop 1 ys) ≡ sum_by f (drop 1 xs) = sum-same (drop 1 xs) (drop 1 ys) (λ j. rest-at ys j ∙ h (suc j) (λ e. omega (arith, e)) ∙ sym (rest-at xs j)) in
      omega (arith, rest, sum-first xs, sum-first ys)
  sum-change xs ys (suc i) h =
      let first : f (get_or ys 0 None) ≡ f (get_or xs 0 None) = ap f (h 0 (λ e. omega (arith, e))) in
      let ih : sum_by f (drop 1 ys) + f (get_or (drop 1 xs) i None) ≡ sum_by f (drop 1 xs) + f (get_or (drop 1 ys) i None) =
      sum-change (drop 1 xs) (drop 1 ys) i (λ j off. rest-at ys j ∙ h (suc j) (λ e. off (omega (arith, e))) ∙ sym (rest-at xs j)) in
      omega (arith, first, ih, ap f (rest-at xs i), ap f (rest-at ys i), sum-first xs, sum-first ys)

  -- the sum is not less than what one place adds
  pub sum-least : (xs : List (Option X)) (i : ℕ) → f (get_or xs i None) ≤ sum_by f xs
  sum-least [] i = let n : f (get_or {A = Option X} [] i None) ≡ 0 = ap f (get_or_past {X = Option X} [] i None (omega arith)) ∙ zeros in omega arith
  sum-least (x ∷ xs) zero = omega (arith, sum_by-cons f x xs)
  sum-least (x ∷ xs) (suc i) = let ih = sum-least xs i in omega (arith, ih, sum_by-cons f x xs)

module _ {X : Type 0} where
  -- a place that has a value is in the list
  pub within : (xs : List (Option X)) (i : ℕ) (x : X) → get_or xs i None ≡ Some x → i < length xs
  within [] zero x e = absurd cc
  within [] (suc i) x e = absurd cc
  within (y ∷ xs) zero x e = omega arith
  within (y ∷ xs) (suc i) x e = omega (arith, within xs i x e)

  -- how a write of one place changes the count
  pub count-set : (xs : List (Option X)) (i : ℕ) (o : Option X) → i < length xs → count_by is_some (set xs i o) + one (get_or xs i None) ≡ count_by is_some xs + one o
  count-set xs i o l = sum_by-set one xs i o None l

  -- lists with the same values at each place have the same count
  pub count-same : (xs ys : List (Option X)) → ((j : ℕ) → get_or ys j None ≡ get_or xs j None) → count_by is_some ys ≡ count_by is_some xs
  count-same xs ys h = sum-same one refl xs ys h

  -- a list with a value at one more place has one more in its count
  pub count-more : (xs ys : List (Option X)) (i : ℕ) (x : X) → get_or xs i None ≡ None → get_or ys i None ≡ Some x → ((j : ℕ) → j ≢ i → get_or ys j None ≡ get_or xs j None) → count_by is_some ys ≡ count_by is_some xs + 1
  count-more xs ys i x none now others =
      let c : count_by is_some ys + one (get_or xs i None) ≡ count_by is_some xs + one (get_or ys i None) = sum-change one refl xs ys i others in
      omega (arith, c, ap one none, ap one now)

-- the room, if the capacity is small
pub room-small : (n c : ℕ) → c < 2 ^ 61 → c - n ≡ room_of n c
room-small n c h = cond_below c (2 ^ 61) (c - n) 0 h

-- there is no room if the capacity is too great
pub room-great : (n c : ℕ) → 2 ^ 61 ≤ c → 0 ≡ room_of n c
room-great n c h = cond_above c (2 ^ 61) (c - n) 0 0 h refl

-- if there is room, the capacity is small, and greater than the number of slots
pub room-some : (n c : ℕ) → 0 < room_of n c → (c < 2 ^ 61) × (n < c)
room-some n c h = elim (cases_lt c (2 ^ 61)) [
  | inl p ↦ (p, omega (arith, room-small n c p))
  | inr p ↦ absurd (omega (arith, room-great n c p))
]

module _ {T : Type 0} where
  -- the record at a number is the record of its slot
  pub at-map : (xs : List (Option (Slot T))) (i : ℕ) → get_or (map used_of xs) i None ≡ used_of (get_or xs i None)
  at-map [] zero = refl
  at-map [] (suc i) = refl
  at-map (x ∷ xs) zero = refl
  at-map (x ∷ xs) (suc i) = at-map xs i

  -- a number with a record has a used slot
  pub used_at : (xs : List (Option (Slot T))) (i : ℕ) → IsSome (get_or (map used_of xs) i None) → (x : T) × (get_or xs i None ≡ Some (Used x))
  used_at xs i h = by_slot (get_or xs i None) refl (subst IsSome (at-map xs i) h)
    where
      by_slot : (o : Option (Slot T)) → get_or xs i None ≡ o → IsSome (used_of o) → (x : T) × (get_or xs i None ≡ Some (Used x))
      by_slot None e h = absurd (true≢false (sym h))
      by_slot (Some (Used x)) e h = (x, e)
      by_slot (Some (Spare n)) e h = absurd (true≢false (sym h))

  -- chains that start at the same slot have the same length
  pub linked-unique : (xs : List (Option (Slot T))) (m n : ℕ) (from : Option ℕ) → AreLinked xs m from → AreLinked xs n from → m ≡ n
  linked-unique xs zero zero from p q = refl
  linked-unique xs zero (suc n) from p q = let e = q.2 in absurd cc
  linked-unique xs (suc m) zero from p q = let e = p.2 in absurd cc
  linked-unique xs (suc m) (suc n) from p q =
      let a : from ≡ Some p.0 = p.2 in
      let b : from ≡ Some q.0 = q.2 in
      let c : get_or xs p.0 None ≡ Some (Spare p.1) = p.3 in
      let d : get_or xs q.0 None ≡ Some (Spare q.1) = q.3 in
      let same : q.0 ≡ p.0 = cc in
      let e : get_or xs p.0 None ≡ Some (Spare q.1) = subst (λ z. get_or xs z None ≡ Some (Spare q.1)) same d in
      let next : q.1 ≡ p.1 = cc in
      ap suc (linked-unique xs m n p.1 p.4 (subst (AreLinked xs n) next q.4))

  -- no chain of at most n slots starts at slot i
  abbrev pub IsOff : List (Option (Slot T)) → ℕ → ℕ → Type 0
  IsOff xs i n = (m : ℕ) → m < n → AreLinked xs (suc m) (Some i) → ⊥

  -- a change of a slot that is not on the chain does not change the chain
  pub linked-others : (xs ys : List (Option (Slot T))) (i : ℕ) (others : (j : ℕ) → j ≢ i → get_or ys j None ≡ get_or xs j None) (n : ℕ) (from : Option ℕ) → IsOff xs i n → AreLinked xs n from → AreLinked ys n from
  linked-others xs ys i others zero from off p = p
  linked-others xs ys i others (suc n) from off p =
      let e : from ≡ Some p.0 = p.2 in
      let apart : p.0 ≢ i = λ same. off n (omega arith) (subst (AreLinked xs (suc n)) (e ∙ ap (λ (z : ℕ). Some z) same) p) in
      (p.0, p.1, e, others p.0 apart ∙ p.3, linked-others xs ys i others n p.1 (λ m below. off m (omega arith)) p.4)

  -- a slot with a record is on no chain
  pub off_used : (xs : List (Option (Slot T))) (i : ℕ) (x : T) (n : ℕ) → get_or xs i None ≡ Some (Used x) → IsOff xs i n
  off_used xs i x n e m l p =
      let a : Some i ≡ Some p.0 = p.2 in
      let same : p.0 ≡ i = cc in
      let b : get_or xs i None ≡ Some (Spare p.1) = subst (λ z. get_or xs z None ≡ Some (Spare p.1)) same p.3 in
      cc

  -- a place with no slot is on no chain
  pub off_none : (xs : List (Option (Slot T))) (i n : ℕ) → get_or xs i None ≡ None → IsOff xs i n
  off_none xs i n e m l p =
      let a : Some i ≡ Some p.0 = p.2 in
      let same : p.0 ≡ i = cc in
      let b : get_or xs i None ≡ Some (Spare p.1) = subst (λ z. get_or xs z None ≡ Some (Spare p.1)) same p.3 in
      cc

  -- the counts after a write of a slot
  module _ (xs : List (Option (Slot T))) (i : ℕ) (old new : Slot T) (found : get_or xs i None ≡ Some old) where
    -- how many records there are then, and that there are as many slots
    pub counts-set : (count_by is_some (map used_of (set xs i (Some new))) + one (used_of (Some old)) ≡ count_by is_some (map used_of xs) + one (used_of (Some new))) × (count_by is_some (set xs i (Some new)) ≡ count_by is_some xs)
    counts-set =
        let l : i < length xs = within xs i old found in
        let m : i < length (map used_of xs) = omega (arith, length-map xs (used_of {T = T})) in
        let r : get_or (map used_of xs) i None ≡ used_of (Some old) = at-map xs i ∙ ap used_of found in
        let u = count-set (map used_of xs) i (used_of (Some new)) m in
        let v : count_by is_some (set xs i (Some new)) + one (get_or xs i None) ≡ count_by is_some xs + 1 = count-set xs i (Some new) l in
        let w : one (get_or xs i None) ≡ 1 = ap one found in
        (rw (map-set used_of xs i (Some new), ← r) u, omega arith)

    -- the record at that number then
    pub now-set : get_or (map used_of (set xs i (Some new))) i None ≡ used_of (Some new)
    now-set = at-map (set xs i (Some new)) i ∙ ap used_of (get_or-set_same xs i (Some new) None (within xs i old found))

    -- the record at each other number is unchanged
    pub others-set : (j : ℕ) → j ≢ i → get_or (map used_of (set xs i (Some new))) j None ≡ get_or (map used_of xs) j None
    others-set j h = at-map (set xs i (Some new)) j ∙ ap used_of (get_or-set_other xs i j (Some new) None h) ∙ sym (at-map xs j)

  -- the numbers of the slots are less than `top`
  abbrev Numbered : ℕ → List (Option (Slot T)) → Type 0
  Numbered top xs = (i : ℕ) (x : Slot T) → get_or xs i None ≡ Some x → i < top

  -- they are still less after a write of one slot
  numbered-set : (top : ℕ) (xs : List (Option (Slot T))) (i : ℕ) (old new : Slot T) → get_or xs i None ≡ Some old → Numbered top xs → Numbered top (set xs i (Some new))
  numbered-set top xs i old new found small j x e = elim (cases_eq j i) [
    | inl p ↦ subst (λ z. z < top) (sym p) (small i old found)
    | inr p ↦ small j x (sym (get_or-set_other xs i j (Some new) None p) ∙ e)
  ]

  -- a record is replaced
  pub spares-rewrite : (xs : List (Option (Slot T))) (free : Option ℕ) (n i : ℕ) (x y : T) {top : ℕ} → HasSpares xs free n top → get_or xs i None ≡ Some (Used x) → HasSpares (set xs i (Some (Used y))) free n top
  spares-rewrite xs free n i x y {top} s found =
      let k = counts-set xs i (Used x) (Used y) found in
      let a = s.all in
      let f = s.fits in
      let u : count_by is_some (map used_of (set xs i (Some (Used y)))) + 1 ≡ count_by is_some (map used_of xs) + 1 = k.0 in
      let v : count_by is_some (set xs i (Some (Used y))) ≡ count_by is_some xs = k.1 in
      record {
        linked = linked-others xs (set xs i (Some (Used y))) i (λ j h. get_or-set_other xs i j (Some (Used y)) None h) n free (off_used xs i x n found) s.linked;
        all = omega arith;
        fits = omega arith;
        numbered = numbered-set top xs i (Used x) (Used y) found s.numbered;
        small = s.small;
      }

  -- the number of slots is unchanged
  pub slots-rewrite : (xs : List (Option (Slot T))) (i : ℕ) (y : T) → IsSome (get_or (map used_of xs) i None) → count_by is_some (set xs i (Some (Used y))) ≡ count_by is_some xs
  slots-rewrite xs i y h = let u = used_at xs i h in (counts-set xs i (Used u.0) (Used y) u.1).1

  -- a record is put into the first spare slot
  pub spares-fill : (xs : List (Option (Slot T))) (free : Option ℕ) (n i : ℕ) (next : Option ℕ) (y : T) {top : ℕ} → HasSpares xs free n top → free ≡ Some i → get_or xs i None ≡ Some (Spare next) → HasSpares (set xs i (Some (Used y))) next (n - 1) top
  spares-fill xs free n i next y {top} s first found = by_count n s.linked s.all
    where
      by_count : (n : ℕ) → AreLinked xs n free → count_by is_some (map used_of xs) + n ≡ count_by is_some xs → HasSpares (set xs i (Some (Used y))) next (n - 1) top
      by_count zero linked all = let e : free ≡ None = linked in absurd cc
      by_count (suc n) linked all =
          let k = counts-set xs i (Spare next) (Used y) found in
          let f = s.fits in
          let u : count_by is_some (map used_of (set xs i (Some (Used y)))) + 0 ≡ count_by is_some (map used_of xs) + 1 = k.0 in
          let v : count_by is_some (set xs i (Some (Used y))) ≡ count_by is_some xs = k.1 in
          let a : free ≡ Some linked.0 = linked.2 in
          let same : linked.0 ≡ i = cc in
          let b : get_or xs i None ≡ Some (Spare linked.1) = subst (λ z. get_or xs z None ≡ Some (Spare linked.1)) same linked.3 in
          let e : linked.1 ≡ next = cc in
          let m : suc n - 1 ≡ n = omega arith in
          let off : IsOff xs i n = λ m below p. omega (arith, linked-unique xs (suc m) (suc n) free (subst (AreLinked xs (suc m)) (sym first) p) linked) in
          subst (λ z. HasSpares (set xs i (Some (Used y))) next z top) (sym m) (record {
            linked = linked-others xs (set xs i (Some (Used y))) i (λ j h. get_or-set_other xs i j (Some (Used y)) None h) n next off (subst (AreLinked xs n) e linked.4);
            all = omega arith;
            fits = omega arith;
            numbered = numbered-set top xs i (Spare next) (Used y) found s.numbered;
            small = s.small;
          })

  -- a record is removed, and its slot becomes the first spare slot
  pub spares-take : (xs : List (Option (Slot T))) (free : Option ℕ) (n i : ℕ) (x : T) {top : ℕ} → HasSpares xs free n top → get_or xs i None ≡ Some (Used x) → HasSpares (set xs i (Some (Spare free))) (Some i) (n + 1) top
  spares-take xs free n i x {top} s found =
      let k = counts-set xs i (Used x) (Spare free) found in
      let a = s.all in
      let f = s.fits in
      let u : count_by is_some (map used_of (set xs i (Some (Spare free)))) + 1 ≡ count_by is_some (map used_of xs) + 0 = k.0 in
      let v : count_by is_some (set xs i (Some (Spare free))) ≡ count_by is_some xs = k.1 in
      let m : n + 1 ≡ suc n = omega arith in
      record {
        linked = subst (λ z. AreLinked (set xs i (Some (Spare free))) z (Some i)) (sym m) (
          i,
          free,
          refl,
          get_or-set_same xs i (Some (Spare free)) None (within xs i (Used x) found),
          linked-others xs (set xs i (Some (Spare free))) i (λ j h. get_or-set_other xs i j (Some (Spare free)) None h) n free (off_used xs i x n found) s.linked,
        );
        all = omega arith;
        fits = omega arith;
        numbered = numbered-set top xs i (Used x) (Spare free) found s.numbered;
        small = s.small;
      }

  -- a slot with a record is added
  module _ (xs ys : List (Option (Slot T))) (i : ℕ) (y : T) (none : get_or xs i None ≡ None) (now : get_or ys i None ≡ Some (Used y)) (others : (j : ℕ) → j ≢ i → get_or ys j None ≡ get_or xs j None) where
    -- the record at each other number is unchanged
    pub others-put : (j : ℕ) → j ≢ i → get_or (map used_of ys) j None ≡ get_or (map used_of xs) j None
    others-put j h = at-map ys j ∙ ap used_of (others j h) ∙ sym (at-map xs j)

    -- there is one more record
    pub used-put : count_by is_some (map used_of ys) ≡ count_by is_some (map used_of xs) + 1
    used-put = count-more (map used_of xs) (map used_of ys) i y (at-map xs i ∙ ap used_of none) (at-map ys i ∙ ap used_of now) others-put

    -- the chain is unchanged
    pub spares-put : (free : Option ℕ) (n : ℕ) → count_by is_some ys ≡ count_by is_some xs + 1 → count_by is_some ys < 2 ^ 61 → i < 2 ^ 61 → {top : ℕ} → HasSpares xs free n top → (above : ℕ) → above ≡ max top (i + 1) → HasSpares ys free n above
    spares-put free n more fits small {top} s above raised =
        let a = s.all in
        let u = used-put in
        record {
          linked = linked-others xs ys i others n free (off_none xs i n none) s.linked;
          all = omega arith;
          fits = fits;
          numbered = λ j x e. elim (cases_eq j i) [
            | inl p ↦ omega (arith, p, raised)
            | inr p ↦ (let b = s.numbered j x (sym (others j p) ∙ e) in omega (arith, raised))
          ];
          small = (let b = s.small in omega (arith, raised));
        }

  -- a spare slot is added
  module _ (xs ys : List (Option (Slot T))) (free : Option ℕ) (n i : ℕ) (none : get_or xs i None ≡ None) (now : get_or ys i None ≡ Some (Spare free)) (others : (j : ℕ) → j ≢ i → get_or ys j None ≡ get_or xs j None) where
    -- the record at each number is unchanged
    pub same-add : (j : ℕ) → get_or (map used_of ys) j None ≡ get_or (map used_of xs) j None
    same-add j = at-map ys j ∙ by_place (cases_eq j i) ∙ sym (at-map xs j)
      where
        by_place : (j ≡ i) ⊎ (j ≢ i) → used_of (get_or ys j None) ≡ used_of (get_or xs j None)
        by_place (inl e) = ap (λ z. used_of (get_or ys z None)) e ∙ ap used_of now ∙ sym (ap used_of none) ∙ ap (λ z. used_of (get_or xs z None)) (sym e)
        by_place (inr h) = ap used_of (others j h)

    -- the new slot becomes the first spare slot
    pub spares-add : count_by is_some ys ≡ count_by is_some xs + 1 → count_by is_some ys < 2 ^ 61 → i < 2 ^ 61 → {top : ℕ} → HasSpares xs free n top → (above : ℕ) → above ≡ max top (i + 1) → HasSpares ys (Some i) (n + 1) above
    spares-add more fits small {top} s above raised =
        let a = s.all in
        let u = count-same (map used_of xs) (map used_of ys) same-add in
        let m : n + 1 ≡ suc n = omega arith in
        record {
          linked = subst (λ z. AreLinked ys z (Some i)) (sym m) (i, free, refl, now, linked-others xs ys i others n free (off_none xs i n none) s.linked);
          all = omega arith;
          fits = fits;
          numbered = λ j x e. elim (cases_eq j i) [
            | inl p ↦ omega (arith, p, raised)
            | inr p ↦ (let b = s.numbered j x (sym (others j p) ∙ e) in omega (arith, raised))
          ];
          small = (let b = s.small in omega (arith, raised));
        }

-- a store with a record replaced
module _ {T : Type 0} (s : Store T) (i : ℕ) (x y : T) (found : slot_at s i ≡ Some x) where
  -- the number has the new record
  pub with-now : slot_at (with_record s i y) i ≡ Some y
  with-now = get_or-set_same s.slots i (Some y) None (within s.slots i x found)

  -- the record at each other number is unchanged
  pub with-others : (j : ℕ) → j ≢ i → slot_at (with_record s i y) j ≡ slot_at s j
  with-others j h = get_or-set_other s.slots i j (Some y) None h

  -- the number of records is unchanged
  pub with-count : used_count (with_record s i y) ≡ used_count s
  with-count =
      let u : count_by is_some (set s.slots i (Some y)) + one (get_or s.slots i None) ≡ count_by is_some s.slots + 1 = count-set s.slots i (Some y) (within s.slots i x found) in
      let v : one (get_or s.slots i None) ≡ 1 = ap one found in
      omega arith
