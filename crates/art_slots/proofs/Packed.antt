-- The slots of a slab whose values have the keys 0, 1, 2 and so on.
use Rattle.std.proofs.Common.{◌≡◌, ◌≢◌, ℕ, zero, suc, ◌<◌, ◌≤◌, List, [], ◌∷◌, ◌++◌, map, length, get_or, set, filter_map, Option, Some, None, is_some, IsSome, count_by, refl, sym, ap, subst, ◌∙◌, arith, inl, inr, length-append}
use Rattle.std.specs.List.{AllZip}
use Rattle.std.proofs.lemmas.Bool.{cases_eq, cases_lt}
use Rattle.std.proofs.lemmas.List.{map-set, map-append, length-map, get_or-map, get_or-set_same, get_or-set_other, get_or_past, get_or_append_left, get_or_push}
use Rattle.slab.specs.Slab.{IsSlotClone}
use Rattle.slab.proofs.DrainLemmas.{length-values}
use Rattle.art_slots.specs.Dense.{Holds}
use Rattle.art_slots.proofs.StoreSlots.{within}

module _ {T : Type 0} where
  -- the values of slots, in order
  abbrev pub vals : List (Option T) → List T
  vals slots = filter_map (λ slot. slot) slots

  -- slots that hold a list have its items as their values
  pub vals-of : (xs : List (Option T)) (cs : List T) → Holds xs cs → vals xs ≡ cs
  vals-of [] [] h = refl
  vals-of [] (c ∷ cs) h = let e : None ≡ Some c = h 0 in absurd cc
  vals-of (None ∷ xs) [] h = vals-of xs [] (λ j. h (suc j) ∙ sym (get_or_past {X = Option T} [] j None (omega arith)))
  vals-of (Some x ∷ xs) [] h = let e : Some x ≡ None = h 0 in absurd cc
  vals-of (None ∷ xs) (c ∷ cs) h = let e : None ≡ Some c = h 0 in absurd cc
  vals-of (Some x ∷ xs) (c ∷ cs) h =
      let e : Some x ≡ Some c = h 0 in
      let same : x ≡ c = cc in
      rw (same, vals-of xs cs (λ j. h (suc j))) refl

  -- slots that hold a list hold their values
  pub holds-vals : (xs : List (Option T)) (cs : List T) → Holds xs cs → Holds xs (vals xs)
  holds-vals xs cs h = subst (Holds xs) (sym (vals-of xs cs h)) h

  -- there are as many values as full slots
  pub length-vals : (xs : List (Option T)) → length (vals xs) ≡ count_by is_some xs
  length-vals xs = sym (length-values xs)

  -- each key of a list has a value
  some_at : (cs : List T) (i : ℕ) → i < length cs → IsSome (get_or (map (λ (x : T). Some x) cs) i None)
  some_at [] i l = absurd (omega arith)
  some_at (c ∷ cs) zero l = refl
  some_at (c ∷ cs) (suc i) l = some_at cs i (omega arith)

  module _ (xs : List (Option T)) (cs : List T) (h : Holds xs cs) where
    -- the slot of each key has a value
    pub full_at : (i : ℕ) → i < length cs → IsSome (get_or xs i None)
    full_at i l = subst IsSome (sym (h i)) (some_at cs i l)

    -- the slot of a key has the item at that key
    pub held-at : (i : ℕ) (d : T) → i < length cs → get_or xs i None ≡ Some (get_or cs i d)
    held-at i d l = h i ∙ get_or-map (λ (x : T). Some x) cs i d None l

    -- no key past them has a value
    pub none-past : (i : ℕ) → length cs ≤ i → get_or xs i None ≡ None
    none-past i l = h i ∙ get_or_past {X = Option T} (map (λ (x : T). Some x) cs) i None (omega (arith, length-map cs (λ (x : T). Some x)))

    -- a value is replaced
    pub holds-set : (i : ℕ) (v : T) → i < length cs → Holds (set xs i (Some v)) (set cs i v)
    holds-set i v l j =
        let m : i < length (map (λ (x : T). Some x) cs) = omega (arith, length-map cs (λ (x : T). Some x)) in
        let both : get_or (set xs i (Some v)) j None ≡ get_or (set (map (λ (x : T). Some x) cs) i (Some v)) j None =
        elim (cases_eq j i) [
          | inl p ↦ subst (λ z. get_or (set xs i (Some v)) z None ≡ get_or (set (map (λ (x : T). Some x) cs) i (Some v)) z None) (sym p) (
              get_or-set_same xs i (Some v) None (within xs i (get_or cs i v) (held-at i v l)) ∙ sym (get_or-set_same (map (λ (x : T). Some x) cs) i (Some v) None m)
              )
          | inr p ↦ get_or-set_other xs i j (Some v) None p ∙ h j ∙ sym (get_or-set_other (map (λ (x : T). Some x) cs) i j (Some v) None p)
        ] in
        both ∙ ap (λ zs. get_or zs j None) (sym (map-set (λ (x : T). Some x) cs i v))

    -- a value is added at the next key
    pub holds-push : (ys : List (Option T)) (v : T) → get_or ys (length cs) None ≡ Some v → ((j : ℕ) → j ≢ length cs → get_or ys j None ≡ get_or xs j None) → Holds ys (cs ++ v ∷ [])
    holds-push ys v now others j =
        let n : length (map (λ (x : T). Some x) cs) ≡ length cs = length-map cs (λ (x : T). Some x) in
        let both : get_or ys j None ≡ get_or (map (λ (x : T). Some x) cs ++ Some v ∷ []) j None =
        elim (cases_lt j (length cs)) [
          | inl l ↦ others j (λ e. omega (arith, e)) ∙ h j ∙ sym (get_or_append_left (map (λ (x : T). Some x) cs) (Some v ∷ []) None j (omega arith))
          | inr l ↦ elim (cases_eq j (length cs)) [
            | inl p ↦ ap (λ z. get_or ys z None) p ∙ now ∙ sym (get_or_push (map (λ (x : T). Some x) cs) (Some v) None j (omega arith))
            | inr p ↦ others j p ∙ none-past j l ∙ sym (get_or_past {X = Option T} (map (λ (x : T). Some x) cs ++ Some v ∷ []) j None (omega (arith, length-append (map (λ (x : T). Some x) cs) (Some v ∷ []))))
          ]
        ] in
        both ∙ ap (λ zs. get_or zs j None) (sym (map-append (λ (x : T). Some x) cs (v ∷ [])))

module _ {T : Type 0} (R : T → T → Type 0) where
  -- copies of slots that hold a list hold a list of clones
  pub holds-copies : (xs ys : List (Option T)) (cs : List T) → AllZip (IsSlotClone R) xs ys → Holds xs cs → (ds : List T) × Holds ys ds × AllZip R cs ds
  holds-copies [] [] [] h k = ([], λ j. refl, tt)
  holds-copies [] [] (c ∷ cs) h k = let e : None ≡ Some c = k 0 in absurd cc
  holds-copies [] (y ∷ ys) cs h k = absurd h
  holds-copies (x ∷ xs) [] cs h k = absurd h
  holds-copies (x ∷ xs) (y ∷ ys) [] h k =
      let r = holds-copies xs ys [] h.1 (λ j. k (suc j) ∙ sym (get_or_past {X = Option T} [] j None (omega arith))) in
      ([], none_first x y ys r.0 r.1 r.2 (k 0) h.0, tt)
    where
      none_first : (x y : Option T) (ys : List (Option T)) (ds : List T) → Holds ys ds → AllZip R [] ds → x ≡ None → IsSlotClone R x y → Holds (y ∷ ys) []
      none_first (Some x) y ys ds k z e c j = absurd cc
      none_first None y ys (d ∷ ds) k z e c j = absurd z
      none_first None y ys [] k z e c zero = c
      none_first None y ys [] k z e c (suc j) = k j ∙ get_or_past {X = Option T} [] j None (omega arith)
  holds-copies (x ∷ xs) (y ∷ ys) (c ∷ cs) h k =
      let r = holds-copies xs ys cs h.1 (λ j. k (suc j)) in
      let f = first x y (k 0) h.0 in
      (f.0 ∷ r.0, all y ys f.0 r.0 f.1 r.1, (f.2, r.2))
    where
      first : (x y : Option T) → x ≡ Some c → IsSlotClone R x y → (d : T) × (y ≡ Some d) × R c d
      first None y e z = absurd cc
      first (Some x) None e z = absurd z
      first (Some x) (Some d) e z = let same : x ≡ c = cc in (d, refl, subst (λ w. R w d) same z)

      all : (y : Option T) (ys : List (Option T)) (d : T) (ds : List T) → y ≡ Some d → Holds ys ds → Holds (y ∷ ys) (d ∷ ds)
      all y ys d ds e k zero = e
      all y ys d ds e k (suc j) = k j
