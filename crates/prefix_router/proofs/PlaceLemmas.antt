-- One of some lists is replaced or removed: what all of them have then.
use Rattle.std.proofs.Common.{◌≡◌, ◌≢◌, ℕ, zero, suc, ◌+◌, ◌<◌, ◌≤◌, Bool, true, false, not, ltb, List, [], ◌∷◌, ◌++◌, take, drop, set, remove, get_or, length, length-append, append-nil, refl, sym, ap, ◌∙◌, subst, arith, Option, Some, None, option_map, is_some, position, flat_map, if◌then◌else◌}
use Rattle.std.specs.List.{position_or_len}
use Rattle.std.proofs.lemmas.Bool.{false≢true, cond-true, cond-false, lt-ltb, ltb-true, not-false, false_from_ne_true}
use Rattle.std.proofs.lemmas.Grind.{flat_map-append}
use Rattle.std.proofs.lemmas.List.Quantifiers.{position-Some}
use Rattle.blart_keys.specs.Content.{IsContent}
use Rattle.blart_keys.specs.declared.calls.TryInsertError.{TryInsertError}
use Rattle.blart_keys.specs.declared.calls.TryInsertError.TheVariants.{Prefix, Memory}
use Rattle.blart_keys.specs.Stored.{bytes, pair_at, value_at, has, overlaps, Updates, Refuses}
use Rattle.blart_keys.proofs.ContentLemmas.{at_Some, conflict_found, conflict_member, stored_no_conflict}
use Rattle.blart_keys.proofs.Options.{none_of, some_of}
use Rattle.blart_keys.proofs.StoredLemmas.{is_some-map}
use Rattle.blart_keys.proofs.RankLemmas.{Member, Member-append_left, Member-append_right}
use Rattle.prefix_router.proofs.BestLemmas.{pair_at-left, pair_at-right}
use Rattle.prefix_router.proofs.TableLemmas.{flat_split, flat_set, flat_remove, none_append, found_at}

-- what a search for a place returns, in terms of equal arguments
pub told : {X : Type 0} (test : List ℕ → X → Bool) (xs ys : List X) (path q : List ℕ) (o : Option ℕ) → ys ≡ xs → q ≡ path → o ≡ position (test q) ys → position (test path) xs ≡ o
told test xs ys path q o e f h = (λ i. position (test (sym f i)) (sym e i)) ∙ sym h

-- if the first element passes, its place is found
first_passes : {X : Type 0} (p : X → Bool) (x : X) (xs : List X) → p x ≡ true → position p (x ∷ xs) ≡ Some 0
first_passes p x xs t = rw t (cond-true _ (Some 0) None (lt-ltb 0 (suc (length xs)) (omega arith)))

-- if the first does not pass, the place is one more than among the others
later_passes : {X : Type 0} (p : X → Bool) (x : X) (xs : List X) → p x ≡ false → ltb (position_or_len p xs) (length xs) ≡ true → position p (x ∷ xs) ≡ Some (1 + position_or_len p xs)
later_passes p x xs f t =
    let l : position_or_len p xs < length xs = ltb-true _ _ t in
    rw f (cond-true _ (Some (1 + position_or_len p xs)) None (lt-ltb (1 + position_or_len p xs) (suc (length xs)) (omega arith)))

-- if no element passes, the first does not, nor any other
pub absent_first : {X : Type 0} (p : X → Bool) (x : X) (xs : List X) → position p (x ∷ xs) ≡ None → (p x ≡ false) × (position p xs ≡ None)
absent_first p x xs e =
    let fails : p x ≡ false = false_from_ne_true _ (λ t. (let s : None ≡ Some 0 = sym e ∙ first_passes p x xs t in cc)) in
    let late : ltb (position_or_len p xs) (length xs) ≡ false = false_from_ne_true _ (λ t. (let s : None ≡ Some (1 + position_or_len p xs) = sym e ∙ later_passes p x xs fails t in cc)) in
    (fails, cond-false _ (Some (position_or_len p xs)) None late)

module _ {K V : Type 0} (kb : K → List ℕ) where
  -- ---- what is stored

  -- bytes that are not stored have no pair
  pub not_stored : (S : List (K × V)) (q : List ℕ) → has kb S q ≡ false → pair_at kb S q ≡ None
  not_stored S q h = none_of (pair_at kb S q) (λ s. false≢true (sym h ∙ s))

  -- bytes that are stored have one
  pub is_stored : (S : List (K × V)) (q : List ℕ) → has kb S q ≡ true → (p : K × V) × (pair_at kb S q ≡ Some p)
  is_stored S q h = some_of (pair_at kb S q) h

  -- stored bytes do not conflict
  pub stored_free : (S : List (K × V)) → IsContent (bytes kb) S → (q : List ℕ) → has kb S q ≡ true → overlaps kb S q ≡ false
  unfolding pair_at overlaps
  stored_free S content q h =
      let p = is_stored S q h in
      let f = at_Some (bytes kb) S q p.0 p.1 in
      subst (λ r. overlaps kb S r ≡ false) f.1 (stored_no_conflict (bytes kb) S content p.0 f.0)

  -- so an insertion at stored bytes returns no error
  pub not_refused : (S : List (K × V)) → IsContent (bytes kb) S → (q : List ℕ) → has kb S q ≡ true → (e : TryInsertError) → Refuses kb S q e → ⊥
  not_refused S content q h (Prefix e) r = false≢true (sym (stored_free S content q h) ∙ r)
  not_refused S content q h (Memory e) r = false≢true (sym r.1 ∙ h)

  -- nothing conflicts with no pairs
  pub nothing_overlaps : (S : List (K × V)) (q : List ℕ) → S ≡ [] → overlaps kb S q ≡ false
  unfolding overlaps
  nothing_overlaps S q e = ap (λ (T : List (K × V)). overlaps kb T q) e

  -- if two lists together lack the bytes, the first does
  pub none_left : (A B : List (K × V)) (q : List ℕ) → pair_at kb (A ++ B) q ≡ None → pair_at kb A q ≡ None
  none_left A B q h = none_of (pair_at kb A q) (λ s. (
      let p = some_of (pair_at kb A q) s in
      let e : None ≡ Some p.0 = sym h ∙ pair_at-left kb A B q p.0 p.1 in
      cc))

  -- and so does the second
  pub none_right : (A B : List (K × V)) (q : List ℕ) → pair_at kb (A ++ B) q ≡ None → pair_at kb B q ≡ None
  none_right A B q h = sym (pair_at-right kb A B q (none_left A B q h)) ∙ h

  module _ {X : Type 0} (f : X → List (K × V)) where
    -- ---- a place

    -- x is at this place, and the lists before it lack the bytes q
    pub record IsAt (xs : List X) (i : ℕ) (x : X) (q : List ℕ) : Type 0 where
      pub within : i < length xs
      pub is : x ≡ get_or xs i x
      pub before : pair_at kb (flat_map f (take i xs)) q ≡ None

    none_before : (xs : List X) (i : ℕ) (d : X) (q : List ℕ) → ((k : ℕ) → k < i → has kb (f (get_or xs k d)) q ≡ false) → i ≤ length xs → pair_at kb (flat_map f (take i xs)) q ≡ None
    unfolding pair_at
    none_before [] zero d q h l = refl
    none_before [] (suc i) d q h l = absurd (omega arith)
    none_before (x ∷ xs) zero d q h l = refl
    none_before (x ∷ xs) (suc i) d q h l = none_append kb (f x) (flat_map f (take i xs)) q (not_stored (f x) q (h 0 (omega arith))) (none_before xs i d q (λ k m. h (suc k) (omega arith)) (omega arith))

    -- the place of the first list that has the bytes
    pub place_of : (xs : List X) (i : ℕ) (q : List ℕ) → position (λ x. has kb (f x) q) xs ≡ Some i → (x : X) → x ≡ get_or xs i x → IsAt xs i x q × (has kb (f x) q ≡ true)
    place_of xs i q e x s =
        let p = position-Some (λ x. has kb (f x) q) xs i x e in (
          record { within = p.0; is = s; before = none_before xs i x q p.2 (omega (arith, p.0)) },
          ap (λ y. has kb (f y) q) s ∙ p.1,
        )

    -- what it has there, all of them have
    pub found_place : (xs : List X) (i : ℕ) (x : X) (q : List ℕ) → IsAt xs i x q → has kb (f x) q ≡ true → pair_at kb (flat_map f xs) q ≡ pair_at kb (f x) q
    found_place xs i x q at h = let p = is_stored (f x) q h in found_at kb f xs i x at.within at.is q at.before p.0 p.1 ∙ sym p.1

    -- any place, if no list has them
    pub place_free : (xs : List X) (i : ℕ) (q : List ℕ) → i < length xs → (x : X) → x ≡ get_or xs i x → pair_at kb (flat_map f xs) q ≡ None → IsAt xs i x q × (pair_at kb (f x) q ≡ None)
    place_free xs i q l x s h =
        let whole : pair_at kb (flat_map f (take i xs) ++ (f x ++ flat_map f (drop (suc i) xs))) q ≡ None = ap (λ (S : List (K × V)). pair_at kb S q) (sym (flat_split f xs i x l s)) ∙ h in (
          record { within = l; is = s; before = none_left (flat_map f (take i xs)) _ q whole },
          none_left (f x) (flat_map f (drop (suc i) xs)) q (none_right (flat_map f (take i xs)) _ q whole),
        )

    -- ---- another list in its place

    module _ (xs : List X) (i : ℕ) (x y : X) where
      abbrev after : List X
      after = set xs i y

      -- bytes at which the two lists agree are as before
      pub same_middle : i < length xs → x ≡ get_or xs i x → (r : List ℕ) → pair_at kb (f y) r ≡ pair_at kb (f x) r → pair_at kb (flat_map f after) r ≡ pair_at kb (flat_map f xs) r
      same_middle l s r same =
          ap (λ (S : List (K × V)). pair_at kb S r) (flat_set f xs i y l)
          ∙ middle (flat_map f (take i xs)) (flat_map f (drop (suc i) xs)) (pair_at kb (flat_map f (take i xs)) r) refl (pair_at kb (f x) r) refl
          ∙ sym (ap (λ (S : List (K × V)). pair_at kb S r) (flat_split f xs i x l s))
        where
          middle : (A C : List (K × V)) (o : Option (K × V)) → pair_at kb A r ≡ o → (p : Option (K × V)) → pair_at kb (f x) r ≡ p → pair_at kb (A ++ (f y ++ C)) r ≡ pair_at kb (A ++ (f x ++ C)) r
          middle A C (Some z) e p g = pair_at-left kb A (f y ++ C) r z e ∙ sym (pair_at-left kb A (f x ++ C) r z e)
          middle A C None e (Some z) g = pair_at-right kb A (f y ++ C) r e ∙ pair_at-left kb (f y) C r z (same ∙ g) ∙ sym (pair_at-left kb (f x) C r z g) ∙ sym (pair_at-right kb A (f x ++ C) r e)
          middle A C None e None g = pair_at-right kb A (f y ++ C) r e ∙ pair_at-right kb (f y) C r (same ∙ g) ∙ sym (pair_at-right kb (f x) C r g) ∙ sym (pair_at-right kb A (f x ++ C) r e)

      -- a pair that is put into the one list is put into all of them
      pub updates_at : (q : List ℕ) (p : K × V) → IsAt xs i x q → Updates kb (f x) (f y) q (Some p) → Updates kb (flat_map f xs) (flat_map f after) q (Some p)
      updates_at q p at u = (
        ap (λ (S : List (K × V)). pair_at kb S q) (flat_set f xs i y at.within)
            ∙ pair_at-right kb (flat_map f (take i xs)) (f y ++ flat_map f (drop (suc i) xs)) q at.before
            ∙ pair_at-left kb (f y) (flat_map f (drop (suc i) xs)) q p u.0,
        λ r off. same_middle at.within at.is r (u.1 r off),
      )

      -- the number of pairs changes as in the one list
      pub length_at : i < length xs → x ≡ get_or xs i x → length (flat_map f after) + length (f x) ≡ length (flat_map f xs) + length (f y)
      length_at l s =
          let A = flat_map f (take i xs) in
          let C = flat_map f (drop (suc i) xs) in
          let now : length (flat_map f after) ≡ length A + (length (f y) + length C) = ap (λ (S : List (K × V)). length S) (flat_set f xs i y l) ∙ length-append A (f y ++ C) ∙ ap (λ n. length A + n) (length-append (f y) C) in
          let old : length (flat_map f xs) ≡ length A + (length (f x) + length C) = ap (λ (S : List (K × V)). length S) (flat_split f xs i x l s) ∙ length-append A (f x ++ C) ∙ ap (λ n. length A + n) (length-append (f x) C) in
          omega arith

      -- which is not at all, if the bytes were there
      pub length_kept : (q : List ℕ) → i < length xs → x ≡ get_or xs i x → has kb (f x) q ≡ true → (o : Option V) → o ≡ value_at kb (f x) q → length (f y) ≡ length (f x) + (if is_some o then 0 else 1) → length (flat_map f after) ≡ length (flat_map f xs)
      length_kept q l s h o e n =
          let there : is_some o ≡ true = ap is_some e ∙ is_some-map (λ (p : K × V). p.1) (pair_at kb (f x) q) ∙ h in
          let same : length (f y) ≡ length (f x) + 0 = n ∙ ap (λ (b : Bool). length (f x) + (if b then 0 else 1)) there in
          omega (arith, length_at l s)

    -- the bytes q are removed from the first list that has them
    pub record Taken (xs : List X) (i : ℕ) (y : X) (q : List ℕ) (o : Option V) : Type 0 where
      pub value : o ≡ value_at kb (flat_map f xs) q
      pub some : is_some o ≡ true
      pub others : (r : List ℕ) → r ≢ q → pair_at kb (flat_map f (set xs i y)) r ≡ pair_at kb (flat_map f xs) r
      pub len : length (flat_map f (set xs i y)) + 1 ≡ length (flat_map f xs)

    pub taken : (xs : List X) (i : ℕ) (x y : X) (q : List ℕ) (o : Option V) → position (λ x. has kb (f x) q) xs ≡ Some i → x ≡ get_or xs i x → o ≡ value_at kb (f x) q → Updates {V = V} kb (f x) (f y) q None → length (f y) + (if is_some o then 1 else 0) ≡ length (f x) → Taken xs i y q o
    taken xs i x y q o e s v u n =
        let at = place_of xs i q e x s in
        let there : is_some o ≡ true = ap is_some v ∙ is_some-map (λ (p : K × V). p.1) (pair_at kb (f x) q) ∙ at.1 in
        let less : length (f y) + 1 ≡ length (f x) = ap (λ (b : Bool). length (f y) + (if b then 1 else 0)) (sym there) ∙ n in
        record {
          value = v ∙ ap (option_map (λ (p : K × V). p.1)) (sym (found_place xs i x q at.0 at.1));
          some = there;
          others = λ r off. same_middle xs i x y at.0.within at.0.is r (u.1 r off);
          len = omega (arith, length_at xs i x y at.0.within at.0.is, less);
        }

    -- a list that has nothing may be removed
    pub flat_without : (xs : List X) (i : ℕ) (x : X) → i < length xs → x ≡ get_or xs i x → length (f x) ≡ 0 → flat_map f (remove xs i) ≡ flat_map f xs
    flat_without xs i x l s e =
        flat_remove f xs i l ∙ ap (λ B. flat_map f (take i xs) ++ (B ++ flat_map f (drop (suc i) xs))) (sym (nothing (f x) e)) ∙ sym (flat_split f xs i x l s)
      where
        nothing : (S : List (K × V)) → length S ≡ 0 → S ≡ []
        nothing [] e = refl
        nothing (p ∷ S) e = absurd (omega arith)

    -- ---- what conflicts

    -- what conflicts with one of the lists conflicts with all of them
    overlaps_flat : (xs : List X) (i : ℕ) (x : X) → i < length xs → x ≡ get_or xs i x → (q : List ℕ) → overlaps kb (f x) q ≡ true → overlaps kb (flat_map f xs) q ≡ true
    unfolding overlaps
    overlaps_flat xs i x l s q h =
        let r = conflict_found (bytes kb) (f x) q h in
        let there : Member r.0 (flat_map f xs) = subst (Member r.0) (sym (flat_split f xs i x l s)) (Member-append_right r.0 (flat_map f (take i xs)) _ (Member-append_left r.0 (f x) (flat_map f (drop (suc i) xs)) r.1)) in
        conflict_member (bytes kb) (flat_map f xs) q r.0 there r.2 r.3

    -- if each list conflicts and all of them do not, there are no lists
    pub no_lists : (xs : List X) (q : List ℕ) → position (λ x. not (overlaps kb (f x) q)) xs ≡ None → overlaps kb (flat_map f xs) q ≡ false → length xs ≡ 0
    no_lists [] q h o = refl
    no_lists (x ∷ xs) q h o =
        let busy : not (overlaps kb (f x) q) ≡ false = false_from_ne_true _ (λ t. (let e : None ≡ Some 0 = sym h ∙ first_passes (λ y. not (overlaps kb (f y) q)) x xs t in cc)) in
        absurd (false≢true (sym o ∙ overlaps_flat (x ∷ xs) 0 x (omega arith) refl q (not-false _ busy)))

    -- ---- one more list

    pub flat_push : (xs : List X) (y : X) → flat_map f (xs ++ y ∷ []) ≡ flat_map f xs ++ f y
    flat_push xs y = flat_map-append f xs (y ∷ []) ∙ ap (λ r. flat_map f xs ++ r) (append-nil (f y))

    -- a pair that is put into a list that had none is put into all of them
    pub updates_push : (xs : List X) (y : X) (old : List (K × V)) (q : List ℕ) (p : K × V) → pair_at kb (flat_map f xs) q ≡ None → ((r : List ℕ) → pair_at kb old r ≡ None) → Updates kb old (f y) q (Some p) → Updates kb (flat_map f xs) (flat_map f (xs ++ y ∷ [])) q (Some p)
    updates_push xs y old q p none nothing u = (
      ap (λ (S : List (K × V)). pair_at kb S q) (flat_push xs y) ∙ pair_at-right kb (flat_map f xs) (f y) q none ∙ u.0,
      λ r off. ap (λ (S : List (K × V)). pair_at kb S r) (flat_push xs y) ∙ same r off (pair_at kb (flat_map f xs) r) refl,
    )
      where
        same : (r : List ℕ) → r ≢ q → (o : Option (K × V)) → pair_at kb (flat_map f xs) r ≡ o → pair_at kb (flat_map f xs ++ f y) r ≡ pair_at kb (flat_map f xs) r
        same r off (Some z) e = pair_at-left kb (flat_map f xs) (f y) r z e ∙ sym e
        same r off None e = pair_at-right kb (flat_map f xs) (f y) r e ∙ u.1 r off ∙ nothing r ∙ sym e
