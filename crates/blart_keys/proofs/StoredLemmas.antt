-- What the definitions of stored pairs say after a call.
use Rattle.std.proofs.Common.{◌≡◌, ◌≢◌, slice_get, zero, Contains, find, filter, append-nil, ℕ, suc, ◌+◌, Bool, true, false, not, ◌&&◌, ◌||◌, ◌⊎◌, inl, inr, List, [], ◌∷◌, ◌++◌, length, map, refl, sym, ap, ◌∙◌, subst, subst₂, arith, Option, Some, None, Result, Ok, Err, IfOk, IfErr, OnOk, OnErr, option_map, is_some, bytes_eq, cond, if◌then◌else◌}
use Rattle.std.proofs.lemmas.Bool.{false≢true, cases_Bool, cond-true, cond-false, not-true, false_from_ne_true}
use Rattle.std.specs.Cmp.Lexicographic.{bytes_decides}
use Rattle.blart_keys.specs.Bytes.{begins, related}
use Rattle.blart_keys.specs.Content.{IsContent, at, stores, front_of, subtree, without, IsPut, IsOver}
use Rattle.blart_keys.specs.Steps.{bytes, Puts, Inserts}
use Rattle.blart_keys.specs.declared.calls.TryInsertError.{TryInsertError}
use Rattle.blart_keys.specs.declared.calls.TryInsertError.TheVariants.{Prefix, Memory}
use Rattle.blart_keys.specs.Stored.{CanCount, kept_pair, kept, pair_at, pair_at_front, overlaps, value_at, has, Updates, HasNothing, TakesPair, Overwrites, Refuses, written_at, written_at_front, WritesAt, WritesAtFront}
use Rattle.blart_keys.specs.Walks.{TakesFirst, TakesLast}
use Rattle.blart_keys.proofs.PartLemmas.{PartsBelow, PartsBelow-irrefl}
use Rattle.blart_keys.proofs.RankLemmas.{Member, Contains-from_Member, Member-from_Contains, Member-append_right, each_member, filter_member, find_none, member_filter, Ranked}
use Rattle.blart_keys.proofs.ContentLemmas.{Before, Ranked-from_content, same_content, same_item, at_Some, at_None, at_member, at_absent, front_of_Some, front_of_None, front_of_member, front_of_stored, stores_found, stores_member, conflict_found, related-same}
use Rattle.std.proofs.lemmas.List.{length-map}
use Rattle.std.proofs.lemmas.List.Sums.{length-filter, count_by-le-length}
use Rattle.blart_keys.proofs.Mapped.{find-map}
use Rattle.blart_keys.proofs.PutLemmas.{at_put, without_absent, without_content, without_cut}

-- a mapped option has a value if and only if the option has one
pub is_some-map : {X Y : Type 0} (f : X → Y) (o : Option X) → is_some (option_map f o) ≡ is_some o
is_some-map f None = refl
is_some-map f (Some x) = refl

-- the element at an index is a member
slice_get-member : {X : Type 0} (S : List X) (i : ℕ) (x : X) → slice_get S i ≡ Some x → Member x S
slice_get-member [] zero x e = absurd cc
slice_get-member [] (suc i) x e = absurd cc
slice_get-member (y ∷ S) zero x e = inl (let f : y ≡ x = cc in f)
slice_get-member (y ∷ S) (suc i) x e = inr (slice_get-member S i x e)

module _ {X : Type 0} (bytes : X → List ℕ) where
  -- an item is found at bytes if and only if they are stored
  pub some-at : (S : List X) (q : List ℕ) → is_some (at bytes S q) ≡ stores bytes S q
  some-at [] q = refl
  some-at (x ∷ S) q = elim (cases_Bool (bytes_eq (bytes x) q)) [
    | inl t ↦ subst (λ b. is_some (cond b (Some x) (at bytes S q)) ≡ (b || stores bytes S q)) (sym t) refl
    | inr f ↦ subst (λ b. is_some (cond b (Some x) (at bytes S q)) ≡ (b || stores bytes S q)) (sym f) (some-at S q)
  ]

  -- removed bytes are not stored
  pub at-without_same : (S : List X) (q : List ℕ) → at bytes (without bytes S q) q ≡ None
  at-without_same S q = find_none (λ x. bytes_eq (bytes x) q) (without bytes S q) (λ y m. not-true _ (filter_member (λ x. not (bytes_eq (bytes x) q)) S y m).1)

  -- and what is stored at other bytes is unchanged
  pub at-without_other : (S : List X) (q r : List ℕ) → r ≢ q → at bytes (without bytes S q) r ≡ at bytes S r
  at-without_other [] q r off = refl
  at-without_other (x ∷ S) q r off = elim (cases_Bool (bytes_eq (bytes x) q)) [
    | inl t ↦
        let f : bytes_eq (bytes x) r ≡ false = false_from_ne_true _ (λ u. off (sym ((bytes_decides (bytes x) r).0 u) ∙ (bytes_decides (bytes x) q).0 t)) in
        ap (λ b. at bytes (cond (not b) (x ∷ without bytes S q) (without bytes S q)) r) t ∙ at-without_other S q r off ∙ sym (ap (λ b. cond b (Some x) (at bytes S r)) f)
    | inr f ↦ ap (λ b. at bytes (cond (not b) (x ∷ without bytes S q) (without bytes S q)) r) f ∙ ap (λ o. cond (bytes_eq (bytes x) r) (Some x) o) (at-without_other S q r off)
  ]

  -- a content without some bytes has one item less, if they were stored
  pub length-without : (S : List X) (q : List ℕ) → IsContent bytes S → length (without bytes S q) + (if stores bytes S q then 1 else 0) ≡ length S
  length-without S q content = go S (Ranked-from_content bytes S content)
    where
      more : (b : Bool) (m n : ℕ) → m + (if b then 1 else 0) ≡ n → suc m + (if b then 1 else 0) ≡ suc n
      more true m n e = omega arith
      more false m n e = omega arith

      go : (S : List X) → Ranked (Before bytes) S → length (without bytes S q) + (if stores bytes S q then 1 else 0) ≡ length S
      go [] r = refl
      go (x ∷ S) r = elim (cases_Bool (bytes_eq (bytes x) q)) [
        | inl t ↦
            let gone : stores bytes S q ≡ false = false_from_ne_true _ (λ h.
            let m = stores_found bytes S q h in
            PartsBelow-irrefl q (subst₂ PartsBelow ((bytes_decides (bytes x) q).0 t) m.2 (each_member (Before bytes x) S m.0 r.0 m.1))) in
            let l : length (without bytes S q) ≡ length S = ap (λ (T : List X). length T) (without_absent bytes S q gone) in
            subst (λ b. length (cond (not b) (x ∷ without bytes S q) (without bytes S q)) + (if b || stores bytes S q then 1 else 0) ≡ length (x ∷ S)) (sym t) (omega arith)
        | inr f ↦
            let ih = go S r.1 in
            subst (λ b. length (cond (not b) (x ∷ without bytes S q) (without bytes S q)) + (if b || stores bytes S q then 1 else 0) ≡ length (x ∷ S)) (sym f) (more (stores bytes S q) (length (without bytes S q)) (length S) ih)
      ]

  -- a put adds one item, unless its bytes were stored
  pub length-put : (S S' : List X) (x : X) → IsContent bytes S → IsPut bytes S x S' → length S' ≡ length S + (if stores bytes S (bytes x) then 0 else 1)
  length-put S S' x content put =
      let a : length (without bytes S' (bytes x)) + (if stores bytes S' (bytes x) then 1 else 0) ≡ length S' = length-without S' (bytes x) put.content in
      let b : length (without bytes S (bytes x)) + (if stores bytes S (bytes x) then 1 else 0) ≡ length S = length-without S (bytes x) content in
      let same : length (without bytes S' (bytes x)) ≡ length (without bytes S (bytes x)) = ap (λ (T : List X). length T) others in
      let there : stores bytes S' (bytes x) ≡ true = stores_member bytes S' (bytes x) x (Member-from_Contains x S' put.there) refl in
      count (stores bytes S' (bytes x)) (stores bytes S (bytes x)) _ _ _ _ there a b same
    where
      count : (s t : Bool) (m' m n' n : ℕ) → s ≡ true → m' + (if s then 1 else 0) ≡ n' → m + (if t then 1 else 0) ≡ n → m' ≡ m → n' ≡ n + (if t then 0 else 1)
      count true true m' m n' n s a b e = omega arith
      count true false m' m n' n s a b e = omega arith
      count false t m' m n' n s a b e = absurd (false≢true s)

      half : (T U : List X) → ((y : X) → bytes y ≢ bytes x → Contains T y → Contains U y) → (y : X) → Contains (without bytes T (bytes x)) y → Contains (without bytes U (bytes x)) y
      half T U f y h =
          let m = filter_member (λ z. not (bytes_eq (bytes z) (bytes x))) T y (Member-from_Contains y (without bytes T (bytes x)) h) in
          let n : bytes y ≢ bytes x = (λ e. false≢true (sym (not-true _ m.1) ∙ (bytes_decides (bytes y) (bytes x)).1 e)) in
          Contains-from_Member y (without bytes U (bytes x)) (member_filter (λ z. not (bytes_eq (bytes z) (bytes x))) U y (Member-from_Contains y U (f y n (Contains-from_Member y T m.0))) m.1)

      others : without bytes S' (bytes x) ≡ without bytes S (bytes x)
      others = same_content bytes (without bytes S' (bytes x)) (without bytes S (bytes x)) (without_content bytes S' (bytes x) put.content) (without_content bytes S (bytes x) content) (λ y. (
        half S' S (λ y n. (put.others y n).0) y,
        half S S' (λ y n. (put.others y n).1) y,
      ))

module _ {K V : Type 0} (kb : K → List ℕ) where
  -- ---- look-ups

  -- `stores` and `has` agree
  pub stores_is : (S : List (K × V)) (q : List ℕ) → stores (bytes kb) S q ≡ has kb S q
  unfolding pair_at
  stores_is S q = sym (some-at (bytes kb) S q)

  -- a pair that is found at the bytes q has these bytes
  pub pair_at_bytes : (S : List (K × V)) (q : List ℕ) (x : K × V) → pair_at kb S q ≡ Some x → kb x.0 ≡ q
  unfolding pair_at
  pair_at_bytes S q x e = (at_Some (bytes kb) S q x e).1

  -- the bytes of the pair that is found for a query are a prefix of the query
  pub pair_at_front_begins : (S : List (K × V)) (q : List ℕ) (x : K × V) → pair_at_front kb S q ≡ Some x → begins (kb x.0) q ≡ true
  unfolding pair_at_front
  pair_at_front_begins S q x e = (front_of_Some (bytes kb) S q x e).1

  -- if the bytes q are stored, both look-ups find the same pair
  pub pair_at_front_at : (S : List (K × V)) → IsContent (bytes kb) S → (q : List ℕ) (x : K × V) → pair_at kb S q ≡ Some x → pair_at_front kb S q ≡ Some x
  unfolding pair_at pair_at_front
  pair_at_front_at S content q x e = front_of_stored (bytes kb) S content q x e

  -- each pair of a content is found at its bytes
  pub pair_at_member : (S : List (K × V)) → IsContent (bytes kb) S → (x : K × V) → Member x S → pair_at kb S (kb x.0) ≡ Some x
  unfolding pair_at
  pair_at_member S content x m = at_member (bytes kb) S content (kb x.0) x m refl

  -- so is the pair at an index
  pub stored_at : (S : List (K × V)) → IsContent (bytes kb) S → (i : ℕ) (x : K × V) → slice_get S i ≡ Some x → pair_at kb S (kb x.0) ≡ Some x
  stored_at S content i x e = pair_at_member S content x (slice_get-member S i x e)

  -- the empty list has nothing
  pub nothing_stored : (S : List (K × V)) → S ≡ [] → HasNothing kb S
  unfolding pair_at
  nothing_stored S e q = ap (λ (T : List (K × V)). at (bytes kb) T q) e

  -- ---- a pair put

  pub updates_put : (S S' : List (K × V)) (x : K × V) → IsContent (bytes kb) S → IsPut (bytes kb) S x S' → Updates kb S S' (kb x.0) (Some x)
  unfolding pair_at
  updates_put S S' x content put = (
    at_member (bytes kb) S' put.content (kb x.0) x (Member-from_Contains x S' put.there) refl,
    λ r off. at_put (bytes kb) S S' x r content put ∙ cond-false (bytes_eq (kb x.0) r) (Some x) (at (bytes kb) S r) (false_from_ne_true _ (λ t. off (sym ((bytes_decides (kb x.0) r).0 t)))),
  )

  pub len_put : (S S' : List (K × V)) (x : K × V) → IsContent (bytes kb) S → IsPut (bytes kb) S x S' → length S' ≡ length S + (if has kb S (kb x.0) then 0 else 1)
  len_put S S' x content put = length-put (bytes kb) S S' x content put ∙ ap (λ b. length S + (if b then 0 else 1)) (stores_is S (kb x.0))

  -- each query that begins with its bytes finds it
  pub before_put : (S S' : List (K × V)) (x : K × V) → IsPut (bytes kb) S x S' → (r : List ℕ) → begins (kb x.0) r ≡ true → pair_at_front kb S' r ≡ Some x
  unfolding pair_at_front
  before_put S S' x put r b = front_of_member (bytes kb) S' put.content r x (Member-from_Contains x S' put.there) b

  -- and each other query finds what it found before
  elsewhere_put : (S S' : List (K × V)) (x : K × V) → IsPut (bytes kb) S x S' → (r : List ℕ) → begins (kb x.0) r ≡ false → IsContent (bytes kb) S → pair_at_front kb S' r ≡ pair_at_front kb S r
  unfolding pair_at_front
  elsewhere_put S S' x put r off content = found (front_of (bytes kb) S r) refl
    where
      apart : (y : K × V) → begins (kb y.0) r ≡ true → kb y.0 ≢ kb x.0
      apart y b e = false≢true (sym off ∙ ap (λ k. begins k r) (sym e) ∙ b)

      found : (o : Option (K × V)) → front_of (bytes kb) S r ≡ o → front_of (bytes kb) S' r ≡ front_of (bytes kb) S r
      found (Some y) e =
          let f = front_of_Some (bytes kb) S r y e in
          front_of_member (bytes kb) S' put.content r y (Member-from_Contains y S' ((put.others y (apart y f.1)).1 (Contains-from_Member y S f.0))) f.1 ∙ sym e
      found None e =
          find_none (λ y. begins (kb y.0) r) S' (λ y m. false_from_ne_true _ (λ t. false≢true (sym (front_of_None (bytes kb) S r y e (Member-from_Contains y S ((put.others y (apart y t)).0 (Contains-from_Member y S' m)))) ∙ t))) ∙ sym e

  pub routes_put : (S S' : List (K × V)) (x : K × V) → IsContent (bytes kb) S → IsPut (bytes kb) S x S' → (r : List ℕ) → pair_at_front kb S' r ≡ (if begins (kb x.0) r then Some x else pair_at_front kb S r)
  routes_put S S' x content put r = by_case (cases_Bool (begins (kb x.0) r))
    where
      by_case : (begins (kb x.0) r ≡ true) ⊎ (begins (kb x.0) r ≡ false) → pair_at_front kb S' r ≡ (if begins (kb x.0) r then Some x else pair_at_front kb S r)
      by_case (inl b) = before_put S S' x put r b ∙ sym (cond-true (begins (kb x.0) r) (Some x) (pair_at_front kb S r) b)
      by_case (inr b) = elsewhere_put S S' x put r b content ∙ sym (cond-false (begins (kb x.0) r) (Some x) (pair_at_front kb S r) b)

  -- ---- a pair put over the related ones

  pub overwrites_over : (S S' : List (K × V)) (x : K × V) → IsContent (bytes kb) S → IsOver (bytes kb) S x S' → Overwrites kb S x S'
  unfolding pair_at
  overwrites_over S S' x content over = record {
    there = at_member (bytes kb) S' over.content (kb x.0) x own refl;
    gone = λ r rel off. at_absent (bytes kb) S' r (λ y m e. off (sym e ∙ ap (λ (p : K × V). kb p.0) (same_item (bytes kb) S' over.content y x m own (subst (λ b. related b (kb x.0) ≡ true) (sym e) rel))));
    others = λ r un. other r un (at (bytes kb) S r) refl;
  }
    where
      own : Member x S'
      own = Member-from_Contains x S' over.there

      other : (r : List ℕ) → related r (kb x.0) ≡ false → (o : Option (K × V)) → at (bytes kb) S r ≡ o → at (bytes kb) S' r ≡ at (bytes kb) S r
      other r un None e = at_absent (bytes kb) S' r (λ y m b. at_None (bytes kb) S r y e (Member-from_Contains y S ((over.others y (subst (λ q. related q (kb x.0) ≡ false) (sym b) un)).0 (Contains-from_Member y S' m))) b) ∙ sym e
      other r un (Some y) e =
          let f = at_Some (bytes kb) S r y e in
          at_member (bytes kb) S' over.content r y (Member-from_Contains y S' ((over.others y (subst (λ q. related q (kb x.0) ≡ false) (sym f.1) un)).1 (Contains-from_Member y S f.0))) f.1 ∙ sym e

  -- ---- a pair removed

  pub updates_without : (S : List (K × V)) (q : List ℕ) → Updates kb S (without (bytes kb) S q) q None
  unfolding pair_at
  updates_without S q = (at-without_same (bytes kb) S q, λ r off. at-without_other (bytes kb) S q r off)

  pub len_without : (S : List (K × V)) (q : List ℕ) → IsContent (bytes kb) S → length (without (bytes kb) S q) + (if has kb S q then 1 else 0) ≡ length S
  len_without S q content = ap (λ b. length (without (bytes kb) S q) + (if b then 1 else 0)) (sym (stores_is S q)) ∙ length-without (bytes kb) S q content

  -- a pair between others is removed
  takes_one : (A B S : List (K × V)) (p : K × V) → IsContent (bytes kb) S → S ≡ A ++ p ∷ B → TakesPair kb S p (A ++ B)
  takes_one A B S p content e =
      let cut : without (bytes kb) S (kb p.0) ≡ A ++ B = ap (λ (T : List (K × V)). without (bytes kb) T (kb p.0)) e ∙ without_cut (bytes kb) A B p (kb p.0) (subst (IsContent (bytes kb)) e content) refl in (
        pair_at_member S content p (subst (Member p) (sym e) (Member-append_right p A (p ∷ B) (inl refl))),
        subst (λ T. Updates kb S T (kb p.0) None) cut (updates_without S (kb p.0)),
      )

  pub takes_first : (S S' : List (K × V)) (p : K × V) → IsContent (bytes kb) S → TakesFirst S (Some p) S' → TakesPair kb S p S'
  takes_first S S' p content e = takes_one [] S' S p content e

  pub takes_last : (S S' : List (K × V)) (p : K × V) → IsContent (bytes kb) S → TakesLast S (Some p) S' → TakesPair kb S p S'
  takes_last S S' p content e = subst (TakesPair kb S p) (append-nil S') (takes_one S' [] S p content e)

  -- ---- a value written

  module _ (p : K → Bool) (v : V) where
    -- the pair, with the value v if its key passes the test
    abbrev changed : K × V → K × V
    changed x = if p x.0 then (x.0, v) else x

    changed_key : (x : K × V) → (changed x).0 ≡ x.0
    changed_key x = elim (cases_Bool (p x.0)) [
      | inl t ↦ ap (λ (y : K × V). y.0) (cond-true (p x.0) (x.0, v) x t)
      | inr f ↦ ap (λ (y : K × V). y.0) (cond-false (p x.0) (x.0, v) x f)
    ]

    -- which pair is found by its key does not depend on values
    find_changed : (test : K → Bool) (S : List (K × V)) → find (λ x. test x.0) (map changed S) ≡ option_map changed (find (λ x. test x.0) S)
    find_changed test S = find-map changed (λ x. test x.0) S ∙ (λ i. option_map changed (find (λ x. test (changed_key x i)) S))

    -- the found pair has the value v if it passes the test
    all_changed : (o : Option (K × V)) → ((x : K × V) → o ≡ Some x → p x.0 ≡ true) → option_map changed o ≡ option_map (λ x. (x.0, v)) o
    all_changed None h = refl
    all_changed (Some x) h = ap Some (cond-true (p x.0) (x.0, v) x (h x refl))

    -- and is unchanged if it does not
    none_changed : (o : Option (K × V)) → ((x : K × V) → o ≡ Some x → p x.0 ≡ false) → option_map changed o ≡ o
    none_changed None h = refl
    none_changed (Some x) h = ap Some (cond-false (p x.0) (x.0, v) x (h x refl))

    changed_length : (S : List (K × V)) → length (map changed S) ≡ length S
    changed_length S = simp length-map

  module _ (S : List (K × V)) (q : List ℕ) (v : V) where
    pub writes_at : WritesAt kb S q v (written_at kb S q v)
    unfolding pair_at
    writes_at = (
      (
        find_changed (λ k. bytes_eq (kb k) q) v (λ k. bytes_eq (kb k) q) S ∙ all_changed (λ k. bytes_eq (kb k) q) v (at (bytes kb) S q) (λ x e. (bytes_decides (kb x.0) q).1 (at_Some (bytes kb) S q x e).1),
        λ r off.
            find_changed (λ k. bytes_eq (kb k) q) v (λ k. bytes_eq (kb k) r) S
            ∙ none_changed (λ k. bytes_eq (kb k) q) v (at (bytes kb) S r) (λ x e. false_from_ne_true _ (λ t. off (sym (at_Some (bytes kb) S r x e).1 ∙ (bytes_decides (kb x.0) q).0 t))),
      ),
      changed_length (λ k. bytes_eq (kb k) q) v S,
    )

    pub writes_before : WritesAtFront kb S q v (written_at_front kb S q v)
    unfolding pair_at pair_at_front
    writes_before = record {
      front = find_changed (λ k. begins (kb k) q) v (λ k. begins (kb k) q) S ∙ all_changed (λ k. begins (kb k) q) v (front_of (bytes kb) S q) (λ x e. (front_of_Some (bytes kb) S q x e).1);
      there = λ r b.
          find_changed (λ k. begins (kb k) q) v (λ k. bytes_eq (kb k) r) S
          ∙ all_changed (λ k. begins (kb k) q) v (at (bytes kb) S r) (λ x e. subst (λ k. begins k q ≡ true) (sym (at_Some (bytes kb) S r x e).1) b);
      others = λ r f.
          find_changed (λ k. begins (kb k) q) v (λ k. bytes_eq (kb k) r) S
          ∙ none_changed (λ k. begins (kb k) q) v (at (bytes kb) S r) (λ x e. subst (λ k. begins k q ≡ false) (sym (at_Some (bytes kb) S r x e).1) f);
      len = changed_length (λ k. begins (kb k) q) v S;
    }

  -- ---- what an insertion stores

  -- the stored pair has the bytes of the inserted pair
  pub kept_bytes : (S : List (K × V)) (x : K × V) → kb (kept kb S x).0 ≡ kb x.0
  unfolding pair_at
  kept_bytes S x = of (at (bytes kb) S (kb x.0)) refl
    where
      of : (o : Option (K × V)) → at (bytes kb) S (kb x.0) ≡ o → kb (kept_pair o x).0 ≡ kb x.0
      of None e = refl
      of (Some y) e = (at_Some (bytes kb) S (kb x.0) y e).1

  -- a pair with new bytes is stored as it is
  pub kept_new : (S : List (K × V)) (x : K × V) → pair_at kb S (kb x.0) ≡ None → kept kb S x ≡ x
  kept_new S x none = ap (λ o. kept_pair o x) none

  -- ---- what an insertion returns

  -- what holds after a put of y, by the bytes of x, which are the same
  module _ (S S' : List (K × V)) (x y : K × V) (same : kb y.0 ≡ kb x.0) (put : IsPut (bytes kb) S y S') where
    updates_stored : IsContent (bytes kb) S → Updates kb S S' (kb x.0) (Some y)
    updates_stored content = subst (λ q. Updates kb S S' q (Some y)) same (updates_put S S' y content put)

    len_stored : IsContent (bytes kb) S → length S' ≡ length S + (if has kb S (kb x.0) then 0 else 1)
    len_stored content = subst (λ q. length S' ≡ length S + (if has kb S q then 0 else 1)) same (len_put S S' y content put)

    fronts_stored : (q : List ℕ) → begins (kb x.0) q ≡ true → pair_at_front kb S' q ≡ Some y
    fronts_stored q b = before_put S S' y put q (subst (λ k. begins k q ≡ true) (sym same) b)

    routes_stored : IsContent (bytes kb) S → (q : List ℕ) → pair_at_front kb S' q ≡ (if begins (kb x.0) q then Some y else pair_at_front kb S q)
    routes_stored content q = subst (λ k. pair_at_front kb S' q ≡ (if begins k q then Some y else pair_at_front kb S q)) same (routes_put S S' y content put q)

  module _ {R : Type 0} (tell : Option (K × V) → R) (S : List (K × V)) (x y : K × V) (same : kb y.0 ≡ kb x.0) (S' : List (K × V)) where
    pub puts_old : (r : Result R TryInsertError) → Puts kb tell S x y r S' → IfOk r (λ a. a ≡ tell (pair_at kb S (kb x.0)))
    unfolding pair_at
    puts_old (Ok a) puts = puts.2
    puts_old (Err e) puts = tt

    pub puts_updates : (r : Result R TryInsertError) → IsContent (bytes kb) S → Puts kb tell S x y r S' → OnOk r (Updates kb S S' (kb x.0) (Some y))
    puts_updates (Ok a) content puts = updates_stored S S' x y same puts.1 content
    puts_updates (Err e) content puts = tt

    pub puts_fronts : (r : Result R TryInsertError) → Puts kb tell S x y r S' → OnOk r ((q : List ℕ) → begins (kb x.0) q ≡ true → pair_at_front kb S' q ≡ Some y)
    puts_fronts (Ok a) puts = fronts_stored S S' x y same puts.1
    puts_fronts (Err e) puts = tt

    pub puts_routes : (r : Result R TryInsertError) → IsContent (bytes kb) S → Puts kb tell S x y r S' → OnOk r ((q : List ℕ) → pair_at_front kb S' q ≡ (if begins (kb x.0) q then Some y else pair_at_front kb S q))
    puts_routes (Ok a) content puts = routes_stored S S' x y same puts.1 content
    puts_routes (Err e) content puts = tt

    pub puts_free : (r : Result R TryInsertError) → Puts kb tell S x y r S' → OnOk r (overlaps kb S (kb x.0) ≡ false)
    unfolding overlaps
    puts_free (Ok a) puts = puts.0
    puts_free (Err e) puts = tt

    pub puts_why : (r : Result R TryInsertError) → Puts kb tell S x y r S' → IfErr r (Refuses kb S (kb x.0))
    unfolding overlaps
    puts_why (Ok a) puts = tt
    puts_why (Err (Prefix e)) puts = puts.0
    puts_why (Err (Memory e)) puts = (puts.0, sym (stores_is S (kb x.0)) ∙ puts.1)

  pub puts_len : (S : List (K × V)) (x y : K × V) (same : kb y.0 ≡ kb x.0) (S' : List (K × V)) (r : Result (Option (K × V)) TryInsertError) → IsContent (bytes kb) S → Puts kb (λ pair. pair) S x y r S' → IfOk r (λ old. length S' ≡ length S + (if is_some old then 0 else 1))
  unfolding pair_at
  puts_len S x y same S' (Ok a) content puts = len_stored S S' x y same puts.1 content ∙ ap (λ o. length S + (if is_some o then 0 else 1)) (sym puts.2)
  puts_len S x y same S' (Err e) content puts = tt

  -- the same, if the old value is returned
  len_of_value : (S S' : List (K × V)) (x y : K × V) (same : kb y.0 ≡ kb x.0) (old : Option V) → IsContent (bytes kb) S → IsPut (bytes kb) S y S' → old ≡ value_at kb S (kb x.0) → length S' ≡ length S + (if is_some old then 0 else 1)
  len_of_value S S' x y same old content put e = len_stored S S' x y same put content ∙ ap (λ b. length S + (if b then 0 else 1)) (sym (is_some-map (λ (p : K × V). p.1) (pair_at kb S (kb x.0))) ∙ ap (λ o. is_some o) (sym e))

  pub puts_value_len : (S : List (K × V)) (x y : K × V) (same : kb y.0 ≡ kb x.0) (S' : List (K × V)) (r : Result (Option V) TryInsertError) → IsContent (bytes kb) S → Puts kb (option_map (λ pair. pair.1)) S x y r S' → IfOk r (λ old. length S' ≡ length S + (if is_some old then 0 else 1))
  puts_value_len S x y same S' (Ok a) content puts = len_of_value S S' x y same a content puts.1 (puts_old (option_map (λ pair. pair.1)) S x y same S' (Ok a) puts)
  puts_value_len S x y same S' (Err e) content puts = tt

  module _ {E : Type 0} (S : List (K × V)) (x y : K × V) (same : kb y.0 ≡ kb x.0) (S' : List (K × V)) where
    pub inserts_old : (r : Result (Option V) E) → Inserts kb S x y r S' → IfOk r (λ old. old ≡ value_at kb S (kb x.0))
    unfolding pair_at
    inserts_old (Ok old) put = put.1
    inserts_old (Err e) put = tt

    pub inserts_updates : (r : Result (Option V) E) → IsContent (bytes kb) S → Inserts kb S x y r S' → OnOk r (Updates kb S S' (kb x.0) (Some y))
    inserts_updates (Ok old) content put = updates_stored S S' x y same put.0 content
    inserts_updates (Err e) content put = tt

    pub inserts_len : (r : Result (Option V) E) → IsContent (bytes kb) S → Inserts kb S x y r S' → IfOk r (λ old. length S' ≡ length S + (if is_some old then 0 else 1))
    inserts_len (Ok old) content put = len_of_value S S' x y same old content put.0 (inserts_old (Ok old) put)
    inserts_len (Err e) content put = tt

    pub inserts_fronts : (r : Result (Option V) E) → Inserts kb S x y r S' → OnOk r ((q : List ℕ) → begins (kb x.0) q ≡ true → pair_at_front kb S' q ≡ Some y)
    inserts_fronts (Ok old) put = fronts_stored S S' x y same put.0
    inserts_fronts (Err e) put = tt

    pub inserts_routes : (r : Result (Option V) E) → IsContent (bytes kb) S → Inserts kb S x y r S' → OnOk r ((q : List ℕ) → pair_at_front kb S' q ≡ (if begins (kb x.0) q then Some y else pair_at_front kb S q))
    inserts_routes (Ok old) content put = routes_stored S S' x y same put.0 content
    inserts_routes (Err e) content put = tt

    pub inserts_absent : (r : Result (Option V) E) → Inserts kb S x y r S' → OnErr r (has kb S (kb x.0) ≡ false)
    inserts_absent (Ok old) put = tt
    inserts_absent (Err e) put = sym (stores_is S (kb x.0)) ∙ put.0

  -- a pair that is put over the related ones is found by each query that begins with its bytes
  pub before_over : (S S' : List (K × V)) (x : K × V) → IsOver (bytes kb) S x S' → (r : List ℕ) → begins (kb x.0) r ≡ true → pair_at_front kb S' r ≡ Some x
  unfolding pair_at_front
  before_over S S' x over r b = front_of_member (bytes kb) S' over.content r x (Member-from_Contains x S' over.there) b

  -- if no pair is related to q, none overlaps it
  pub alone_free : (S : List (K × V)) (q : List ℕ) → subtree (bytes kb) S q ≡ [] → overlaps kb S q ≡ false
  unfolding overlaps
  alone_free S q none = false_from_ne_true _ (λ h.
      let r = conflict_found (bytes kb) S q h in
      subst (Member r.0) none (member_filter (λ x. related (kb x.0) q) S r.0 r.1 r.2))

  -- and the bytes q are not stored
  pub alone_absent : (S : List (K × V)) (q : List ℕ) → subtree (bytes kb) S q ≡ [] → has kb S q ≡ false
  alone_absent S q none = false_from_ne_true _ (λ h.
      let r = stores_found (bytes kb) S q (stores_is S q ∙ h) in
      subst (Member r.0) none (member_filter (λ x. related (kb x.0) q) S r.0 r.1 (related-same (kb r.0.0) q r.2)))

  module _ (S : List (K × V)) (q : List ℕ) (v : V) (S' : List (K × V)) where
    -- a value is written: as a list, and as its users see it
    pub written_writes : S' ≡ written_at kb S q v → (S' ≡ written_at kb S q v) × WritesAt kb S q v S'
    written_writes e = (e, subst (WritesAt kb S q v) (sym e) (writes_at S q v))

    pub written_front_writes : S' ≡ written_at_front kb S q v → (S' ≡ written_at_front kb S q v) × WritesAtFront kb S q v S'
    written_front_writes e = (e, subst (WritesAtFront kb S q v) (sym e) (writes_before S q v))

  -- nothing is written if no key passes the test
  unwritten : (p : K → Bool) (v : V) (S : List (K × V)) → find (λ x. p x.0) S ≡ None → map (changed p v) S ≡ S
  unwritten p v [] e = refl
  unwritten p v (x ∷ S) e = elim (cases_Bool (p x.0)) [
    | inl t ↦ absurd (let f : Some x ≡ None = sym (cond-true (p x.0) (Some x) (find (λ x. p x.0) S) t) ∙ e in cc)
    | inr f ↦ λ i. cond-false (p x.0) (x.0, v) x f i ∷ unwritten p v S (sym (cond-false (p x.0) (Some x) (find (λ x. p x.0) S) f) ∙ e) i
  ]

  module _ (S : List (K × V)) (q : List ℕ) (v : V) where
    pub written_at-none : at (bytes kb) S q ≡ None → S ≡ written_at kb S q v
    written_at-none e = sym (unwritten (λ k. bytes_eq (kb k) q) v S e)

    pub written_at_front-none : front_of (bytes kb) S q ≡ None → S ≡ written_at_front kb S q v
    written_at_front-none e = sym (unwritten (λ k. begins (kb k) q) v S e)

-- if the items of a list can be counted, so can those of a filter of it
pub can_count_filter : {X : Type 0} (p : X → Bool) (S : List X) → CanCount S → CanCount (filter p S)
can_count_filter p S h = omega (arith, length-filter p S, count_by-le-length p S)

-- if the bytes q are stored, both look-ups find the same pair
pub before_agrees : {K V : Type 0} (kb : K → List ℕ) (S : List (K × V)) (q : List ℕ) → IsContent (bytes kb) S → has kb S q ≡ true → pair_at_front kb S q ≡ pair_at kb S q
before_agrees {K} {V} kb S q content there = by (pair_at kb S q) refl
  where
    by : (o : Option (K × V)) → pair_at kb S q ≡ o → pair_at_front kb S q ≡ pair_at kb S q
    by None e = absurd (false≢true (ap (λ o. is_some o) (sym e) ∙ there))
    by (Some x) e = pair_at_front_at kb S content q x e ∙ sym e

-- ---- what a query finds after a pair is removed

module _ {K V : Type 0} (kb : K → List ℕ) (S : List (K × V)) (content : IsContent (bytes kb) S) (q r : List ℕ) where
  -- a pair that is left was there before, and has other bytes
  left : (y : K × V) → Member y (without (bytes kb) S q) → Member y S × (kb y.0 ≢ q)
  left y m =
      let f = filter_member (λ (x : K × V). not (bytes_eq (kb x.0) q)) S y m in
      (f.0, λ e. false≢true (sym (ap not ((bytes_decides (kb y.0) q).1 e)) ∙ f.1))

  -- if no key that is a prefix of r is removed, r finds what it found before
  stays : ((y : K × V) → Member y S → begins (kb y.0) r ≡ true → kb y.0 ≢ q) → pair_at_front kb (without (bytes kb) S q) r ≡ pair_at_front kb S r
  unfolding pair_at_front
  stays apart = found (front_of (bytes kb) S r) refl
    where
      kept : (y : K × V) → Member y S → kb y.0 ≢ q → Member y (without (bytes kb) S q)
      kept y m off = member_filter (λ (x : K × V). not (bytes_eq (kb x.0) q)) S y m (ap not (false_from_ne_true _ (λ t. off ((bytes_decides (kb y.0) q).0 t))))

      found : (o : Option (K × V)) → front_of (bytes kb) S r ≡ o → front_of (bytes kb) (without (bytes kb) S q) r ≡ front_of (bytes kb) S r
      found (Some y) e =
          let f = front_of_Some (bytes kb) S r y e in
          front_of_member (bytes kb) (without (bytes kb) S q) (without_content (bytes kb) S q content) r y (kept y f.0 (apart y f.0 f.1)) f.1 ∙ sym e
      found None e = find_none (λ (y : K × V). begins (kb y.0) r) (without (bytes kb) S q) (λ y m. front_of_None (bytes kb) S r y e (left y m).0) ∙ sym e

  -- and if such a key is removed, r finds nothing
  goes : (z : K × V) → pair_at kb S q ≡ Some z → begins q r ≡ true → pair_at_front kb (without (bytes kb) S q) r ≡ None
  unfolding pair_at pair_at_front
  goes z e b = find_none (λ (y : K × V). begins (kb y.0) r) (without (bytes kb) S q) (λ y m. false_from_ne_true _ (λ t. (
      let l = left y m in
      let s = at_Some (bytes kb) S q z e in
      let one : front_of (bytes kb) S r ≡ Some y = front_of_member (bytes kb) S content r y l.0 t in
      let other : front_of (bytes kb) S r ≡ Some z = front_of_member (bytes kb) S content r z s.0 (ap (λ k. begins k r) s.1 ∙ b) in
      let same : y ≡ z = cc in
      l.1 (ap (λ (p : K × V). kb p.0) same ∙ s.1))))

  pub routes_without : pair_at_front kb (without (bytes kb) S q) r ≡ (if begins q r && has kb S q then None else pair_at_front kb S r)
  unfolding pair_at
  routes_without = by (cases_Bool (begins q r))
    where
      there : (o : Option (K × V)) → pair_at kb S q ≡ o → begins q r ≡ true → pair_at_front kb (without (bytes kb) S q) r ≡ (if begins q r && has kb S q then None else pair_at_front kb S r)
      there None e b = rw (b, e) (stays (λ y m t. at_None (bytes kb) S q y e m))
      there (Some z) e b = rw (b, e) (goes z e b)

      by : (begins q r ≡ true) ⊎ (begins q r ≡ false) → pair_at_front kb (without (bytes kb) S q) r ≡ (if begins q r && has kb S q then None else pair_at_front kb S r)
      by (inl b) = there (pair_at kb S q) refl b
      by (inr b) = rw b (stays (λ y m t e. false≢true (sym b ∙ ap (λ k. begins k r) (sym e) ∙ t)))
