-- If items with the same bytes keep their order, items put in another order have the same result.
use Rattle.std.proofs.Common.{◌≡◌, ◌≢◌, ℕ, Bool, true, false, not, ◌&&◌, inl, inr, List, [], ◌∷◌, refl, sym, ap, ◌∙◌, subst, Option, Some, None, filter, bytes_eq, if◌then◌else◌}
use Rattle.std.proofs.lemmas.Bool.{false≢true, cases_Bool, cond-true, cond-false}
use Rattle.std.proofs.lemmas.List.Elements.{filter_agree}
use Rattle.std.specs.Prelude.{IfSome, Contains}
use Rattle.std.specs.Cmp.Lexicographic.{bytes_decides}
use Rattle.std.specs.List.Sorted.{IsStableBy, ties}
use Rattle.blart_keys.specs.Bytes.{related, less}
use Rattle.blart_keys.specs.Bulk.{PutsAll}
use Rattle.blart_keys.specs.Steps.{bytes as bytes_of}
use Rattle.blart_keys.specs.Stored.{kept_pair}
use Rattle.blart_keys.specs.Content.{IsContent, at, conflict, IsPut}
use Rattle.blart_keys.proofs.RankLemmas.{Member, Contains-from_Member, Member-from_Contains, filter_member}
use Rattle.blart_keys.proofs.PartLemmas.{less-irrefl, less_or}
use Rattle.blart_keys.proofs.ContentLemmas.{same_content, same_item, at_Some, at_member, conflict_found}
use Rattle.blart_keys.proofs.PutLemmas.{put_exists, at_put}

module _ {X : Type 0} (bytes : X → List ℕ) (keep : Option X → X → X) where
  -- what is stored at the bytes q once the items are put, if o was stored there before
  abbrev pub stored_after : List ℕ → Option X → List X → Option X
  stored_after q o [] = o
  stored_after q o (x ∷ xs) = stored_after q (if bytes_eq (bytes x) q then Some (keep o x) else o) xs

  -- `keep o x` has the bytes of x if o is None, or its item has these bytes
  abbrev pub KeepsBytes : Type 0
  KeepsBytes = (o : Option X) (x : X) → IfSome o (λ y. bytes y ≡ bytes x) → bytes (keep o x) ≡ bytes x

  -- items with other bytes do not change what is stored at q
  stored-filter : (q : List ℕ) (o : Option X) (xs : List X) → stored_after q o xs ≡ stored_after q o (filter (λ x. bytes_eq (bytes x) q) xs)
  stored-filter q o [] = refl
  stored-filter q o (x ∷ xs) = elim (cases_Bool (bytes_eq (bytes x) q)) [
    | inl t ↦ (
        let same : (if bytes_eq (bytes x) q then Some (keep o x) else o) ≡ Some (keep o x) = cond-true (bytes_eq (bytes x) q) (Some (keep o x)) o t in
        let rest = filter (λ (y : X). bytes_eq (bytes y) q) xs in
        ap (λ p. stored_after q p xs) same ∙ stored-filter q (Some (keep o x)) xs ∙ sym (ap (λ p. stored_after q p rest) same) ∙ sym (ap (stored_after q o) (cond-true (bytes_eq (bytes x) q) (x ∷ rest) rest t))
        )
    | inr f ↦ simp f (stored-filter q o xs)
  ]

  -- if an item was stored, an item is stored in the end
  stored_some : (q : List ℕ) (y : X) (xs : List X) → (z : X) × (stored_after q (Some y) xs ≡ Some z)
  stored_some q y [] = (y, refl)
  stored_some q y (x ∷ xs) = elim (cases_Bool (bytes_eq (bytes x) q)) [
    | inl t ↦ simp t (stored_some q (keep (Some y) x) xs)
    | inr f ↦ simp f (stored_some q y xs)
  ]

  -- an item that is found at the bytes q has these bytes
  found_bytes : (S : List X) (q : List ℕ) (o : Option X) → at bytes S q ≡ o → IfSome o (λ y. bytes y ≡ q)
  found_bytes S q None e = tt
  found_bytes S q (Some y) e = (at_Some bytes S q y e).1

  -- what is stored at the bytes q once one item is put
  at_one : KeepsBytes → (S T : List X) (x : X) (q : List ℕ) → IsContent bytes S → IsPut bytes S (keep (at bytes S (bytes x)) x) T → at bytes T q ≡ (if bytes_eq (bytes x) q then Some (keep (at bytes S q) x) else at bytes S q)
  at_one k S T x q c p =
      let y = keep (at bytes S (bytes x)) x in
      let same : bytes y ≡ bytes x = k (at bytes S (bytes x)) x (found_bytes S (bytes x) (at bytes S (bytes x)) refl) in
      at_put bytes S T y q c p ∙ ap (λ b. if bytes_eq b q then Some y else at bytes S q) same ∙ elim (cases_Bool (bytes_eq (bytes x) q)) [
        | inl t ↦ cond-true (bytes_eq (bytes x) q) (Some y) (at bytes S q) t ∙ ap (λ r. Some (keep (at bytes S r) x)) ((bytes_decides (bytes x) q).0 t) ∙ sym (cond-true (bytes_eq (bytes x) q) (Some (keep (at bytes S q) x)) (at bytes S q) t)
        | inr f ↦ cond-false (bytes_eq (bytes x) q) (Some y) (at bytes S q) f ∙ sym (cond-false (bytes_eq (bytes x) q) (Some (keep (at bytes S q) x)) (at bytes S q) f)
      ]

  -- if items are put into a content, the result is a content
  puts_content : (S xs U : List X) → IsContent bytes S → PutsAll bytes keep S xs U → IsContent bytes U
  puts_content S [] U c h = subst (IsContent bytes) (sym h) c
  puts_content S (x ∷ xs) U c h = puts_content h.0 xs U h.1.content h.2

  -- the result has at each byte list what `stored_after` says
  at_puts : KeepsBytes → (S xs U : List X) → IsContent bytes S → PutsAll bytes keep S xs U → (q : List ℕ) → at bytes U q ≡ stored_after q (at bytes S q) xs
  at_puts k S [] U c h q = ap (λ R. at bytes R q) h
  at_puts k S (x ∷ xs) U c h q = at_puts k h.0 xs U h.1.content h.2 q ∙ ap (λ o. stored_after q o xs) (at_one k S h.0 x q c h.1)

  -- two contents with the same items at all byte lists are equal
  same_from_at : (S U : List X) → IsContent bytes S → IsContent bytes U → ((q : List ℕ) → at bytes U q ≡ at bytes S q) → U ≡ S
  same_from_at S U c d e = same_content bytes U S d c (λ x. (within U S d e x, within S U c (λ q. sym (e q)) x))
    where
      within : (A B : List X) → IsContent bytes A → ((q : List ℕ) → at bytes A q ≡ at bytes B q) → (x : X) → Contains A x → Contains B x
      within A B a f x h = Contains-from_Member x B (at_Some bytes B (bytes x) x (sym (f (bytes x)) ∙ at_member bytes A a (bytes x) x (Member-from_Contains x A h) refl)).0

  -- the bytes of an item that is put conflict with nothing that was stored before
  free_before : (S U : List X) (x : X) (xs : List X) → IsContent bytes S → IsContent bytes U → ((q : List ℕ) → at bytes U q ≡ stored_after q (at bytes S q) (x ∷ xs)) → conflict bytes S (bytes x) ≡ false
  free_before S U x xs c d e = elim (cases_Bool (conflict bytes S (bytes x))) [
    | inl t ↦ absurd (clash (conflict_found bytes S (bytes x) t))
    | inr f ↦ f
  ]
    where
      stands : (y : X) → Member y S → (z : X) × (at bytes U (bytes y) ≡ Some z)
      stands y m = let s = stored_some (bytes y) y (x ∷ xs) in (s.0, e (bytes y) ∙ ap (λ o. stored_after (bytes y) o (x ∷ xs)) (at_member bytes S c (bytes y) y m refl) ∙ s.1)

      comes : (z : X) × (at bytes U (bytes x) ≡ Some z)
      comes =
          let s = stored_some (bytes x) (keep (at bytes S (bytes x)) x) xs in
          (s.0, e (bytes x) ∙ ap (λ o. stored_after (bytes x) o xs) (cond-true (bytes_eq (bytes x) (bytes x)) (Some (keep (at bytes S (bytes x)) x)) (at bytes S (bytes x)) ((bytes_decides (bytes x) (bytes x)).1 refl)) ∙ s.1)

      clash : (y : X) × Member y S × (related (bytes y) (bytes x) ≡ true) × (bytes y ≢ bytes x) → ⊥
      clash h =
          let u = stands h.0 h.1 in
          let v = comes in
          let at_u = at_Some bytes U (bytes h.0) u.0 u.1 in
          let at_v = at_Some bytes U (bytes x) v.0 v.1 in
          let near : related (bytes u.0) (bytes v.0) ≡ true = rw (at_u.1, at_v.1) h.2 in
          h.3 (sym at_u.1 ∙ ap bytes (same_item bytes U d u.0 v.0 at_u.0 at_v.0 near) ∙ at_v.1)

  -- a content that has at each byte list what `stored_after` says is the result of the puts
  puts_from_at : KeepsBytes → (S xs U : List X) → IsContent bytes S → IsContent bytes U → ((q : List ℕ) → at bytes U q ≡ stored_after q (at bytes S q) xs) → PutsAll bytes keep S xs U
  puts_from_at k S [] U c d e = same_from_at S U c d e
  puts_from_at k S (x ∷ xs) U c d e =
      let y = keep (at bytes S (bytes x)) x in
      let same : bytes y ≡ bytes x = k (at bytes S (bytes x)) x (found_bytes S (bytes x) (at bytes S (bytes x)) refl) in
      let put = put_exists bytes S y c (ap (conflict bytes S) same ∙ free_before S U x xs c d e) in
      (put.0, put.1, puts_from_at k put.0 xs U put.1.content d (λ q. e q ∙ ap (λ o. stored_after q o xs) (sym (at_one k S put.0 x q c put.1))))

  -- lists in which the items with the same bytes have the same order lead to the same result
  pub puts_reordered : KeepsBytes → (S xs ys U : List X) → IsContent bytes S → ((q : List ℕ) → filter (λ x. bytes_eq (bytes x) q) ys ≡ filter (λ x. bytes_eq (bytes x) q) xs) → PutsAll bytes keep S ys U → PutsAll bytes keep S xs U
  puts_reordered k S xs ys U c same h =
      puts_from_at k S xs U c (puts_content S ys U c h) (λ q. at_puts k S ys U c h q ∙ stored-filter q (at bytes S q) ys ∙ ap (stored_after q (at bytes S q)) (same q) ∙ sym (stored-filter q (at bytes S q) xs))

module _ {X : Type 0} (bytes : X → List ℕ) where
  -- the bytes of x are less than those of y
  abbrev pub below : X → X → Bool
  below x y = less (bytes x) (bytes y)

  -- two items tie if and only if their bytes are equal
  tied : (x y : X) → ties below x y ≡ bytes_eq (bytes y) (bytes x)
  tied x y = elim (less_or (bytes x) (bytes y)) [
    | inl e ↦ simp (ap (λ b. less b (bytes y)) e ∙ less-irrefl (bytes y), ap (less (bytes y)) e ∙ less-irrefl (bytes y)) (sym ((bytes_decides (bytes y) (bytes x)).1 (sym e)))
    | inr (inl l) ↦ simp l (sym (apart (λ e. false≢true (sym (less-irrefl (bytes x)) ∙ ap (less (bytes x)) (sym e) ∙ l))))
    | inr (inr l) ↦ sym (apart (λ e. false≢true (sym (less-irrefl (bytes y)) ∙ ap (less (bytes y)) e ∙ l)) ∙ sym (neither (less (bytes x) (bytes y)) (less (bytes y) (bytes x)) l))
  ]
    where
      apart : bytes y ≢ bytes x → bytes_eq (bytes y) (bytes x) ≡ false
      apart ne = elim (cases_Bool (bytes_eq (bytes y) (bytes x))) [ inl t ↦ absurd (ne ((bytes_decides (bytes y) (bytes x)).0 t)) | inr f ↦ f ]

      neither : (a b : Bool) → b ≡ true → not a && not b ≡ false
      neither true b h = refl
      neither false b h = ap not h

  -- a stable sort by bytes keeps the order of the items with the same bytes
  pub same_from_stable : (xs ys : List X) → IsStableBy below xs ys → (q : List ℕ) → filter (λ x. bytes_eq (bytes x) q) ys ≡ filter (λ x. bytes_eq (bytes x) q) xs
  same_from_stable xs ys h q = go (filter has ys) (filter has xs) refl refl
    where
      has : X → Bool
      has x = bytes_eq (bytes x) q

      like : (x : X) → has x ≡ true → filter has ys ≡ filter has xs
      like x t =
          let alike : (y : X) → ties below x y ≡ has y = (λ y. tied x y ∙ ap (bytes_eq (bytes y)) ((bytes_decides (bytes x) q).0 t)) in
          sym (filter_agree (ties below x) has alike ys) ∙ h x ∙ filter_agree (ties below x) has alike xs

      go : (us vs : List X) → filter has ys ≡ us → filter has xs ≡ vs → filter has ys ≡ filter has xs
      go [] [] e f = e ∙ sym f
      go (u ∷ us) vs e f = like u (filter_member has ys u (subst (Member u) (sym e) (inl refl))).1
      go [] (v ∷ vs) e f = like v (filter_member has xs v (subst (Member v) (sym f) (inl refl))).1

-- `kept_pair` has the bytes of the pair that is put
pub kept_pair-bytes : {K V : Type 0} (kb : K → List ℕ) → KeepsBytes (bytes_of kb) (kept_pair {K = K} {V = V})
kept_pair-bytes kb None x h = refl
kept_pair-bytes kb (Some old) x h = h
