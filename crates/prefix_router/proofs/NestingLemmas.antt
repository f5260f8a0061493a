-- The longest prefix of a path, the walks over its prefixes and over what begins with some bytes,
-- and where paths lead after a change.
use Rattle.std.proofs.Common.{◌≡◌, ◌≢◌, ℕ, suc, ◌+◌, ◌-◌, ◌<◌, ◌≤◌, ◌⊎◌, inl, inr, Bool, true, false, not, ltb, leb, ◌&&◌, List, [], ◌∷◌, length, refl, sym, ap, ◌∙◌, subst, arith, slice_get, Option, Some, None, option_map, bytes_eq, filter, if◌then◌else◌}
use Rattle.std.proofs.Math.Bool.{and-false}
use Rattle.std.proofs.lemmas.Bool.{false≢true, cases_Bool, cases_lt, cond-true, cond-false, and_parts, and_from, or_cases, lt-ltb, ltb-true, ltb-false, le-leb, leb-true, false_from_ne_true}
use Rattle.std.specs.declared.ops.Bound.{Bound}
use Rattle.std.specs.Cmp.Lexicographic.{bytes_decides}
use Rattle.blart_keys.specs.Bounds.{is_from_start}
use Rattle.blart_keys.specs.Bytes.{begins, less}
use Rattle.blart_keys.specs.KeyLaws.{begins_length}
use Rattle.blart_keys.specs.Stored.{pair_at, Updates}
use Rattle.blart_keys.proofs.ByteLemmas.{begins-itself, begins-trans, fronts_related}
use Rattle.blart_keys.proofs.PartLemmas.{less-irrefl, less-trans, less_or}
use Rattle.blart_keys.proofs.PartsOfContents.{start_up}
use Rattle.blart_keys.proofs.RankLemmas.{Member, Ranked, Ranked-filter, each_member, from_each_member, filter_member, member_filter, filter_none, same_list}
use Rattle.prefix_router.specs.Best.{IsBest, is_longer, is_shorter}
use Rattle.prefix_router.specs.Nesting.{fronts_of, longest_front, lead, longer, leads_by, IsLongestFront}
use Rattle.prefix_router.proofs.AscendingLemmas.{Less, one_way, same_length_fronts, shorter_front_less, same_pair, found_member, member_found, absent_found}

-- of two prefixes of a list, the one that is not longer is a prefix of the other
front_of_front : (a b q : List ℕ) → begins a q ≡ true → begins b q ≡ true → length a ≤ length b → begins a b ≡ true
front_of_front a b q h k l = elim (or_cases (begins a b) (begins b a) (fronts_related a b q h k)) [
  | inl m ↦ m
  | inr m ↦
      let n : length b ≤ length a = begins_length b a m in
      let e : a ≡ b = same_length_fronts a b q h k (omega arith) in
      ap (begins a) (sym e) ∙ begins-itself a
]

-- lists of different lengths differ
differ : (a b : List ℕ) → length a < length b → a ≢ b
differ a b l e = let s : length a ≡ length b = ap (λ (c : List ℕ). length c) e in absurd (omega arith)

-- what begins with f is not before f
not_before : (f b : List ℕ) → begins f b ≡ true → less b f ≡ false
not_before f b h = false_from_ne_true _ (λ l. elim (cases_lt (length f) (length b)) [
  | inl k ↦ false≢true (sym (less-irrefl f) ∙ less-trans f b f (shorter_front_less f b b h (begins-itself b) k) l)
  | inr m ↦ (
      let n : length f ≤ length b = begins_length f b h in
      let e : f ≡ b = same_length_fronts f b b h (begins-itself b) (omega arith) in
      false≢true (sym (less-irrefl f) ∙ ap (λ c. less c f) e ∙ l))
])

-- so all that begins with f comes from f on
pub from_front : (f b : List ℕ) → (not (less b f) && begins f b) ≡ begins f b
from_front f b = elim (cases_Bool (begins f b)) [
  | inl t ↦ rw (t, not_before f b t) refl
  | inr n ↦ rw n (and-false (not (less b f)))
]

module _ {K V : Type 0} (kb : K → List ℕ) where
  -- ---- the longest prefix

  -- the last of some ranked pairs, if there are any
  last_ranked : (F : List (K × V)) → Ranked (Less kb) F → (F ≡ []) ⊎ ((x : K × V) × (slice_get F (length F - 1) ≡ Some x) × Member x F × ((y : K × V) → Member y F → (y ≡ x) ⊎ Less kb y x))
  last_ranked [] r = inl refl
  last_ranked (x ∷ []) r = inr (x, refl, inl refl, λ y m. elim m [ inl e ↦ inl (sym e) | inr n ↦ absurd n ])
  last_ranked (x ∷ y ∷ F) r = elim (last_ranked (y ∷ F) r.1) [
    | inl e ↦ absurd (let n : suc (length F) ≡ 0 = ap (λ (T : List (K × V)). length T) e in omega arith)
    | inr p ↦ inr (
      p.0,
      ap (slice_get (x ∷ y ∷ F)) (next (length F)) ∙ p.1,
      inr p.2,
      λ z m. elim m [
        | inl e ↦ inr (subst (λ w. Less kb w p.0) e (each_member (Less kb x) (y ∷ F) p.0 r.0 p.2))
        | inr n ↦ p.3 z n
      ],
    )
  ]
    where
      next : (n : ℕ) → suc (suc n) - 1 ≡ suc (suc n - 1)
      next n = omega arith

  -- `longest_front` returns the longest prefix
  pub longest_is : (S : List (K × V)) → Ranked (Less kb) S → (q : List ℕ) → IsLongestFront kb S q (longest_front kb S q)
  unfolding longest_front
  longest_is S ranked q = elim (last_ranked (fronts_of kb S q) (Ranked-filter (Less kb) (λ (p : K × V). begins (kb p.0) q) S ranked)) [
    | inl e ↦ subst (λ (F : List (K × V)). IsLongestFront kb S q (slice_get F (length F - 1))) (sym e) (λ r b. absent_found kb S r (λ x m s. subst (Member x) e (there x m r s b)))
    | inr p ↦
        let f = filter_member (λ (z : K × V). begins (kb z.0) q) S p.0 p.2 in
        subst (IsLongestFront kb S q) (sym p.1) (
          found_member kb S ranked (kb p.0.0) p.0 f.0 refl,
          f.1,
          λ r b l. absent_found kb S r (λ y m s. (
              let k : length (kb p.0.0) < length (kb y.0) = subst (λ c. length (kb p.0.0) < length c) (sym s) l in
              elim (p.3 y (there y m r s b)) [
                | inl e ↦ differ (kb p.0.0) (kb y.0) k (ap (λ (z : K × V). kb z.0) (sym e))
                | inr g ↦ one_way kb p.0 y (shorter_front_less (kb p.0.0) (kb y.0) q f.1 (ap (λ c. begins c q) s ∙ b) k) g
              ])),
        )
  ]
    where
      there : (x : K × V) → Member x S → (r : List ℕ) → kb x.0 ≡ r → begins r q ≡ true → Member x (fronts_of kb S q)
      there x m r s b = member_filter (λ (z : K × V). begins (kb z.0) q) S x m (ap (λ c. begins c q) s ∙ b)

  -- there is only one longest prefix
  pub longest_unique : (S : List (K × V)) (q : List ℕ) (o p : Option (K × V)) → IsLongestFront kb S q o → IsLongestFront kb S q p → o ≡ p
  longest_unique S q None None h k = refl
  longest_unique S q None (Some y) h k = absurd (let e : None ≡ Some y = sym (h (kb y.0) k.1) ∙ k.0 in cc)
  longest_unique S q (Some x) None h k = absurd (let e : None ≡ Some x = sym (k (kb x.0) h.1) ∙ h.0 in cc)
  longest_unique S q (Some x) (Some y) h k = elim (cases_lt (length (kb x.0)) (length (kb y.0))) [
    | inl l ↦ absurd (let e : None ≡ Some y = sym (h.2 (kb y.0) k.1 l) ∙ k.0 in cc)
    | inr g ↦ elim (cases_lt (length (kb y.0)) (length (kb x.0))) [
      | inl l ↦ absurd (let e : None ≡ Some x = sym (k.2 (kb x.0) h.1 l) ∙ h.0 in cc)
      | inr m ↦
          let same : kb x.0 ≡ kb y.0 = same_length_fronts (kb x.0) (kb y.0) q h.1 k.1 (omega arith) in
          sym h.0 ∙ ap (pair_at kb S) same ∙ k.0
    ]
  ]

  pub longest_from : (S : List (K × V)) → Ranked (Less kb) S → (q : List ℕ) (o : Option (K × V)) → IsLongestFront kb S q o → o ≡ longest_front kb S q
  longest_from S ranked q o h = longest_unique S q o (longest_front kb S q) h (longest_is S ranked q)

  -- ---- the best pair of another list that has the same

  pub best_moved : (S S' : List (K × V)) → ((r : List ℕ) → pair_at kb S' r ≡ pair_at kb S r) → (test : List ℕ → Bool) (is_better : List ℕ → List ℕ → Bool) (o : Option (K × V)) → IsBest kb test is_better S o → IsBest kb test is_better S' o
  best_moved S S' same test is_better None h = λ r t. same r ∙ h r t
  best_moved S S' same test is_better (Some x) h = (same (kb x.0) ∙ h.0, h.1, λ r t b. same r ∙ h.2 r t b)

  -- the longest of the prefixes is the longest prefix
  pub longest_best : (S : List (K × V)) (q : List ℕ) (o : Option (K × V)) → IsBest kb (λ r. begins r q) is_longer S o → IsLongestFront kb S q o
  longest_best S q None h = h
  longest_best S q (Some x) h = (h.0, h.1, λ r b l. h.2 r b (lt-ltb _ _ l))

  -- ---- a walk whose next pair is the best

  module _ (S : List (K × V)) (ranked : Ranked (Less kb) S) where
    -- x passes, and of the other pairs those pass that come after x and pass the second test
    filter_first : (test after : K × V → Bool) (x : K × V) → Member x S → test x ≡ true → ((y : K × V) → Member y S → test y ≡ true → (x ≡ y) ⊎ (after y ≡ true)) → ((y : K × V) → Member y S → after y ≡ true → (test y ≡ true) × Less kb x y) → filter test S ≡ x ∷ filter after S
    filter_first test after x m t forth back =
        same_list (Less kb) (one_way kb) (filter test S) (x ∷ filter after S)
        (Ranked-filter (Less kb) test S ranked)
        (from_each_member (Less kb x) (filter after S) (λ y n. let f = filter_member after S y n in (back y f.0 f.1).1), Ranked-filter (Less kb) after S ranked)
        (λ y n. let f = filter_member test S y n in elim (forth y f.0 f.1) [ inl e ↦ inl e | inr a ↦ inr (member_filter after S y f.0 a) ])
        (λ y n. elim n [
          | inl e ↦ subst (λ z. Member z (filter test S)) e (member_filter test S x m t)
          | inr k ↦ let f = filter_member after S y k in member_filter test S y f.0 (back y f.0 f.1).0
        ])

    -- no pair passes
    pub nothing_left : (test : List ℕ → Bool) (is_better : List ℕ → List ℕ → Bool) → IsBest {V = V} kb test is_better S None → filter (λ (p : K × V). test (kb p.0)) S ≡ []
    nothing_left test is_better h = filter_none (λ (p : K × V). test (kb p.0)) S (λ x m. false_from_ne_true _ (λ t. (let e : None ≡ Some x = sym (h (kb x.0) t) ∙ found_member kb S ranked (kb x.0) x m refl in cc)))

    -- a pair that passes is not better than the best
    not_better : (test : List ℕ → Bool) (is_better : List ℕ → List ℕ → Bool) (x y : K × V) → IsBest kb test is_better S (Some x) → Member y S → test (kb y.0) ≡ true → is_better (kb y.0) (kb x.0) ≡ false
    not_better test is_better x y h m t = false_from_ne_true _ (λ b. (let e : None ≡ Some y = sym (h.2 (kb y.0) t b) ∙ found_member kb S ranked (kb y.0) y m refl in cc))

    -- the shortest prefix with n bytes or more, and then those that are longer
    pub next_front : (q : List ℕ) (n : ℕ) (x : K × V) → IsBest kb (λ r. begins r q && leb n (length r)) is_shorter S (Some x) → filter (λ (p : K × V). begins (kb p.0) q && leb n (length (kb p.0))) S ≡ x ∷ filter (λ (p : K × V). begins (kb p.0) q && leb (length (kb x.0) + 1) (length (kb p.0))) S
    next_front q n x h =
        filter_first (λ p. begins (kb p.0) q && leb n (length (kb p.0))) (λ p. begins (kb p.0) q && leb (length (kb x.0) + 1) (length (kb p.0))) x (member_found kb S (kb x.0) x h.0).0 h.1
        (λ y m t. (
        let l : length (kb x.0) ≤ length (kb y.0) = ltb-false _ _ (not_better (λ r. begins r q && leb n (length r)) is_shorter x y h m t) in
        elim (cases_lt (length (kb x.0)) (length (kb y.0))) [
          | inl k ↦ inr (and_from _ _ (and_parts _ _ t).0 (le-leb (length (kb x.0) + 1) (length (kb y.0)) (omega arith)))
          | inr g ↦ inl (same_pair kb S ranked x y (member_found kb S (kb x.0) x h.0).0 m (same_length_fronts (kb x.0) (kb y.0) q (and_parts _ _ h.1).0 (and_parts _ _ t).0 (omega arith)))
        ]))
        (λ y m t. (
        let p = and_parts (begins (kb y.0) q) (leb (length (kb x.0) + 1) (length (kb y.0))) t in
        let own = and_parts (begins (kb x.0) q) (leb n (length (kb x.0))) h.1 in
        let k : length (kb x.0) + 1 ≤ length (kb y.0) = leb-true _ _ p.1 in
        let l : n ≤ length (kb x.0) = leb-true _ _ own.1 in
        (and_from _ _ p.0 (le-leb n (length (kb y.0)) (omega arith)), shorter_front_less (kb x.0) (kb y.0) q own.0 p.0 (omega arith))))

    -- the first pair from a bound on that begins with f, and then those after it
    pub next_under : (f : List ℕ) (low : Bound (List ℕ)) (x : K × V) → IsBest kb (λ r. is_from_start low r && begins f r) less S (Some x) → filter (λ (p : K × V). is_from_start low (kb p.0) && begins f (kb p.0)) S ≡ x ∷ filter (λ (p : K × V). less (kb x.0) (kb p.0) && begins f (kb p.0)) S
    next_under f low x h =
        filter_first (λ p. is_from_start low (kb p.0) && begins f (kb p.0)) (λ p. less (kb x.0) (kb p.0) && begins f (kb p.0)) x (member_found kb S (kb x.0) x h.0).0 h.1
        (λ y m t. elim (less_or (kb x.0) (kb y.0)) [
          | inl e ↦ inl (same_pair kb S ranked x y (member_found kb S (kb x.0) x h.0).0 m e)
          | inr (inl l) ↦ inr (and_from _ _ l (and_parts _ _ t).1)
          | inr (inr l) ↦ absurd (false≢true (sym (not_better (λ r. is_from_start low r && begins f r) less x y h m t) ∙ l))
        ])
        (λ y m t. (
        let p = and_parts _ _ t in
        (and_from _ _ (start_up low (kb x.0) (kb y.0) p.0 (and_parts _ _ h.1).0) p.1, p.0)))

  -- ---- where paths lead after a change

  -- the first pair if it has more bytes, and else the second
  abbrev longer_pair : Option (K × V) → K × V → K × V
  longer_pair None y = y
  longer_pair (Some x) y = if ltb (length (kb y.0)) (length (kb x.0)) then x else y

  -- its bytes and its value are those of the longer lead
  longer_lead : (o : Option (K × V)) (p : K × V) → (kb (longer_pair o p).0, (longer_pair o p).1) ≡ longer (option_map (λ (x : K × V). (kb x.0, x.1)) o) (kb p.0, p.1)
  longer_lead None p = refl
  longer_lead (Some x) p = elim (cases_Bool (ltb (length (kb p.0)) (length (kb x.0)))) [ inl t ↦ rw t refl | inr f ↦ rw f refl ]

  module _ (S S' : List (K × V)) (ranked : Ranked (Less kb) S) (ranked' : Ranked (Less kb) S') (q : List ℕ) where
    -- if nothing changes at the prefixes of r, r leads where it led
    leads_same : (r : List ℕ) → ((t : List ℕ) → begins t r ≡ true → pair_at kb S' t ≡ pair_at kb S t) → (o : Option (K × V)) → IsLongestFront kb S r o → IsLongestFront kb S' r o
    leads_same r same None h = λ t b. same t b ∙ h t b
    leads_same r same (Some x) h = (same (kb x.0) h.1 ∙ h.0, h.1, λ t b l. same t b ∙ h.2 t b l)

    -- after p is put at its bytes q
    module _ (p : K × V) (own : kb p.0 ≡ q) (updates : Updates kb S S' q (Some p)) where
      there : pair_at kb S' (kb p.0) ≡ Some p
      there = ap (pair_at kb S') own ∙ updates.0

      -- longer bytes than q are as before
      longer_same : (t : List ℕ) → length q < length t → pair_at kb S' t ≡ pair_at kb S t
      longer_same t l = updates.1 t (λ e. differ q t l (sym e))

      under_put : (r : List ℕ) → begins q r ≡ true → (o : Option (K × V)) → IsLongestFront kb S r o → IsLongestFront kb S' r (Some (longer_pair o p))
      under_put r b None h = (there, ap (λ c. begins c r) own ∙ b, λ t d l. longer_same t (subst (λ c. length c < length t) own l) ∙ h t d)
      under_put r b (Some x) h = elim (cases_Bool (ltb (length (kb p.0)) (length (kb x.0)))) [
        | inl u ↦
            let l : length q < length (kb x.0) = subst (λ c. length c < length (kb x.0)) own (ltb-true _ _ u) in
            subst (λ z. IsLongestFront kb S' r (Some z)) (sym (cond-true _ x p u)) (longer_same (kb x.0) l ∙ h.0, h.1, λ t d m. longer_same t (omega arith) ∙ h.2 t d m)
        | inr f ↦
            let l : length (kb x.0) ≤ length q = subst (λ c. length (kb x.0) ≤ length c) own (ltb-false _ _ f) in
            subst (λ z. IsLongestFront kb S' r (Some z)) (sym (cond-false _ x p f)) (
              there,
              ap (λ c. begins c r) own ∙ b,
              λ t d m. (let k : length q < length t = subst (λ c. length c < length t) own m in longer_same t k ∙ h.2 t d (omega arith)),
            )
      ]

      pub routes_put : (r : List ℕ) → lead kb S' r ≡ (if begins q r then Some (longer (lead kb S r) (q, p.1)) else lead kb S r)
      routes_put r = elim (cases_Bool (begins q r)) [
        | inl b ↦
            let now : longest_front kb S' r ≡ Some (longer_pair (longest_front kb S r) p) = sym (longest_from S' ranked' r (Some (longer_pair (longest_front kb S r) p)) (under_put r b (longest_front kb S r) (longest_is S ranked r))) in
            let same : lead kb S' r ≡ Some (longer (lead kb S r) (q, p.1)) = ap (option_map (λ (x : K × V). (kb x.0, x.1))) now ∙ ap Some (longer_lead (longest_front kb S r) p ∙ ap (λ (c : List ℕ). longer (lead kb S r) (c, p.1)) own) in
            rw b same
        | inr f ↦
            let same : lead kb S' r ≡ lead kb S r = ap (option_map (λ (x : K × V). (kb x.0, x.1))) (sym (longest_from S' ranked' r (longest_front kb S r) (leads_same r (λ t b. updates.1 t (λ e. false≢true (sym f ∙ ap (λ c. begins c r) (sym e) ∙ b))) (longest_front kb S r) (longest_is S ranked r)))) in
            rw f same
      ]

    -- after what has the bytes q is removed
    module _ (updates : Updates {V = V} kb S S' q None) where
      -- what was absent is absent
      still_absent : (t : List ℕ) → pair_at kb S t ≡ None → pair_at kb S' t ≡ None
      still_absent t h = elim (cases_Bool (bytes_eq t q)) [
        | inl u ↦ ap (pair_at kb S') ((bytes_decides t q).0 u) ∙ updates.0
        | inr f ↦ updates.1 t (λ e. false≢true (sym f ∙ (bytes_decides t q).1 e)) ∙ h
      ]

      -- a path that led to q leads where q leads now
      led_here : (r : List ℕ) (x : K × V) → kb x.0 ≡ q → IsLongestFront kb S r (Some x) → (o : Option (K × V)) → IsLongestFront kb S' q o → IsLongestFront kb S' r o
      led_here r x own h o k = by o k
        where
          prefix : begins q r ≡ true
          prefix = ap (λ c. begins c r) (sym own) ∙ h.1

          -- prefixes of r are longer than q and absent, or prefixes of q
          rest : (t : List ℕ) → begins t r ≡ true → (begins t q ≡ true → pair_at kb S' t ≡ None) → pair_at kb S' t ≡ None
          rest t b f = elim (cases_lt (length q) (length t)) [
            | inl l ↦ still_absent t (h.2 t b (subst (λ c. length c < length t) (sym own) l))
            | inr m ↦ f (front_of_front t q r b prefix m)
          ]

          by : (o : Option (K × V)) → IsLongestFront kb S' q o → IsLongestFront kb S' r o
          by None k = λ t b. rest t b (λ d. k t d)
          by (Some y) k = (k.0, begins-trans (kb y.0) q r k.1 prefix, λ t b l. rest t b (λ d. k.2 t d l))

      led_elsewhere : (r : List ℕ) (x : K × V) → kb x.0 ≢ q → IsLongestFront kb S r (Some x) → IsLongestFront kb S' r (Some x)
      led_elsewhere r x off h = (updates.1 (kb x.0) off ∙ h.0, h.1, λ t b l. still_absent t (h.2 t b l))

      pub routes_without : (r : List ℕ) → lead kb S' r ≡ (if leads_by q (lead kb S r) then lead kb S' q else lead kb S r)
      routes_without r = by (longest_front kb S r) (longest_is S ranked r)
        where
          shown : Option (K × V) → Option (List ℕ × V)
          shown o = option_map (λ (x : K × V). (kb x.0, x.1)) o

          by : (o : Option (K × V)) → IsLongestFront kb S r o → lead kb S' r ≡ (if leads_by q (shown o) then lead kb S' q else shown o)
          by None h = ap shown (sym (longest_from S' ranked' r None (λ t b. still_absent t (h t b))))
          by (Some x) h = elim (cases_Bool (bytes_eq (kb x.0) q)) [
            | inl u ↦ rw u (ap shown (sym (longest_from S' ranked' r (longest_front kb S' q) (led_here r x ((bytes_decides (kb x.0) q).0 u) h (longest_front kb S' q) (longest_is S' ranked' q)))))
            | inr f ↦ rw f (ap shown (sym (longest_from S' ranked' r (Some x) (led_elsewhere r x (λ e. false≢true (sym f ∙ (bytes_decides (kb x.0) q).1 e)) h))))
          ]
