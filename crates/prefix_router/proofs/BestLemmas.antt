-- The best pair of a list: of two lists side by side, and of a content.
use Rattle.std.proofs.Common.{◌≡◌, ℕ, ◌<◌, ◌≤◌, ◌⊎◌, inl, inr, Bool, true, false, leb, ◌&&◌, List, [], ◌∷◌, ◌++◌, length, refl, sym, ap, ◌∙◌, subst, arith, Option, Some, None, bytes_eq}
use Rattle.std.proofs.lemmas.Bool.{false≢true, cases_Bool, cases_lt, cond-true, cond-false, and_parts, and_from, lt-ltb, ltb-true, le-leb, leb-true, not-true, false_from_ne_true}
use Rattle.std.specs.declared.ops.Bound.{Bound}
use Rattle.std.specs.declared.ops.Bound.TheVariants.{Included, Excluded, Unbounded}
use Rattle.blart_keys.specs.Bounds.{is_from_start, is_up_to_end}
use Rattle.blart_keys.specs.Bytes.{begins, less}
use Rattle.blart_keys.specs.Content.{IsContent, at, between}
use Rattle.blart_keys.specs.Stored.{bytes, pair_at, pair_at_front}
use Rattle.blart_keys.proofs.ByteLemmas.{fronts_related}
use Rattle.blart_keys.proofs.ContentLemmas.{same_item, at_member, at_absent, front_of_Some, front_of_None}
use Rattle.blart_keys.proofs.PartLemmas.{less-irrefl, less-trans, less_or, begins_between}
use Rattle.blart_keys.proofs.RankLemmas.{Member, Ranked, Ranked-from_AllPairs, Ranked-filter, each_member, filter_member, member_filter}
use Rattle.prefix_router.specs.Best.{IsBest, is_longer, is_shorter, better, StartsUnder}

-- `is_better` is an order, and it compares all bytes, save those of one rank
pub record Ranks (is_better : List ℕ → List ℕ → Bool) : Type 0 where
  pub irrefl : (a : List ℕ) → is_better a a ≡ false
  pub trans : (a b c : List ℕ) → is_better a b ≡ true → is_better b c ≡ true → is_better a c ≡ true
  pub splits : (a b c : List ℕ) → is_better a c ≡ true → (is_better a b ≡ true) ⊎ (is_better b c ≡ true)

pub shorter_ranks : Ranks is_shorter
shorter_ranks = record {
  irrefl = λ a. false_from_ne_true _ (λ t. let h : length a < length a = ltb-true _ _ t in absurd (omega arith));
  trans = λ a b c s t. let h : length a < length b = ltb-true _ _ s in let k : length b < length c = ltb-true _ _ t in lt-ltb _ _ (omega arith);
  splits = λ a b c s. let h : length a < length c = ltb-true _ _ s in elim (cases_lt (length a) (length b)) [
    | inl l ↦ inl (lt-ltb _ _ l)
    | inr m ↦ inr (lt-ltb _ _ (omega arith))
  ];
}

pub longer_ranks : Ranks is_longer
longer_ranks = record {
  irrefl = λ a. shorter_ranks.irrefl a;
  trans = λ a b c s t. shorter_ranks.trans c b a t s;
  splits = λ a b c s. elim (shorter_ranks.splits c b a s) [ inl l ↦ inr l | inr m ↦ inl m ];
}

pub less_ranks : Ranks less
less_ranks = record {
  irrefl = less-irrefl;
  trans = less-trans;
  splits = λ a b c s. elim (less_or a b) [
    | inl e ↦ inr (ap (λ d. less d c) (sym e) ∙ s)
    | inr (inl l) ↦ inl l
    | inr (inr m) ↦ inr (less-trans b a c m s)
  ];
}

-- what is not before the bound, and less than bytes that begin with f, begins with f
under_between : (f : List ℕ) (low : Bound (List ℕ)) (a b : List ℕ) → StartsUnder f low → is_from_start low a ≡ true → less a b ≡ true → begins f b ≡ true → begins f a ≡ true
under_between f (Included s) a b u h l t = elim (less_or s a) [
  | inl e ↦ ap (begins f) (sym e) ∙ u
  | inr (inl m) ↦ begins_between f s a b m l u t
  | inr (inr m) ↦ absurd (false≢true (sym (not-true _ h) ∙ m))
]
under_between f (Excluded s) a b u h l t = begins_between f s a b h l u t
under_between f Unbounded a b u h l t = absurd u

module _ {K V : Type 0} (kb : K → List ℕ) where
  -- ---- a look-up in two lists

  pub pair_at-left : (A B : List (K × V)) (r : List ℕ) (p : K × V) → pair_at kb A r ≡ Some p → pair_at kb (A ++ B) r ≡ Some p
  unfolding pair_at
  pair_at-left [] B r p e = absurd cc
  pair_at-left (x ∷ A) B r p e = elim (cases_Bool (bytes_eq (kb x.0) r)) [
    | inl t ↦ cond-true _ _ _ t ∙ sym (cond-true _ _ _ t) ∙ e
    | inr f ↦ cond-false _ _ _ f ∙ pair_at-left A B r p (sym (cond-false _ _ _ f) ∙ e)
  ]

  pub pair_at-right : (A B : List (K × V)) (r : List ℕ) → pair_at kb A r ≡ None → pair_at kb (A ++ B) r ≡ pair_at kb B r
  unfolding pair_at
  pair_at-right [] B r e = refl
  pair_at-right (x ∷ A) B r e = elim (cases_Bool (bytes_eq (kb x.0) r)) [
    | inl t ↦ absurd (let f : Some x ≡ None = sym (cond-true (bytes_eq (kb x.0) r) (Some x) (at (bytes kb) A r) t) ∙ e in cc)
    | inr f ↦ cond-false _ _ _ f ∙ pair_at-right A B r (sym (cond-false (bytes_eq (kb x.0) r) (Some x) (at (bytes kb) A r) f) ∙ e)
  ]

  -- ---- the best of two lists

  -- the better one of the best pairs of two lists is the best of both
  pub best_append : (test : List ℕ → Bool) (is_better : List ℕ → List ℕ → Bool) → Ranks is_better → (A B : List (K × V)) (o p : Option (K × V)) → IsBest kb test is_better A o → IsBest kb test is_better B p → IsBest kb test is_better (A ++ B) (better kb is_better o p)
  best_append test is_better ranks A B None None h k = λ r t. pair_at-right A B r (h r t) ∙ k r t
  best_append test is_better ranks A B None (Some y) h k = (
    pair_at-right A B (kb y.0) (h (kb y.0) k.1) ∙ k.0,
    k.1,
    λ r t b. pair_at-right A B r (h r t) ∙ k.2 r t b,
  )
  best_append test is_better ranks A B (Some x) None h k = (
    pair_at-left A B (kb x.0) x h.0,
    h.1,
    λ r t b. pair_at-right A B r (h.2 r t b) ∙ k r t,
  )
  best_append test is_better ranks A B (Some x) (Some y) h k = elim (cases_Bool (is_better (kb y.0) (kb x.0))) [
    | inl b ↦ subst (IsBest kb test is_better (A ++ B)) (sym (cond-true _ (Some y) (Some x) b)) (
      pair_at-right A B (kb y.0) (h.2 (kb y.0) k.1 b) ∙ k.0,
      k.1,
      λ r t c. pair_at-right A B r (h.2 r t (ranks.trans r (kb y.0) (kb x.0) c b)) ∙ k.2 r t c,
    )
    | inr f ↦ subst (IsBest kb test is_better (A ++ B)) (sym (cond-false _ (Some y) (Some x) f)) (
      pair_at-left A B (kb x.0) x h.0,
      h.1,
      λ r t c. pair_at-right A B r (h.2 r t c) ∙ k.2 r t (beyond f r c),
    )
  ]
    where
      beyond : is_better (kb y.0) (kb x.0) ≡ false → (r : List ℕ) → is_better r (kb x.0) ≡ true → is_better r (kb y.0) ≡ true
      beyond f r c = elim (ranks.splits r (kb y.0) (kb x.0) c) [ inl t ↦ t | inr t ↦ absurd (false≢true (sym f ∙ t)) ]

  -- ---- the best of a content

  -- a pair that passes and that all others that pass are not better than is the best
  pub best_member : (test : List ℕ → Bool) (is_better : List ℕ → List ℕ → Bool) (S : List (K × V)) → IsContent (bytes kb) S → (x : K × V) → Member x S → test (kb x.0) ≡ true → ((y : K × V) → Member y S → test (kb y.0) ≡ true → is_better (kb y.0) (kb x.0) ≡ false) → IsBest kb test is_better S (Some x)
  unfolding pair_at
  best_member test is_better S content x m t rest = (
    at_member (bytes kb) S content (kb x.0) x m refl,
    t,
    λ r u b. at_absent (bytes kb) S r (λ y n e. false≢true (sym (rest y n (ap test e ∙ u)) ∙ ap (λ c. is_better c (kb x.0)) e ∙ b)),
  )

  -- if no pair passes, there is no best one
  pub best_none : (test : List ℕ → Bool) (is_better : List ℕ → List ℕ → Bool) (S : List (K × V)) → ((y : K × V) → Member y S → test (kb y.0) ≡ false) → IsBest kb test is_better S None
  unfolding pair_at
  best_none test is_better S rest = λ r u. at_absent (bytes kb) S r (λ y n e. false≢true (sym (rest y n) ∙ ap test e ∙ u))

  module _ (S : List (K × V)) (content : IsContent (bytes kb) S) where
    -- two pairs whose bytes are prefixes of q are the same
    same_front : (q : List ℕ) (x y : K × V) → Member x S → Member y S → begins (kb x.0) q ≡ true → begins (kb y.0) q ≡ true → x ≡ y
    same_front q x y m n s t = same_item (bytes kb) S content x y m n (fronts_related (kb x.0) (kb y.0) q s t)

    -- the pair whose bytes are a prefix of q is the best of those
    pub best_front : (is_better : List ℕ → List ℕ → Bool) → Ranks is_better → (q : List ℕ) (o : Option (K × V)) → o ≡ pair_at_front kb S q → IsBest kb (λ r. begins r q) is_better S o
    unfolding pair_at_front
    best_front is_better ranks q None e = best_none (λ r. begins r q) is_better S (λ y n. front_of_None (bytes kb) S q y (sym e) n)
    best_front is_better ranks q (Some x) e =
        let f = front_of_Some (bytes kb) S q x (sym e) in
        best_member (λ r. begins r q) is_better S content x f.0 f.1 (λ y n t. subst (λ z. is_better (kb z.0) (kb x.0) ≡ false) (same_front q x y f.0 n f.1 t) (ranks.irrefl (kb x.0)))

    -- also of those with n bytes or more, if it has as many
    pub best_long_front : (is_better : List ℕ → List ℕ → Bool) → Ranks is_better → (q : List ℕ) (n : ℕ) (x : K × V) → Some x ≡ pair_at_front kb S q → n ≤ length (kb x.0) → IsBest kb (λ r. begins r q && leb n (length r)) is_better S (Some x)
    unfolding pair_at_front
    best_long_front is_better ranks q n x e l =
        let f = front_of_Some (bytes kb) S q x (sym e) in
        best_member (λ r. begins r q && leb n (length r)) is_better S content x f.0 (and_from _ _ f.1 (le-leb _ _ l)) (λ y m t. subst (λ z. is_better (kb z.0) (kb x.0) ≡ false) (same_front q x y f.0 m f.1 (and_parts _ _ t).0) (ranks.irrefl (kb x.0)))

    -- and if it has fewer, there is none
    pub no_long_front : (is_better : List ℕ → List ℕ → Bool) (q : List ℕ) (n : ℕ) (x : K × V) → Some x ≡ pair_at_front kb S q → length (kb x.0) < n → IsBest kb (λ r. begins r q && leb n (length r)) is_better S None
    unfolding pair_at_front
    no_long_front is_better q n x e l =
        let f = front_of_Some (bytes kb) S q x (sym e) in
        best_none (λ r. begins r q && leb n (length r)) is_better S (λ y m. false_from_ne_true _ (λ t.
        let p = and_parts _ _ t in
        let s : n ≤ length (kb y.0) = leb-true _ _ p.1 in
        let same : length (kb x.0) ≡ length (kb y.0) = ap (λ (z : K × V). length (kb z.0)) (same_front q x y f.0 m f.1 p.0) in
        absurd (omega arith)))

    -- nor if there is no such pair
    pub no_front : (is_better : List ℕ → List ℕ → Bool) (q : List ℕ) (n : ℕ) → None ≡ pair_at_front kb S q → IsBest kb (λ r. begins r q && leb n (length r)) is_better S None
    unfolding pair_at_front
    no_front is_better q n e = best_none (λ r. begins r q && leb n (length r)) is_better S (λ y m. false_from_ne_true _ (λ t. false≢true (sym (front_of_None (bytes kb) S q y (sym e) m) ∙ (and_parts _ _ t).0)))

    -- ---- the first pair from a bound on

    module _ (f : List ℕ) (low : Bound (List ℕ)) (starts : StartsUnder f low) where
      -- the pairs from the bound on
      abbrev from_low : List (K × V)
      from_low = between (bytes kb) S low Unbounded

      -- a pair is not before the bound, and begins with f
      abbrev passes : List ℕ → Bool
      passes r = is_from_start low r && begins f r

      pub none_under : from_low ≡ [] → IsBest kb passes less S None
      none_under e = best_none passes less S (λ y m. false_from_ne_true _ (λ t. subst (Member y) e (member_filter (λ (p : K × V). is_from_start low (kb p.0) && is_up_to_end Unbounded (kb p.0)) S y m (and_from _ _ (and_parts _ _ t).0 refl))))

      module _ (x : K × V) (rest : List (K × V)) (e : from_low ≡ x ∷ rest) where
        -- a pair from the bound on is x, or comes after x
        follows : (y : K × V) → Member y S → is_from_start low (kb y.0) ≡ true → (x ≡ y) ⊎ (less (kb x.0) (kb y.0) ≡ true)
        follows y m t =
            let there : Member y (x ∷ rest) = subst (Member y) e (member_filter (λ (p : K × V). is_from_start low (kb p.0) && is_up_to_end Unbounded (kb p.0)) S y m (and_from _ _ t refl)) in
            elim there [ inl s ↦ inl s | inr n ↦ inr (each_member (λ (z : K × V). less (kb x.0) (kb z.0) ≡ true) rest y after.0 n) ]
          where
            after : Ranked (λ (p q : K × V). less (kb p.0) (kb q.0) ≡ true) (x ∷ rest)
            after = subst (Ranked (λ (p q : K × V). less (kb p.0) (kb q.0) ≡ true)) e (Ranked-filter _ _ S (Ranked-from_AllPairs _ S content.ascends))

        -- x itself is a pair from the bound on
        found : Member x S × (is_from_start low (kb x.0) ≡ true)
        found =
            let r = filter_member (λ (p : K × V). is_from_start low (kb p.0) && is_up_to_end Unbounded (kb p.0)) S x (subst (Member x) (sym e) (inl refl)) in
            (r.0, (and_parts _ _ r.1).0)

        pub first_under : begins f (kb x.0) ≡ true → IsBest kb passes less S (Some x)
        first_under t = best_member passes less S content x found.0 (and_from _ _ found.1 t) (λ y m u. false_from_ne_true _ (λ l. elim (follows y m (and_parts _ _ u).0) [
          | inl s ↦ false≢true (sym (less-irrefl (kb x.0)) ∙ ap (λ (z : K × V). less (kb z.0) (kb x.0)) s ∙ l)
          | inr g ↦ false≢true (sym (less-irrefl (kb x.0)) ∙ less-trans (kb x.0) (kb y.0) (kb x.0) g l)
        ]))

        pub first_not_under : begins f (kb x.0) ≡ false → IsBest kb passes less S None
        first_not_under h = best_none passes less S (λ y m. false_from_ne_true _ (λ u. (
            let p = and_parts (is_from_start low (kb y.0)) (begins f (kb y.0)) u in
            elim (follows y m p.0) [
              | inl s ↦ false≢true (sym h ∙ ap (λ (z : K × V). begins f (kb z.0)) s ∙ p.1)
              | inr g ↦ false≢true (sym h ∙ under_between f low (kb x.0) (kb y.0) starts found.1 g p.1)
            ])))
