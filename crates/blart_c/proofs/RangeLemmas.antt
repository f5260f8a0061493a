-- Which pairs lie between two bounds.
use Rattle.std.proofs.Common.{◌≡◌, ◌⊎◌, inl, inr, ℕ, Bool, true, false, ◌&&◌, List, [], ◌∷◌, ◌++◌, filter, cond, refl, sym, ap, ◌∙◌, subst}
use Rattle.std.proofs.lemmas.Bool.{false≢true, and_parts, and_from, not-true, not_from_false, false_from_ne_true, cases_Bool, eqb-true, not-false, cond-true, cond-false}
use Rattle.std.specs.declared.ops.Bound.{Bound}
use Rattle.std.specs.declared.ops.Bound.TheVariants.{Included, Excluded, Unbounded}
use Rattle.blart_keys.specs.Bytes.{begins, less}
use Rattle.blart_keys.specs.Bounds.{in_order, is_from_start, is_up_to_end}
use Rattle.blart_keys.specs.Content.{IsContent, between, under}
use Rattle.blart_keys.proofs.ByteLemmas.{begins-itself}
use Rattle.blart_keys.proofs.PartLemmas.{less-irrefl, less-same, less-trans, less-from_PartsBelow, less_or, begins_between}
use Rattle.blart_keys.proofs.RankLemmas.{Member, Member-append_right, Member-append_cases, Ranked, Ranked-across, Ranked-filter, filter_member, member_filter, filter_none, filter_twice}
use Rattle.blart_keys.proofs.ContentLemmas.{Before, Ranked-from_content}
use Rattle.blart_c.specs.Paged.{later, start_at}

-- ---- bytes

-- a list that begins with p is not less than p
begins_at_least : (p b : List ℕ) → begins p b ≡ true → less b p ≡ false
begins_at_least [] [] h = refl
begins_at_least [] (y ∷ b) h = refl
begins_at_least (x ∷ p) [] h = absurd (false≢true h)
begins_at_least (x ∷ p) (y ∷ b) h = let parts = and_parts _ _ h in less-same y x b p (sym (eqb-true x y parts.0)) ∙ begins_at_least p b parts.1

never : {b : Bool} → b ≡ false → b ≡ true → ⊥
never f t = false≢true (sym f ∙ t)

-- if a is less than b, and b is not greater than c, a is less than c
less_down : (a b c : List ℕ) → less a b ≡ true → less c b ≡ false → less a c ≡ true
less_down a b c h k = elim (less_or b c) [
  | inl e ↦ subst (λ d. less a d ≡ true) e h
  | inr o ↦ elim o [ inl l ↦ less-trans a b c h l | inr l ↦ absurd (never k l) ]
]

-- ---- bounds out of order

-- nothing is within bounds that are not in order
nothing_within : (lo hi : Bound (List ℕ)) (b : List ℕ) → in_order lo hi ≡ false → is_from_start lo b ≡ true → is_up_to_end hi b ≡ true → ⊥
nothing_within (Included lo) (Included hi) b out from to = never (not-true _ to) (less_down hi lo b (not-false _ out) (not-true _ from))
nothing_within (Included lo) (Excluded hi) b out from to = never (not-true _ from) (less-trans b hi lo to (not-false _ out))
nothing_within (Included lo) Unbounded b out from to = false≢true (sym out)
nothing_within (Excluded lo) (Included hi) b out from to = never (not-true _ to) (less-trans hi lo b (not-false _ out) from)
nothing_within (Excluded lo) (Excluded hi) b out from to = never out (less-trans lo b hi from to)
nothing_within (Excluded lo) Unbounded b out from to = false≢true (sym out)
nothing_within Unbounded hi b out from to = false≢true (sym out)

module _ {X : Type 0} (bytes : X → List ℕ) where
  pub nothing_between : (S : List X) (lo hi : Bound (List ℕ)) → in_order lo hi ≡ false → between bytes S lo hi ≡ []
  nothing_between S lo hi out = filter_none (λ x. is_from_start lo (bytes x) && is_up_to_end hi (bytes x)) S
      (λ x m. false_from_ne_true _ (λ t. let parts = and_parts _ _ t in nothing_within lo hi (bytes x) out parts.0 parts.1))

-- ---- the pairs under a prefix

-- if no item begins with the prefix, none does from some start on
module _ {X : Type 0} (bytes : X → List ℕ) where
  pub nothing_below : (S : List X) (lo : Bound (List ℕ)) (p : List ℕ) → under bytes S p ≡ [] → under bytes (between bytes S lo Unbounded) p ≡ []
  nothing_below S lo p none = filter_none (λ x. begins p (bytes x)) (between bytes S lo Unbounded) (λ x m. false_from_ne_true _ (λ t.
      subst (λ l. Member x l) none (member_filter (λ x. begins p (bytes x)) S x (filter_member (λ x. is_from_start lo (bytes x) && true) S x m).0 t)))

-- two tests that agree on each item pass the same items
filter_same : {X : Type 0} (f g : X → Bool) (S : List X) → ((x : X) → Member x S → f x ≡ g x) → filter f S ≡ filter g S
filter_same f g [] same = refl
filter_same f g (x ∷ S) same =
    ap (λ b. cond b (x ∷ filter f S) (filter f S)) (same x (inl refl)) ∙ ap (λ l. cond (g x) (x ∷ l) l) (filter_same f g S (λ y m. same y (inr m)))

-- two tests are equal if each holds when the other does
same_test : (a b : Bool) → (a ≡ true → b ≡ true) → (b ≡ true → a ≡ true) → a ≡ b
same_test true b f g = sym (f refl)
same_test false true f g = g refl
same_test false false f g = refl

module _ (skip : Bool) (from p b : List ℕ) where
  -- a list within the later start is within the given start, and is not less than the prefix
  from_later : is_from_start (later skip from p) b ≡ true → (is_from_start (start_at skip from) b ≡ true) × (less b p ≡ false)
  from_later h = elim (cases_Bool (less from p)) [
    | inl l ↦ let at_p : less b p ≡ false = not-true _ (subst (λ lo. is_from_start lo b ≡ true) (cond-true (less from p) (Included p) (start_at skip from) l) h) in (started skip (less_down from p b l at_p), at_p)
    | inr f ↦ let at_from = subst (λ lo. is_from_start lo b ≡ true) (cond-false (less from p) (Included p) (start_at skip from) f) h in (at_from, above skip f at_from)
  ]
    where
      started : (s : Bool) → less from b ≡ true → is_from_start (start_at s from) b ≡ true
      started true l = l
      started false l = not_from_false _ (false_from_ne_true _ (λ t. never (less-irrefl from) (less-trans from b from l t)))

      above : (s : Bool) → less from p ≡ false → is_from_start (start_at s from) b ≡ true → less b p ≡ false
      above true f l = false_from_ne_true _ (λ t. never f (less-trans from b p l t))
      above false f l = false_from_ne_true _ (λ t. never (not-true _ l) (less_down b p from t f))

  -- and a list that begins with the prefix and is within the given start is within the later start
  to_later : begins p b ≡ true → is_from_start (start_at skip from) b ≡ true → is_from_start (later skip from p) b ≡ true
  to_later h k = elim (cases_Bool (less from p)) [
    | inl l ↦ subst (λ lo. is_from_start lo b ≡ true) (sym (cond-true (less from p) (Included p) (start_at skip from) l)) (not_from_false _ (begins_at_least p b h))
    | inr f ↦ subst (λ lo. is_from_start lo b ≡ true) (sym (cond-false (less from p) (Included p) (start_at skip from) f)) k
  ]

module _ {X : Type 0} (bytes : X → List ℕ) (S : List X) (c : IsContent bytes S) (skip : Bool) (from p : List ℕ) (before : List X) (last : X) (is : under bytes S p ≡ before ++ last ∷ []) where
  last_begins : begins p (bytes last) ≡ true
  last_begins = (filter_member (λ x. begins p (bytes x)) S last (subst (λ l. Member last l) (sym is) (Member-append_right last before (last ∷ []) (inl refl)))).1

  -- no item that begins with the prefix is greater than the last one
  at_most : (x : X) → Member x S → begins p (bytes x) ≡ true → less (bytes last) (bytes x) ≡ false
  at_most x m h = elim (Member-append_cases x before (last ∷ []) (subst (λ l. Member x l) is (member_filter (λ x. begins p (bytes x)) S x m h))) [
    | inl n ↦ let ranked = subst (Ranked (Before bytes)) is (Ranked-filter (Before bytes) (λ x. begins p (bytes x)) S (Ranked-from_content bytes S c)) in
        let l = less-from_PartsBelow _ _ (Ranked-across (Before bytes) before (last ∷ []) ranked x last n (inl refl)) in
        false_from_ne_true _ (λ t. never (less-irrefl (bytes last)) (less-trans (bytes last) (bytes x) (bytes last) t l))
    | inr n ↦ elim n [ inl e ↦ subst (λ y. less (bytes last) (bytes y) ≡ false) e (less-irrefl (bytes last)) | inr n ↦ absurd n ]
  ]

  within : (x : X) → Member x S → (is_from_start (later skip from p) (bytes x) && is_up_to_end (Included (bytes last)) (bytes x)) ≡ ((is_from_start (start_at skip from) (bytes x) && true) && begins p (bytes x))
  within x m = same_test _ _
      (λ h. let parts = and_parts _ _ h in let start = from_later skip from p (bytes x) parts.0 in
      and_from _ _ (and_from _ _ start.0 refl) (begun (less_or p (bytes x)) start.1 (not-true _ parts.1)))
      (λ h. let parts = and_parts _ _ h in and_from _ _ (to_later skip from p (bytes x) parts.1 (and_parts _ _ parts.0).0) (not_from_false _ (at_most x m parts.1)))
    where
      begun : (p ≡ bytes x) ⊎ ((less p (bytes x) ≡ true) ⊎ (less (bytes x) p ≡ true)) → less (bytes x) p ≡ false → less (bytes last) (bytes x) ≡ false → begins p (bytes x) ≡ true
      begun (inl e) low high = subst (λ b. begins p b ≡ true) e (begins-itself p)
      begun (inr (inr l)) low high = absurd (never low l)
      begun (inr (inl l)) low high = elim (less_or (bytes x) (bytes last)) [
        | inl e ↦ subst (λ b. begins p b ≡ true) (sym e) last_begins
        | inr o ↦ elim o [ inl k ↦ begins_between p p (bytes x) (bytes last) l k (begins-itself p) last_begins | inr k ↦ absurd (never high k) ]
      ]

  -- the pairs under the prefix, from the start on
  pub below_prefix : between bytes S (later skip from p) (Included (bytes last)) ≡ under bytes (between bytes S (start_at skip from) Unbounded) p
  below_prefix =
      filter_same (λ x. is_from_start (later skip from p) (bytes x) && is_up_to_end (Included (bytes last)) (bytes x)) (λ x. (is_from_start (start_at skip from) (bytes x) && true) && begins p (bytes x)) S within
      ∙ sym (filter_twice (λ x. is_from_start (start_at skip from) (bytes x) && true) (λ x. begins p (bytes x)) (λ x. (is_from_start (start_at skip from) (bytes x) && true) && begins p (bytes x)) (λ x. refl) S)
