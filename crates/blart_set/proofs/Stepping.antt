-- One step of a walk over two sets side by side.
use Rattle.std.proofs.Common.{Less, Equal, Greater, ◌≡◌, ℕ, ◌<◌, Bool, true, false, not, inl, inr, List, [], ◌∷◌, ◌⊎◌, length, drop, refl, sym, ap, ◌∙◌, subst, cond, filter, arith, Some, None}
use Rattle.std.specs.Set.{sorted_merge}
use Rattle.std.specs.Cmp.Lexicographic.{bytes_decides}
use Rattle.std.specs.Ordering.{is_lt}
use denote.Ref.{Bor}
use Rattle.blart_keys.specs.Bytes.{bytes_cmp}
use Rattle.blart_keys.specs.Content.{Ascends, stores}
use Rattle.blart_keys.specs.KeyLaws.{bytes_cmp-Equal}
use Rattle.blart_set.specs.declared.merges.sides.Side.{Side}
use Rattle.blart_set.specs.declared.merges.sides.Side.TheVariants.{Left, Right, Both}
use Rattle.blart_set.specs.Merging.{Merge, Precedes, Steps, union_rest, symmetric_difference_rest, intersection_rest, difference_rest, side_element, one_element, both_element, left_element}
use Rattle.blart_set.proofs.Orders.{less_cmp, greater_cmp, from_greater, precedes_same, precedes, across, apart, skip_first}

module _ {K : Type 0} (kb : K → List ℕ) where
  -- ---- a step of the code

  module _ (S T : List K) (s : Ascends kb S) (t : Ascends kb T) (m n : ℕ) where
    abbrev old : Merge K
    old = record { left = S; right = T; compares = m }

    pub steps_right : (y : Bor K) → S ≡ [] → T ≡ y.now ∷ drop 1 T → Steps kb old (Some (Right y)) (record { left = S; right = drop 1 T; compares = n })
    steps_right y e f = (f, refl, subst (Precedes kb y.now) (sym e) tt, precedes kb y.now T f t)

    pub steps_left : (x : Bor K) → S ≡ x.now ∷ drop 1 S → T ≡ [] → Steps kb old (Some (Left x)) (record { left = drop 1 S; right = T; compares = n })
    steps_left x e f = (e, refl, precedes kb x.now S e s, subst (Precedes kb x.now) (sym f) tt)

    module _ (x y : Bor K) (e : S ≡ x.now ∷ drop 1 S) (f : T ≡ y.now ∷ drop 1 T) where
      pub steps_less : bytes_cmp (kb x.now) (kb y.now) ≡ Less → Steps kb old (Some (Left x)) (record { left = drop 1 S; right = T; compares = n })
      steps_less c = (e, refl, precedes kb x.now S e s, across kb x.now y.now T f t (ap is_lt c))

      pub steps_equal : bytes_cmp (kb x.now) (kb y.now) ≡ Equal → Steps kb old (Some (Both x)) (record { left = drop 1 S; right = drop 1 T; compares = n })
      steps_equal c =
          let same : kb y.now ≡ kb x.now = sym ((bytes_cmp-Equal (kb x.now) (kb y.now)).0 c) in
          (e, (y.now, f, same), precedes kb x.now S e s, precedes_same kb x.now y.now (drop 1 T) same (precedes kb y.now T f t))

      pub steps_greater : bytes_cmp (kb x.now) (kb y.now) ≡ Greater → Steps kb old (Some (Right y)) (record { left = S; right = drop 1 T; compares = n })
      steps_greater c = (f, refl, across kb y.now x.now S e s (from_greater (kb x.now) (kb y.now) c), precedes kb y.now T f t)

  -- ---- the merged list

  abbrev pub merged : Bool → List K → List K → List K
  merged both A B = sorted_merge (λ x y. bytes_cmp (kb x) (kb y)) both A B

  alone : (both : Bool) (A : List K) → merged both A [] ≡ A
  alone both [] = refl
  alone both (x ∷ A) = refl

  pub left_first : (both : Bool) (x : K) (A B : List K) → Precedes kb x B → merged both (x ∷ A) B ≡ x ∷ merged both A B
  left_first both x A [] p = ap (λ l. x ∷ l) (sym (alone both A))
  left_first both x A (y ∷ B) p = rw (less_cmp (kb x) (kb y) p.0) refl

  pub right_first : (both : Bool) (A : List K) (y : K) (B : List K) → Precedes kb y A → merged both A (y ∷ B) ≡ y ∷ merged both A B
  right_first both [] y B p = refl
  right_first both (x ∷ A) y B p = rw (greater_cmp (kb x) (kb y) p.0) refl

  pub both_first : (both : Bool) (x : K) (A : List K) (y : K) (B : List K) → kb y ≡ kb x → merged both (x ∷ A) (y ∷ B) ≡ cond both (x ∷ merged both A B) (merged both A B)
  both_first both x A y B e = rw ((bytes_cmp-Equal (kb x) (kb y)).1 (sym e)) refl

  -- ---- what a step does to what is left

  module _ (m n : Merge K) where
    pub union_rest_step : (side : Side K) → Steps kb m (Some side) n → union_rest kb m ≡ (side_element side).now ∷ union_rest kb n
    union_rest_step (Left x) h = ap (λ l. merged true l m.right) h.0 ∙ ap (merged true (x.now ∷ n.left)) (sym h.1) ∙ left_first true x.now n.left n.right h.3
    union_rest_step (Right y) h = ap (merged true m.left) h.0 ∙ ap (λ l. merged true l (y.now ∷ n.right)) (sym h.1) ∙ right_first true n.left y.now n.right h.2
    union_rest_step (Both x) h = ap (λ l. merged true l m.right) h.0 ∙ ap (merged true (x.now ∷ n.left)) h.1.1 ∙ both_first true x.now n.left h.1.0 n.right h.1.2

    pub symmetric_difference_rest_one : (side : Side K) (e : Bor K) → one_element side ≡ Some e → Steps kb m (Some side) n → symmetric_difference_rest kb m ≡ e.now ∷ symmetric_difference_rest kb n
    symmetric_difference_rest_one (Left x) e g h =
        let i : x ≡ e = cc in
        ap (λ l. merged false l m.right) h.0 ∙ ap (merged false (x.now ∷ n.left)) (sym h.1) ∙ left_first false x.now n.left n.right h.3 ∙ ap (λ (z : Bor K). z.now ∷ symmetric_difference_rest kb n) i
    symmetric_difference_rest_one (Right y) e g h =
        let i : y ≡ e = cc in
        ap (merged false m.left) h.0 ∙ ap (λ l. merged false l (y.now ∷ n.right)) (sym h.1) ∙ right_first false n.left y.now n.right h.2 ∙ ap (λ (z : Bor K). z.now ∷ symmetric_difference_rest kb n) i
    symmetric_difference_rest_one (Both x) e g h = absurd cc

    pub symmetric_difference_rest_skip : (side : Side K) → one_element side ≡ None → Steps kb m (Some side) n → symmetric_difference_rest kb m ≡ symmetric_difference_rest kb n
    symmetric_difference_rest_skip (Left x) g h = absurd cc
    symmetric_difference_rest_skip (Right y) g h = absurd cc
    symmetric_difference_rest_skip (Both x) g h = ap (λ l. merged false l m.right) h.0 ∙ ap (merged false (x.now ∷ n.left)) h.1.1 ∙ both_first false x.now n.left h.1.0 n.right h.1.2

    -- the elements of the left side with bytes that the other has, or lacks
    abbrev kept : (Bool → Bool) → List K → List K → List K
    kept f A B = filter (λ x. f (stores kb B (kb x))) A

    kept_left : (f : Bool → Bool) (x : Bor K) → Steps kb m (Some (Left x)) n → kept f m.left m.right ≡ cond (f false) (x.now ∷ kept f n.left n.right) (kept f n.left n.right)
    kept_left f x h =
        ap (λ l. kept f l m.right) h.0 ∙ ap (kept f (x.now ∷ n.left)) (sym h.1)
        ∙ ap (λ b. cond (f b) (x.now ∷ kept f n.left n.right) (kept f n.left n.right)) (apart kb x.now n.right h.3)

    kept_right : (f : Bool → Bool) (y : Bor K) → Steps kb m (Some (Right y)) n → kept f m.left m.right ≡ kept f n.left n.right
    kept_right f y h = ap (kept f m.left) h.0 ∙ ap (λ l. kept f l (y.now ∷ n.right)) (sym h.1) ∙ skip_first kb f y.now n.right n.left h.2

    kept_both : (f : Bool → Bool) (x : Bor K) → Steps kb m (Some (Both x)) n → kept f m.left m.right ≡ cond (f true) (x.now ∷ kept f n.left n.right) (kept f n.left n.right)
    kept_both f x h =
        let y = h.1.0 in
        let same : kb x.now ≡ kb y = sym h.1.2 in
        let rest = skip_first kb f y n.right n.left (precedes_same kb y x.now n.left same h.2) in
        ap (λ l. kept f l m.right) h.0 ∙ ap (kept f (x.now ∷ n.left)) h.1.1
        ∙ rw ((bytes_decides (kb y) (kb x.now)).1 h.1.2) (ap (λ l. cond (f true) (x.now ∷ l) l) rest)

    pub intersection_rest_both : (side : Side K) (e : Bor K) → both_element side ≡ Some e → Steps kb m (Some side) n → intersection_rest kb m ≡ e.now ∷ intersection_rest kb n
    intersection_rest_both (Left x) e g h = absurd cc
    intersection_rest_both (Right y) e g h = absurd cc
    intersection_rest_both (Both x) e g h = let i : x ≡ e = cc in kept_both (λ b. b) x h ∙ ap (λ (z : Bor K). z.now ∷ intersection_rest kb n) i

    pub intersection_rest_skip : (side : Side K) → both_element side ≡ None → Steps kb m (Some side) n → intersection_rest kb m ≡ intersection_rest kb n
    intersection_rest_skip (Left x) g h = kept_left (λ b. b) x h
    intersection_rest_skip (Right y) g h = kept_right (λ b. b) y h
    intersection_rest_skip (Both x) g h = absurd cc

    pub difference_rest_left : (side : Side K) (e : Bor K) → left_element side ≡ Some e → Steps kb m (Some side) n → difference_rest kb m ≡ e.now ∷ difference_rest kb n
    difference_rest_left (Left x) e g h = let i : x ≡ e = cc in kept_left not x h ∙ ap (λ (z : Bor K). z.now ∷ difference_rest kb n) i
    difference_rest_left (Right y) e g h = absurd cc
    difference_rest_left (Both x) e g h = absurd cc

    pub difference_rest_skip : (side : Side K) → left_element side ≡ None → Steps kb m (Some side) n → difference_rest kb m ≡ difference_rest kb n
    difference_rest_skip (Left x) g h = absurd cc
    difference_rest_skip (Right y) g h = kept_right not y h
    difference_rest_skip (Both x) g h = kept_both not x h

  -- if one side has nothing left, both sides have nothing in common
  pub intersection_rest_over : (m : Merge K) → (m.left ≡ []) ⊎ (m.right ≡ []) → intersection_rest kb m ≡ []
  intersection_rest_over m (inl e) = ap (λ l. filter (λ x. stores kb m.right (kb x)) l) e
  intersection_rest_over m (inr e) = ap (λ l. filter (λ x. stores kb l (kb x)) m.left) e ∙ none m.left
    where
      none : (A : List K) → filter (λ x. stores kb [] (kb x)) A ≡ []
      none [] = refl
      none (x ∷ A) = none A

-- a list with one more first item is longer
pub longer : {K : Type 0} (A B : List K) (x : K) → A ≡ x ∷ B → length B < length A
longer A B x e = rw e (omega arith)
