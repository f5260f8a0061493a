-- A node gets a child, loses a child, or has an edge redirected.
use Rattle.std.proofs.Common.{◌≡◌, ◌≢◌, ℕ, suc, ◌+◌, ◌-◌, ◌<◌, ◌≤◌, List, [], ◌∷◌, length, take, Some, None, IsSome, refl, arith, eqb, true, false, sym, ap, ◌∙◌, subst, eq-eqb, inl, inr}
use Rattle.std.proofs.lemmas.Bool.{ne_eqb}
use Rattle.std.proofs.lemmas.Bool.Decides.{eqb_tells}
use Rattle.std.proofs.lemmas.List.{length-take-le}
use Rattle.art_kinds.specs.Edges.{child_at, AscendsAbove, Ascends, edges_with, edges_without, edges_with_child, AddsChild, DropsChild, RedirectsChild, Sorted}
use Rattle.art_kinds.specs.declared.records.ids.Child.{Child}
use Rattle.art_kinds.specs.declared.records.ids.Edge.{Edge}
use Rattle.art_kinds.proofs.EdgeShifts.{child_at-edges_with, edges_with-Ascends, length-edges_with, child_at-edges_without, edges_without-Ascends, length-edges_without}

-- one more edge adds a child
pub edges_with-adds : (es : List Edge) (e : Edge) → Ascends es → child_at es e.byte ≡ None → AddsChild es (edges_with es e) e.byte e.to
edges_with-adds es e a n = record {
  added = let t : eqb e.byte e.byte ≡ true = eq-eqb e.byte e.byte refl in rw (child_at-edges_with es e e.byte n, t) refl;
  rest = λ c off. (let t : eqb e.byte c ≡ false = ne_eqb e.byte c (λ z. off (sym z)) in rw (child_at-edges_with es e c n, t) refl);
  longer = let l : length (edges_with es e) ≡ suc (length es) = length-edges_with es e in omega arith;
  ascends = edges_with-Ascends es e a n;
}

-- one edge less removes a child
pub edges_without-drops : (es : List Edge) (b : ℕ) → Ascends es → IsSome (child_at es b) → DropsChild es (edges_without es b) b
edges_without-drops es b a h = record {
  gone = let t : eqb b b ≡ true = eq-eqb b b refl in child_at-edges_without es b b a ∙ rw t refl;
  rest = λ c off. (let t : eqb b c ≡ false = ne_eqb b c (λ z. off (sym z)) in child_at-edges_without es b c a ∙ rw t refl);
  shorter = let l : suc (length (edges_without es b)) ≡ length es = length-edges_without es b h in omega arith;
  ascends = edges_without-Ascends es b a;
}

module _ (b : ℕ) (to : Child) where
  -- the child at the byte is the new child
  edges_with_child-at : (es : List Edge) → IsSome (child_at es b) → child_at (edges_with_child es b to) b ≡ Some to
  edges_with_child-at [] h = absurd (let f : IsSome {T = Child} None = h in cc)
  edges_with_child-at (x ∷ es) h =
      elim (eqb_tells x.byte b) [
        | inl p ↦ let t : eqb b b ≡ true = eq-eqb b b refl in rw (p.0, t) refl
        | inr p ↦ rw (p.0, p.0) (edges_with_child-at es (rw p.0 at h))
      ]

  -- the child at each other byte is unchanged
  edges_with_child-off : (es : List Edge) (c : ℕ) → c ≢ b → child_at (edges_with_child es b to) c ≡ child_at es c
  edges_with_child-off [] c off = refl
  edges_with_child-off (x ∷ es) c off =
      let ih : child_at (edges_with_child es b to) c ≡ child_at es c = edges_with_child-off es c off in
      elim (eqb_tells x.byte b) [
        | inl p ↦
            let t : eqb b c ≡ false = ne_eqb b c (λ e. off (sym e)) in
            let u : eqb x.byte c ≡ false = ne_eqb x.byte c (λ e. off (sym e ∙ p.1)) in
            rw (p.0, t, u) refl
        | inr p ↦ rw (p.0, ih) refl
      ]

  -- the number of edges is unchanged
  length-edges_with_child : (es : List Edge) → length (edges_with_child es b to) ≡ length es
  length-edges_with_child [] = refl
  length-edges_with_child (x ∷ es) =
      elim (eqb_tells x.byte b) [ inl p ↦ rw p.0 refl | inr p ↦ rw p.0 (ap suc (length-edges_with_child es)) ]

  -- the bytes still ascend above another
  edges_with_child-AscendsAbove : (k : ℕ) (es : List Edge) → AscendsAbove k es → AscendsAbove k (edges_with_child es b to)
  edges_with_child-AscendsAbove k [] a = tt
  edges_with_child-AscendsAbove k (x ∷ es) a =
      elim (eqb_tells x.byte b) [
        | inl p ↦ (let e : x.byte ≡ b = p.1 in rw p.0 (subst (λ z. k < z) e a.0, subst (λ z. AscendsAbove z es) e a.1))
        | inr p ↦ rw p.0 (a.0, edges_with_child-AscendsAbove x.byte es a.1)
      ]

  -- the bytes still ascend
  edges_with_child-Ascends : (es : List Edge) → Ascends es → Ascends (edges_with_child es b to)
  edges_with_child-Ascends [] a = tt
  edges_with_child-Ascends (x ∷ es) a =
      elim (eqb_tells x.byte b) [
        | inl p ↦ rw p.0 (subst (λ z. AscendsAbove z es) p.1 a)
        | inr p ↦ rw p.0 (edges_with_child-AscendsAbove x.byte es a)
      ]

  -- one edge is redirected
  pub edges_with_child-edges : (es : List Edge) → Ascends es → IsSome (child_at es b) → RedirectsChild es (edges_with_child es b to) b to
  edges_with_child-edges es a h = record {
    now = edges_with_child-at es h;
    rest = edges_with_child-off es;
    same_length = length-edges_with_child es;
    ascends = edges_with_child-Ascends es a;
  }

module _ (n r : ℕ) (es fs : List Edge) (s : Sorted n r es) where
  -- n edges are in use
  pub in_use : length (take n es) ≡ n
  in_use =
      let w : n ≤ r = s.within in
      let l : length es ≡ r = s.long in
      length-take-le n es (omega arith)

  module _ (same : length fs ≡ length es) where
    module _ (e : Edge) (lt : e.byte < 256) (none : child_at (take n es) e.byte ≡ None) (is : take (n + 1) fs ≡ edges_with (take n es) e) where
      -- the edges in use, with one more
      pub sorted_adds : AddsChild (take n es) (take (n + 1) fs) e.byte e.to
      sorted_adds = rw is (edges_with-adds (take n es) e s.ascends none)

      -- they are still sorted
      pub sorted_more : n < r → Sorted (n + 1) r fs
      sorted_more k =
          let l : length es ≡ r = s.long in
          record {
            within = omega arith;
            long = omega arith;
            ascends = sorted_adds.ascends;
            small = λ b m. (let off : b ≢ e.byte = λ z. omega (arith, z) in sorted_adds.rest b off ∙ s.small b m);
          }

    module _ (b : ℕ) (some : IsSome (child_at (take n es) b)) (is : take (n - 1) fs ≡ edges_without (take n es) b) where
      -- the edges in use, with one less
      pub sorted_drops : DropsChild (take n es) (take (n - 1) fs) b
      sorted_drops = rw is (edges_without-drops (take n es) b s.ascends some)

      -- they are still sorted
      pub sorted_less : Sorted (n - 1) r fs
      sorted_less =
          let w : n ≤ r = s.within in
          let l : length es ≡ r = s.long in
          record {
            within = omega arith;
            long = omega arith;
            ascends = sorted_drops.ascends;
            small = λ c m. elim (eqb_tells c b) [
              | inl p ↦ subst (λ z. child_at (take (n - 1) fs) z ≡ None) (sym p.1) sorted_drops.gone
              | inr p ↦ sorted_drops.rest c p.1 ∙ s.small c m
            ];
          }

    module _ (b : ℕ) (to : Child) (lt : b < 256) (some : IsSome (child_at (take n es) b)) (is : take n fs ≡ edges_with_child (take n es) b to) where
      -- the edges in use, with one redirected
      pub sorted_redirects : RedirectsChild (take n es) (take n fs) b to
      sorted_redirects = rw is (edges_with_child-edges b to (take n es) s.ascends some)

      -- they are still sorted
      pub sorted_same : Sorted n r fs
      sorted_same =
          let l : length es ≡ r = s.long in
          record {
            within = s.within;
            long = omega arith;
            ascends = sorted_redirects.ascends;
            small = λ c m. (let off : c ≢ b = λ z. omega (arith, z) in sorted_redirects.rest c off ∙ s.small c m);
          }
