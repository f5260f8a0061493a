-- Edges in the order of their bytes: one more among them, or one less.
use Rattle.std.proofs.Common.{◌≡◌, ◌≢◌, ℕ, zero, suc, ◌+◌, ◌-◌, ◌<◌, ◌≤◌, List, [], ◌∷◌, ◌++◌, length, take, drop, set, Option, Some, None, IsSome, refl, arith, cond, eqb, true, false, sym, ap, subst, eq-eqb, ◌∙◌, inl, inr}
use Rattle.std.proofs.Math.Seq.{paste, take-set-lt}
use Rattle.std.proofs.lemmas.List.{take-take, drop-take, length-drop}
use Rattle.std.proofs.lemmas.List.Edits.{take-paste}
use Rattle.std.specs.Prelude.{ltb}
use Rattle.std.proofs.lemmas.Bool.{ne_eqb, le-ltb}
use Rattle.std.proofs.lemmas.Bool.Decides.{eqb_tells, leb_tells}
use Rattle.art_kinds.specs.Edges.{child_at, AscendsAbove, Ascends, edges_with, edges_without}
use Rattle.art_kinds.specs.declared.records.ids.Child.{Child}
use Rattle.art_kinds.specs.declared.records.ids.Edge.{Edge}

-- how many edges have bytes less than a byte, counted up to the first that does not
abbrev pub edges_below : List Edge → ℕ → ℕ
edges_below [] b = 0
edges_below (x ∷ xs) b = cond (ltb x.byte b) (suc (edges_below xs b)) 0

-- bytes greater than a byte are greater than a lesser byte
pub AscendsAbove-less : (j k : ℕ) (es : List Edge) → j ≤ k → AscendsAbove k es → AscendsAbove j es
AscendsAbove-less j k [] l a = tt
AscendsAbove-less j k (x ∷ es) l a = (let h : k < x.byte = a.0 in omega arith, a.1)

-- if all bytes are greater than k, no edge has a byte that is at most k
pub AscendsAbove-absent : (k b : ℕ) (es : List Edge) → AscendsAbove k es → b ≤ k → child_at es b ≡ None
AscendsAbove-absent k b [] a l = refl
AscendsAbove-absent k b (x ∷ es) a l =
    elim (eqb_tells x.byte b) [
      | inl p ↦ let h : k < x.byte = a.0 in let q : x.byte ≡ b = p.1 in absurd (omega arith)
      | inr p ↦ rw p.0 (AscendsAbove-absent x.byte b es a.1 (let h : k < x.byte = a.0 in omega arith))
    ]

-- bytes that ascend above another ascend
pub AscendsAbove-Ascends : (k : ℕ) (es : List Edge) → AscendsAbove k es → Ascends es
AscendsAbove-Ascends k [] a = tt
AscendsAbove-Ascends k (x ∷ es) a = a.1

-- ---- one more edge

-- it comes after the edges with lesser bytes
pub edges_with-place : (es : List Edge) (e : Edge) → edges_with es e ≡ take (edges_below es e.byte) es ++ e ∷ drop (edges_below es e.byte) es
edges_with-place [] e = refl
edges_with-place (x ∷ es) e =
    elim (leb_tells (suc x.byte) e.byte) [
      | inl p ↦ rw p.0 (ap (λ (t : List Edge). x ∷ t) (edges_with-place es e))
      | inr p ↦ rw p.0 refl
    ]

-- the bytes ascend above another
edges_with-AscendsAbove : (k : ℕ) (es : List Edge) (e : Edge) → AscendsAbove k es → k < e.byte → child_at es e.byte ≡ None → AscendsAbove k (edges_with es e)
edges_with-AscendsAbove k [] e a l n = (l, tt)
edges_with-AscendsAbove k (x ∷ es) e a l n =
    elim (leb_tells (suc x.byte) e.byte) [
      | inl p ↦
          let lt : suc x.byte ≤ e.byte = p.1 in
          let off : eqb x.byte e.byte ≡ false = ne_eqb x.byte e.byte (λ z. omega (arith, z)) in
          rw p.0 (a.0, edges_with-AscendsAbove x.byte es e a.1 (omega arith) (rw off at n))
      | inr p ↦
          let le : e.byte < suc x.byte = p.1 in
          elim (eqb_tells x.byte e.byte) [
            | inl s ↦ let h : Some x.to ≡ None = rw s.0 at n in absurd cc
            | inr s ↦ let off : x.byte ≢ e.byte = s.1 in rw p.0 (l, (omega arith, a.1))
          ]
    ]

-- the bytes ascend
pub edges_with-Ascends : (es : List Edge) (e : Edge) → Ascends es → child_at es e.byte ≡ None → Ascends (edges_with es e)
edges_with-Ascends [] e a n = tt
edges_with-Ascends (x ∷ es) e a n =
    elim (leb_tells (suc x.byte) e.byte) [
      | inl p ↦
          let lt : suc x.byte ≤ e.byte = p.1 in
          let off : eqb x.byte e.byte ≡ false = ne_eqb x.byte e.byte (λ z. omega (arith, z)) in
          rw p.0 (edges_with-AscendsAbove x.byte es e a (omega arith) (rw off at n))
      | inr p ↦
          let le : e.byte < suc x.byte = p.1 in
          elim (eqb_tells x.byte e.byte) [
            | inl s ↦ let h : Some x.to ≡ None = rw s.0 at n in absurd cc
            | inr s ↦ let off : x.byte ≢ e.byte = s.1 in rw p.0 (omega arith, a)
          ]
    ]

-- the child at each byte
pub child_at-edges_with : (es : List Edge) (e : Edge) (b : ℕ) → child_at es e.byte ≡ None → child_at (edges_with es e) b ≡ cond (eqb e.byte b) (Some e.to) (child_at es b)
child_at-edges_with [] e b n = refl
child_at-edges_with (x ∷ es) e b n =
    elim (leb_tells (suc x.byte) e.byte) [
      | inl p ↦
          let lt : suc x.byte ≤ e.byte = p.1 in
          let off : eqb x.byte e.byte ≡ false = ne_eqb x.byte e.byte (λ z. omega (arith, z)) in
          let ih : child_at (edges_with es e) b ≡ cond (eqb e.byte b) (Some e.to) (child_at es b) = child_at-edges_with es e b (rw off at n) in
          rw (p.0, ih) (elim (eqb_tells x.byte b) [
            | inl u ↦ let v : eqb e.byte b ≡ false = ne_eqb e.byte b (λ z. (let w : x.byte ≡ b = u.1 in omega (arith, z))) in rw (u.0, v) refl
            | inr u ↦ rw u.0 refl
          ])
      | inr p ↦ rw p.0 refl
    ]

-- there is one more edge
pub length-edges_with : (es : List Edge) (e : Edge) → length (edges_with es e) ≡ suc (length es)
length-edges_with [] e = refl
length-edges_with (x ∷ es) e =
    elim (leb_tells (suc x.byte) e.byte) [ inl p ↦ rw p.0 (ap suc (length-edges_with es e)) | inr p ↦ rw p.0 refl ]

-- ---- one edge less

-- the edges before it and after it are unchanged
pub edges_without-place : (es : List Edge) (b : ℕ) → Ascends es → IsSome (child_at es b) → (edges_without es b ≡ take (edges_below es b) es ++ drop (suc (edges_below es b)) es) × (edges_below es b < length es)
edges_without-place [] b a h = absurd (let f : IsSome {T = Child} None = h in cc)
edges_without-place (x ∷ es) b a h =
    elim (eqb_tells x.byte b) [
      | inl p ↦ let e : x.byte ≡ b = p.1 in let t : ltb x.byte b ≡ false = le-ltb x.byte b (omega arith) in rw (p.0, t) (refl, omega arith)
      | inr p ↦
          let off : x.byte ≢ b = p.1 in
          elim (leb_tells (suc x.byte) b) [
            | inl q ↦ let ih = edges_without-place es b (AscendsAbove-Ascends x.byte es a) (rw p.0 at h) in let lt : edges_below es b < length es = ih.1 in rw (p.0, q.0) (ap (λ (t : List Edge). x ∷ t) ih.0, omega arith)
            | inr q ↦
                let le : b < suc x.byte = q.1 in
                let none : child_at es b ≡ None = AscendsAbove-absent x.byte b es a (omega arith) in
                absurd (let f : IsSome {T = Child} None = rw (p.0, none) at h in cc)
          ]
    ]

-- the bytes ascend above another
edges_without-AscendsAbove : (k : ℕ) (es : List Edge) (b : ℕ) → AscendsAbove k es → AscendsAbove k (edges_without es b)
edges_without-AscendsAbove k [] b a = tt
edges_without-AscendsAbove k (x ∷ es) b a =
    elim (eqb_tells x.byte b) [
      | inl p ↦ rw p.0 (AscendsAbove-less k x.byte es (let h : k < x.byte = a.0 in omega arith) a.1)
      | inr p ↦ rw p.0 (a.0, edges_without-AscendsAbove x.byte es b a.1)
    ]

-- the bytes ascend
pub edges_without-Ascends : (es : List Edge) (b : ℕ) → Ascends es → Ascends (edges_without es b)
edges_without-Ascends [] b a = tt
edges_without-Ascends (x ∷ es) b a =
    elim (eqb_tells x.byte b) [
      | inl p ↦ rw p.0 (AscendsAbove-Ascends x.byte es a)
      | inr p ↦ rw p.0 (edges_without-AscendsAbove x.byte es b a)
    ]

-- the child at each byte
pub child_at-edges_without : (es : List Edge) (b c : ℕ) → Ascends es → child_at (edges_without es b) c ≡ cond (eqb b c) None (child_at es c)
child_at-edges_without [] b c a = elim (eqb_tells b c) [ inl u ↦ rw u.0 refl | inr u ↦ rw u.0 refl ]
child_at-edges_without (x ∷ es) b c a =
    elim (eqb_tells x.byte b) [
      | inl p ↦
          let e : x.byte ≡ b = p.1 in
          rw p.0 (elim (eqb_tells b c) [
            | inl u ↦ let v : b ≡ c = u.1 in rw u.0 (AscendsAbove-absent x.byte c es a (omega arith))
            | inr u ↦ let w : eqb x.byte c ≡ false = rw e u.0 in rw (u.0, w) refl
          ])
      | inr p ↦
          let ih : child_at (edges_without es b) c ≡ cond (eqb b c) None (child_at es c) = child_at-edges_without es b c (AscendsAbove-Ascends x.byte es a) in
          rw (p.0, ih) (elim (eqb_tells x.byte c) [
            | inl v ↦ elim (eqb_tells b c) [ inl w ↦ absurd (p.1 (v.1 ∙ sym w.1)) | inr w ↦ rw (v.0, w.0) refl ]
            | inr v ↦ rw v.0 refl
          ])
    ]

-- there is one edge less
pub length-edges_without : (es : List Edge) (b : ℕ) → IsSome (child_at es b) → suc (length (edges_without es b)) ≡ length es
length-edges_without [] b h = absurd (let f : IsSome {T = Child} None = h in cc)
length-edges_without (x ∷ es) b h =
    elim (eqb_tells x.byte b) [
      | inl p ↦ rw p.0 refl
      | inr p ↦ rw p.0 (ap suc (length-edges_without es b (rw p.0 at h)))
    ]

-- ---- among the first n of an array

set-after : {X : Type 0} → (es zs : List X) (i : ℕ) (e : X) → i < length es → set (take (suc i) es ++ zs) i e ≡ take i es ++ e ∷ zs
set-after [] zs i e l = absurd (omega arith)
set-after (x ∷ es) zs zero e l = refl
set-after {X = X} (x ∷ es) zs (suc i) e l = ap (λ (t : List X). x ∷ t) (set-after es zs i e (omega arith))

module _ {X : Type 0} (es : List X) (i n : ℕ) where
  take_first : i ≤ n → take i es ≡ take i (take n es)
  take_first le = sym (take-take i n es le)

  drop_first : (k : ℕ) → k ≤ n → drop k (take n es) ≡ take (n - k) (drop k es)
  drop_first k le = let e : k + (n - k) ≡ n = omega arith in ap (λ (m : ℕ). drop k (take m es)) (sym e) ∙ drop-take k (n - k) es

  -- the edges from i on are moved one place up, and another is written at i
  pub write_among : (e : X) → i ≤ n → n < length es → take (n + 1) (set (paste es (i + 1) (drop i es) (n - i)) i e) ≡ take i (take n es) ++ e ∷ drop i (take n es)
  write_among e le lt =
      let d : length (drop i es) ≡ length es - i = length-drop i es in
      let m : i + 1 + (n - i) ≡ n + 1 = omega arith in
      let one : i + 1 ≡ suc i = omega arith in
      take-set-lt (n + 1) (paste es (i + 1) (drop i es) (n - i)) i e (omega arith)
      ∙ ap (λ (k : ℕ). set (take k (paste es (i + 1) (drop i es) (n - i))) i e) (sym m)
      ∙ ap (λ (t : List X). set t i e) (take-paste es (i + 1) (drop i es) (n - i) (omega arith) (omega arith))
      ∙ ap (λ (k : ℕ). set (take k es ++ take (n - i) (drop i es)) i e) one
      ∙ set-after es (take (n - i) (drop i es)) i e (omega arith)
      ∙ ap (λ (t : List X). t ++ e ∷ take (n - i) (drop i es)) (take_first le)
      ∙ ap (λ (t : List X). take i (take n es) ++ e ∷ t) (sym (drop_first i le))

  -- the edges after i are moved one place down
  pub close_among : i < n → n ≤ length es → take (n - 1) (paste es i (drop (i + 1) es) (n - (i + 1))) ≡ take i (take n es) ++ drop (i + 1) (take n es)
  close_among lt le =
      let d : length (drop (i + 1) es) ≡ length es - (i + 1) = length-drop (i + 1) es in
      let m : i + (n - (i + 1)) ≡ n - 1 = omega arith in
      ap (λ (k : ℕ). take k (paste es i (drop (i + 1) es) (n - (i + 1)))) (sym m)
      ∙ take-paste es i (drop (i + 1) es) (n - (i + 1)) (omega arith) (omega arith)
      ∙ ap (λ (t : List X). t ++ take (n - (i + 1)) (drop (i + 1) es)) (take_first (omega arith))
      ∙ ap (λ (t : List X). take i (take n es) ++ t) (sym (drop_first (i + 1) (omega arith)))

-- ---- lists with the same children

-- an option that is `None` has no value
some_none : (o : Option Child) → o ≡ None → IsSome o → ⊥
some_none o e h = let P : Option Child → Type 0 = λ o. IsSome o in let f : IsSome {T = Child} None = subst P e h in cc

-- edges with the same byte and child are equal
edge_same : (x y : Edge) → x.byte ≡ y.byte → x.to ≡ y.to → x ≡ y
edge_same x y e u =
    let f : ℕ → Edge = λ b. record { byte = b; to = x.to } in
    let g : Child → Edge = λ t. record { byte = y.byte; to = t } in
    ap f e ∙ ap g u

-- two ascending lists with the same children are equal
pub same_edges : (es fs : List Edge) → Ascends es → Ascends fs → ((b : ℕ) → child_at es b ≡ child_at fs b) → es ≡ fs
same_edges [] [] a d h = refl
same_edges [] (y ∷ fs) a d h = absurd (some_none (child_at (y ∷ fs) y.byte) (sym (h y.byte)) (let e : eqb y.byte y.byte ≡ true = eq-eqb y.byte y.byte refl in rw e refl))
same_edges (x ∷ es) [] a d h = absurd (some_none (child_at (x ∷ es) x.byte) (h x.byte) (let e : eqb x.byte x.byte ≡ true = eq-eqb x.byte x.byte refl in rw e refl))
same_edges (x ∷ es) (y ∷ fs) a d h =
    let ex : eqb x.byte x.byte ≡ true = eq-eqb x.byte x.byte refl in
    let ey : eqb y.byte y.byte ≡ true = eq-eqb y.byte y.byte refl in
    let hx : Some x.to ≡ child_at (y ∷ fs) x.byte = rw ex at (h x.byte) in
    let hy : child_at (x ∷ es) y.byte ≡ Some y.to = rw ey at (h y.byte) in
    elim (eqb_tells x.byte y.byte) [
      | inl p ↦
          let e : x.byte ≡ y.byte = p.1 in
          let f : eqb y.byte x.byte ≡ true = eq-eqb y.byte x.byte (sym e) in
          let t : Some x.to ≡ Some y.to = rw f at hx in
          let u : x.to ≡ y.to = cc in
          let v : x ≡ y = edge_same x y e u in
          let w : es ≡ fs = same_edges es fs (AscendsAbove-Ascends x.byte es a) (AscendsAbove-Ascends y.byte fs d) (λ b. elim (eqb_tells x.byte b) [
            | inl q ↦ (let q1 : x.byte ≡ b = q.1 in AscendsAbove-absent x.byte b es a (omega arith) ∙ sym (AscendsAbove-absent y.byte b fs d (omega arith)))
            | inr q ↦ (let g : eqb y.byte b ≡ false = rw e at q.0 in let hb : cond (eqb x.byte b) (Some x.to) (child_at es b) ≡ cond (eqb y.byte b) (Some y.to) (child_at fs b) = h b in rw (q.0, g) at hb)
          ]) in
          cc
      | inr p ↦
          elim (leb_tells (suc x.byte) y.byte) [
            | inl q ↦ (let l : suc x.byte ≤ y.byte = q.1 in let n : child_at (y ∷ fs) x.byte ≡ None = AscendsAbove-absent x.byte x.byte (y ∷ fs) (omega arith, d) (omega arith) in let z : Some x.to ≡ None = cc in absurd cc)
            | inr q ↦ (let l : y.byte < suc x.byte = q.1 in let off : x.byte ≢ y.byte = p.1 in let n : child_at (x ∷ es) y.byte ≡ None = AscendsAbove-absent y.byte y.byte (x ∷ es) (omega arith, a) (omega arith) in let z : Some y.to ≡ None = cc in absurd cc)
          ]
    ]
