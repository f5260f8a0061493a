-- The edges after a byte and before it, the first and the last.
use Rattle.std.proofs.Common.{◌≡◌, ℕ, zero, length, take, get_or, ◌<◌, ◌≤◌, List, [], ◌∷◌, Option, Some, None, refl, arith, sym, ◌∙◌, eq-eqb, eqb, true, false, inl, inr}
use Rattle.std.proofs.lemmas.Bool.{ne_eqb}
use Rattle.std.proofs.lemmas.Bool.Decides.{leb_tells}
use Rattle.std.specs.Prelude.{suc}
use Rattle.art_kinds.specs.Edges.{child_at, AscendsAbove, Ascends, after, IsNext, before, later, IsPrevious, IsEnd}
use Rattle.art_kinds.specs.declared.records.ids.Child.{Child}
use Rattle.art_kinds.specs.declared.records.ids.Edge.{Edge}
use Rattle.art_kinds.proofs.EdgeShifts.{AscendsAbove-absent, AscendsAbove-Ascends}

-- a first edge that is not after the byte does not change the next edge
skip : (x : Edge) (es : List Edge) (b : ℕ) (o : Option Edge) → x.byte ≤ b → IsNext es b o → IsNext (x ∷ es) b o
skip x es b None l h = λ c lt. (let t : eqb x.byte c ≡ false = ne_eqb x.byte c (λ e. omega (arith, e)) in rw t (h c lt))
skip x es b (Some e) l h =
    let lt : b < e.byte = h.0 in
    let t : eqb x.byte e.byte ≡ false = ne_eqb x.byte e.byte (λ z. omega (arith, z)) in
    (lt, rw t h.1, λ c lo hi. (let u : eqb x.byte c ≡ false = ne_eqb x.byte c (λ z. omega (arith, z)) in rw u (h.2 c lo hi)))

-- the first edge after a byte is the next edge
pub after-next : (es : List Edge) (b : ℕ) → Ascends es → IsNext es b (after es b)
after-next [] b a = λ c l. refl
after-next (x ∷ es) b a =
    elim (leb_tells (suc b) x.byte) [
      | inl p ↦
          let l : suc b ≤ x.byte = p.1 in
          let t : eqb x.byte x.byte ≡ true = eq-eqb x.byte x.byte refl in
          rw p.0 (omega arith, rw t refl, λ c lo hi. (let u : eqb x.byte c ≡ false = ne_eqb x.byte c (λ z. omega (arith, z)) in rw u (AscendsAbove-absent x.byte c es a (omega arith))))
      | inr p ↦ let l : x.byte < suc b = p.1 in rw p.0 (skip x es b (after es b) (omega arith) (after-next es b (AscendsAbove-Ascends x.byte es a)))
    ]

-- if all bytes are greater than k, so is a byte with a child
before_edge : (k : ℕ) (es : List Edge) (c : ℕ) (t : Child) → AscendsAbove k es → child_at es c ≡ Some t → k < c
before_edge k es c t a h =
    elim (leb_tells (suc k) c) [
      | inl p ↦ p.1
      | inr p ↦ (let l : c < suc k = p.1 in let n : child_at es c ≡ None = AscendsAbove-absent k c es a (omega arith) in let f : Some t ≡ None = sym h ∙ n in absurd cc)
    ]

-- with a first edge before the byte, the previous edge is that edge or a later one
previous_after : (x : Edge) (es : List Edge) (b : ℕ) (o : Option Edge) → AscendsAbove x.byte es → x.byte < b → IsPrevious es b o → IsPrevious (x ∷ es) b (Some (later o x))
previous_after x es b None a l h =
    let t : eqb x.byte x.byte ≡ true = eq-eqb x.byte x.byte refl in
    (l, rw t refl, λ c lo hi. (let u : eqb x.byte c ≡ false = ne_eqb x.byte c (λ z. omega (arith, z)) in rw u (h c hi)))
previous_after x es b (Some e) a l h =
    let lt : x.byte < e.byte = before_edge x.byte es e.byte e.to a h.1 in
    let t : eqb x.byte e.byte ≡ false = ne_eqb x.byte e.byte (λ z. omega (arith, z)) in
    (h.0, rw t h.1, λ c lo hi. (let u : eqb x.byte c ≡ false = ne_eqb x.byte c (λ z. omega (arith, z)) in rw u (h.2 c lo hi)))

-- the last edge before a byte is the previous edge
pub before-previous : (es : List Edge) (b : ℕ) → Ascends es → IsPrevious es b (before es b)
before-previous [] b a = λ c l. refl
before-previous (x ∷ es) b a =
    elim (leb_tells (suc x.byte) b) [
      | inl p ↦ let l : suc x.byte ≤ b = p.1 in rw p.0 (previous_after x es b (before es b) a (omega arith) (before-previous es b (AscendsAbove-Ascends x.byte es a)))
      | inr p ↦ let l : b < suc x.byte = p.1 in rw p.0 (λ c lo. (let u : eqb x.byte c ≡ false = ne_eqb x.byte c (λ z. omega (arith, z)) in rw u (AscendsAbove-absent x.byte c es a (omega arith))))
    ]

-- the first edge in use has the least byte
pub first-least : (n : ℕ) (es : List Edge) (d : Edge) → Ascends (take n es) → 0 < n → n ≤ length es → IsEnd true (take n es) (get_or es 0 d)
first-least n [] d a l m = absurd (omega arith)
first-least zero (x ∷ es) d a l m = absurd (omega arith)
first-least (suc n) (x ∷ es) d a l m = record {
  there = let t : eqb x.byte x.byte ≡ true = eq-eqb x.byte x.byte refl in rw t refl;
  end = λ c lt. (let u : eqb x.byte c ≡ false = ne_eqb x.byte c (λ z. omega (arith, z)) in rw u (AscendsAbove-absent x.byte c (take n es) a (omega arith)));
}

-- the last edge in use has the greatest byte
pub last-greatest : (n : ℕ) (es : List Edge) (d : Edge) → Ascends (take (suc n) es) → suc n ≤ length es → IsEnd false (take (suc n) es) (get_or es n d)
last-greatest n [] d a m = absurd (omega arith)
last-greatest zero (x ∷ es) d a m = record {
  there = let t : eqb x.byte x.byte ≡ true = eq-eqb x.byte x.byte refl in rw t refl;
  end = λ c lt. (let u : eqb x.byte c ≡ false = ne_eqb x.byte c (λ z. omega (arith, z)) in rw u refl);
}
last-greatest (suc n) (x ∷ es) d a m =
    let ih = last-greatest n es d (AscendsAbove-Ascends x.byte (take (suc n) es) a) (omega arith) in
    let e : Edge = get_or es n d in
    let lt : x.byte < e.byte = before_edge x.byte (take (suc n) es) e.byte e.to a ih.there in
    record {
      there = let t : eqb x.byte e.byte ≡ false = ne_eqb x.byte e.byte (λ z. omega (arith, z)) in rw t ih.there;
      end = λ c hi. (let u : eqb x.byte c ≡ false = ne_eqb x.byte c (λ z. omega (arith, z)) in rw u (ih.end c hi));
    }

-- the edge found in the rest, or else the edge found before
abbrev pub laid : Option Edge → Option Edge → Option Edge
laid None o = o
laid (Some e) o = Some e
