-- The edges of one node added to another, one by one.
use Rattle.std.proofs.Common.{◌≡◌, ◌≢◌, ℕ, zero, suc, ◌+◌, ◌<◌, ◌≤◌, List, [], ◌∷◌, length, get_or, take, replicate, Option, Some, None, IsSome, is_some, count_by, cond, eqb, false, refl, arith, sym, ap, subst, ◌∙◌, inl, inr}
use Rattle.std.proofs.lemmas.Bool.{ne_eqb, cases_eq}
use Rattle.std.proofs.lemmas.Bool.Decides.{eqb_tells, leb_tells}
use Rattle.std.proofs.lemmas.List.{length-replicate}
use Rattle.std.proofs.lemmas.List.Sums.{sum_by-cons}
use Rattle.art_kinds.specs.Edges.{child_at, AscendsAbove, Ascends, AddsChild, IsIndex, Filled, table, edges_from, edges_of}
use Rattle.art_kinds.specs.declared.records.ids.Child.{Child}
use Rattle.art_kinds.specs.declared.records.ids.Edge.{Edge}
use Rattle.art_kinds.proofs.EdgeShifts.{same_edges, AscendsAbove-Ascends, AscendsAbove-absent}
use Rattle.art_kinds.proofs.EdgeNexts.{last-greatest}
use Rattle.art_slots.proofs.StoreSlots.{one}
use Rattle.art_kinds.proofs.Tables.{first_there}

AscendsAbove-take : (k : ℕ) (es : List Edge) (n : ℕ) → AscendsAbove k es → AscendsAbove k (take n es)
AscendsAbove-take k [] zero a = tt
AscendsAbove-take k [] (suc n) a = tt
AscendsAbove-take k (x ∷ es) zero a = tt
AscendsAbove-take k (x ∷ es) (suc n) a = (a.0, AscendsAbove-take x.byte es n a.1)

-- the first edges ascend
pub take-Ascends : (es : List Edge) (n : ℕ) → Ascends es → Ascends (take n es)
take-Ascends [] zero a = tt
take-Ascends [] (suc n) a = tt
take-Ascends (x ∷ es) zero a = tt
take-Ascends (x ∷ es) (suc n) a = AscendsAbove-take x.byte es n a

AscendsAbove-at : (k : ℕ) (es : List Edge) (i : ℕ) (d : Edge) → AscendsAbove k es → i < length es → k < (get_or es i d).byte
AscendsAbove-at k [] i d a l = absurd (omega arith)
AscendsAbove-at k (x ∷ es) zero d a l = a.0
AscendsAbove-at k (x ∷ es) (suc i) d a l =
    let h : x.byte < (get_or es i d).byte = AscendsAbove-at x.byte es i d a.1 (omega arith) in
    let q : k < x.byte = a.0 in
    omega arith

-- the byte of an edge is not a byte of an edge before it
pub absent_before : (es : List Edge) (i : ℕ) (d : Edge) → Ascends es → i < length es → child_at (take i es) (get_or es i d).byte ≡ None
absent_before [] i d a l = absurd (omega arith)
absent_before (x ∷ es) zero d a l = refl
absent_before (x ∷ es) (suc i) d a l =
    let b = (get_or es i d).byte in
    let h : x.byte < b = AscendsAbove-at x.byte es i d a (omega arith) in
    let t : eqb x.byte b ≡ false = ne_eqb x.byte b (λ z. omega (arith, z)) in
    rw t (absent_before es i d (AscendsAbove-Ascends x.byte es a) (omega arith))

-- one more edge does not change the child at another byte
others_before : (es : List Edge) (i c : ℕ) (d : Edge) → i < length es → c ≢ (get_or es i d).byte → child_at (take (suc i) es) c ≡ child_at (take i es) c
others_before [] i c d l off = absurd (omega arith)
others_before (x ∷ es) zero c d l off = let t : eqb x.byte c ≡ false = ne_eqb x.byte c (λ z. off (sym z)) in rw t refl
others_before (x ∷ es) (suc i) c d l off =
    let ih : child_at (take (suc i) es) c ≡ child_at (take i es) c = others_before es i c d (omega arith) off in
    ap (cond (eqb x.byte c) (Some x.to)) ih

-- the first edges, after the next edge was added
pub poured : (es : List Edge) (i : ℕ) (d : Edge) (new : List Edge) → Ascends es → i < length es → AddsChild (take i es) new (get_or es i d).byte (get_or es i d).to → new ≡ take (suc i) es
poured es i d new a l h =
    let g = last-greatest i es d (take-Ascends es (suc i) a) (omega arith) in
    same_edges new (take (suc i) es) h.ascends (take-Ascends es (suc i) a) (λ c. elim (cases_eq c (get_or es i d).byte) [
      | inl p ↦ ap (child_at new) p ∙ h.added ∙ sym (ap (child_at (take (suc i) es)) p ∙ g.there)
      | inr p ↦ h.rest c p ∙ sym (others_before es i c d l p)
    ])

-- an index has no place if each of its entries is 48
all_48 : (n b : ℕ) → ◌≡◌ {A = ℕ} (get_or (replicate {A = ℕ} n 48) b 48) 48
all_48 zero zero = refl
all_48 zero (suc b) = refl
all_48 (suc n) zero = refl
all_48 (suc n) (suc b) = all_48 n b

none_of : (n : ℕ) (cs : List Child) → count_by is_some (table (replicate {A = ℕ} n 48) cs) ≡ 0
none_of zero cs = refl
none_of (suc n) cs = let ih : count_by is_some (table (replicate {A = ℕ} n 48) cs) ≡ 0 = none_of n cs in omega (arith, ih, sum_by-cons one None (table (replicate {A = ℕ} n 48) cs))

-- an index with no child
pub empty_index : (c : Child) → IsIndex 0 (replicate {A = ℕ} 256 48) (replicate 48 c)
empty_index c = record {
  within = omega arith;
  wide = length-replicate {A = ℕ} 256 48;
  long = length-replicate 48 c;
  used = λ b h. absurd (omega (arith, all_48 256 b));
  apart = λ b d h e. absurd (omega (arith, all_48 256 b));
  counted = none_of 256 (replicate 48 c);
}

-- no edge has a byte less than the first
first_least : (x : Edge) (xs : List Edge) (c : ℕ) (to : Child) → Ascends (x ∷ xs) → child_at (x ∷ xs) c ≡ Some to → x.byte ≤ c
first_least x xs c to a h = elim (leb_tells (suc c) x.byte) [
  | inl q ↦ (
      let l : suc c ≤ x.byte = q.1 in
      let m : child_at (x ∷ xs) c ≡ None = AscendsAbove-absent c c (x ∷ xs) (omega arith, a) (omega arith) in
      let z : Some to ≡ None = sym h ∙ m in
      absurd cc)
  | inr q ↦ (let l : x.byte < suc c = q.1 in omega arith)
]

-- the edges before a byte that has an edge are fewer than all edges
pub fewer_before : (b : ℕ) (xs es : List Edge) → Ascends xs → Ascends es → ((c : ℕ) → c < b → child_at xs c ≡ child_at es c) → ((c : ℕ) → b ≤ c → child_at xs c ≡ None) → IsSome (child_at es b) → length xs < length es
fewer_before b [] [] a d h n s = let f : IsSome {T = Child} None = s in absurd cc
fewer_before b (x ∷ xs) [] a d h n s = let f : IsSome {T = Child} None = s in absurd cc
fewer_before b [] (y ∷ es) a d h n s = omega arith
fewer_before b (x ∷ xs) (y ∷ es) a d h n s =
    let lt : x.byte < b = elim (leb_tells b x.byte) [
      | inl p ↦ (let z : Some x.to ≡ None = sym (first_there x xs) ∙ n x.byte p.1 in absurd cc)
      | inr p ↦ p.1
    ] in
    let le : y.byte ≤ x.byte = first_least y es x.byte x.to d (sym (h x.byte lt) ∙ first_there x xs) in
    let ge : x.byte ≤ y.byte = first_least x xs y.byte y.to a (h y.byte (omega arith) ∙ first_there y es) in
    let e : x.byte ≡ y.byte = omega arith in
    let off : eqb y.byte b ≡ false = ne_eqb y.byte b (λ z. omega (arith, z, lt, e)) in
    let t : IsSome (child_at es b) = rw off at s in
    let same : (c : ℕ) → c < b → child_at xs c ≡ child_at es c = λ c l. elim (eqb_tells x.byte c) [
      | inl q ↦ (let q1 : x.byte ≡ c = q.1 in AscendsAbove-absent x.byte c xs a (omega arith) ∙ sym (AscendsAbove-absent y.byte c es d (omega arith)))
      | inr q ↦ (let g : eqb y.byte c ≡ false = rw e at q.0 in let hc : cond (eqb x.byte c) (Some x.to) (child_at xs c) ≡ cond (eqb y.byte c) (Some y.to) (child_at es c) = h c l in rw (q.0, g) at hc)
    ] in
    let none : (c : ℕ) → b ≤ c → child_at xs c ≡ None = λ c l. (let g : eqb x.byte c ≡ false = ne_eqb x.byte c (λ z. omega (arith, z, lt, l)) in let hc : cond (eqb x.byte c) (Some x.to) (child_at xs c) ≡ None = n c l in rw g at hc) in
    let ih : length xs < length es = fewer_before b xs es (AscendsAbove-Ascends x.byte xs a) (AscendsAbove-Ascends y.byte es d) same none t in
    omega arith

-- a table with no child
pub empty_table : (x : Option Child) → x ≡ None → Filled 0 (replicate 256 x)
empty_table x e = subst (λ (y : Option Child). Filled 0 (replicate 256 y)) (sym e) (record { wide = length-replicate {A = Option Child} 256 None; counted = none_in 256 })
  where
    none_in : (n : ℕ) → count_by is_some (replicate {A = Option Child} n None) ≡ 0
    none_in zero = refl
    none_in (suc n) = let ih : count_by is_some (replicate {A = Option Child} n None) ≡ 0 = none_in n in omega (arith, ih, sum_by-cons one None (replicate {A = Option Child} n None))

-- a table with no child has no edges
pub no_edges : (x : Option Child) → x ≡ None → edges_of (replicate 256 x) ≡ []
no_edges x e = subst (λ (y : Option Child). edges_of (replicate 256 y) ≡ []) (sym e) (none_from 256 0)
  where
    none_from : (n k : ℕ) → edges_from (replicate {A = Option Child} n None) k ≡ []
    none_from zero k = refl
    none_from (suc n) k = none_from n (k + 1)
