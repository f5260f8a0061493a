-- Edges as a list of bytes and a list of children.
use Rattle.std.proofs.Common.{◌≡◌, ◌≢◌, ℕ, zero, suc, ◌<◌, List, [], ◌∷◌, ◌++◌, cond, length, get_or, take, drop, set, Option, Some, None, IsSome, false, refl, arith, sym, ap, ◌∙◌, inl, inr}
use Rattle.art_kinds.specs.Edges.{child_at, Ascends, edges_with_child, paired, later, count_below}
use Rattle.art_kinds.proofs.EdgeNexts.{laid}
use Rattle.art_kinds.proofs.EdgeShifts.{AscendsAbove-absent, AscendsAbove-Ascends, edges_below}
use Rattle.std.specs.Prelude.{ltb}
use Rattle.std.proofs.lemmas.Bool.{le-ltb}
use Rattle.std.proofs.lemmas.Bool.Decides.{eqb_tells, leb_tells}
use Rattle.art_kinds.specs.declared.records.ids.Child.{Child}
use Rattle.art_kinds.specs.declared.records.ids.Edge.{Edge}

-- an edge of a byte and a child
abbrev pub edge : ℕ → Child → Edge
edge b c = record { byte = b; to = c }

pub length-paired : (bs : List ℕ) (cs : List Child) → length cs ≡ length bs → length (paired bs cs) ≡ length bs
length-paired [] cs l = refl
length-paired (b ∷ bs) [] l = absurd (omega arith)
length-paired (b ∷ bs) (c ∷ cs) l = ap suc (length-paired bs cs (omega arith))

-- there are as many edges if there are as many bytes and children
pub same-paired : (bs : List ℕ) (cs : List Child) (bs' : List ℕ) (cs' : List Child) → length bs' ≡ length bs → length cs' ≡ length cs → length cs ≡ length bs → length (paired bs' cs') ≡ length (paired bs cs)
same-paired bs cs bs' cs' a b l = omega (arith, length-paired bs cs l, length-paired bs' cs' (b ∙ l ∙ sym a))

pub take-paired : (n : ℕ) (bs : List ℕ) (cs : List Child) → paired (take n bs) (take n cs) ≡ take n (paired bs cs)
take-paired zero bs cs = refl
take-paired (suc n) [] cs = refl
take-paired (suc n) (b ∷ bs) [] = refl
take-paired (suc n) (b ∷ bs) (c ∷ cs) = ap (λ (t : List Edge). edge b c ∷ t) (take-paired n bs cs)

pub at-paired : (bs : List ℕ) (cs : List Child) (i b : ℕ) (c : Child) (e : Edge) → i < length bs → length cs ≡ length bs → get_or (paired bs cs) i e ≡ edge (get_or bs i b) (get_or cs i c)
at-paired [] cs i b c e l m = absurd (omega arith)
at-paired (x ∷ bs) [] i b c e l m = absurd (omega arith)
at-paired (x ∷ bs) (y ∷ cs) zero b c e l m = refl
at-paired (x ∷ bs) (y ∷ cs) (suc i) b c e l m = at-paired bs cs i b c e (omega arith) (omega arith)

-- the first of the remaining edges
pub drop-paired : (bs : List ℕ) (cs : List Child) (i b : ℕ) (c : Child) → i < length bs → length cs ≡ length bs → drop i (paired bs cs) ≡ edge (get_or bs i b) (get_or cs i c) ∷ drop (suc i) (paired bs cs)
drop-paired [] cs i b c l m = absurd (omega arith)
drop-paired (x ∷ bs) [] i b c l m = absurd (omega arith)
drop-paired (x ∷ bs) (y ∷ cs) zero b c l m = refl
drop-paired (x ∷ bs) (y ∷ cs) (suc i) b c l m = drop-paired bs cs i b c (omega arith) (omega arith)

-- the last edge found so far
pub laid-later : (x : Option Edge) (e : Edge) (f : Option Edge) → laid (Some (later x e)) f ≡ laid x (Some e)
laid-later None e f = refl
laid-later (Some y) e f = refl

-- there are as many bytes before a byte as edges
pub below-paired : (bs : List ℕ) (cs : List Child) (b : ℕ) → length cs ≡ length bs → edges_below (paired bs cs) b ≡ count_below bs b
below-paired [] cs b l = refl
below-paired (x ∷ bs) [] b l = absurd (omega arith)
below-paired (x ∷ bs) (y ∷ cs) b l = ap (λ k. cond (ltb x b) (suc k) 0) (below-paired bs cs b (omega arith))

-- a byte and a child inserted at a place are an edge inserted there
pub paired-with : (bs : List ℕ) (cs : List Child) (i b : ℕ) (c : Child) → length cs ≡ length bs → paired (take i bs ++ b ∷ drop i bs) (take i cs ++ c ∷ drop i cs) ≡ take i (paired bs cs) ++ edge b c ∷ drop i (paired bs cs)
paired-with [] [] zero b c l = refl
paired-with [] [] (suc i) b c l = refl
paired-with [] (y ∷ cs) i b c l = absurd (omega arith)
paired-with (x ∷ bs) [] i b c l = absurd (omega arith)
paired-with (x ∷ bs) (y ∷ cs) zero b c l = refl
paired-with (x ∷ bs) (y ∷ cs) (suc i) b c l = ap (λ (t : List Edge). edge x y ∷ t) (paired-with bs cs i b c (omega arith))

-- a byte and a child removed at a place are an edge removed there
pub paired-without : (bs : List ℕ) (cs : List Child) (i : ℕ) → length cs ≡ length bs → paired (take i bs ++ drop (suc i) bs) (take i cs ++ drop (suc i) cs) ≡ take i (paired bs cs) ++ drop (suc i) (paired bs cs)
paired-without [] [] zero l = refl
paired-without [] [] (suc i) l = refl
paired-without [] (y ∷ cs) i l = absurd (omega arith)
paired-without (x ∷ bs) [] i l = absurd (omega arith)
paired-without (x ∷ bs) (y ∷ cs) zero l = refl
paired-without (x ∷ bs) (y ∷ cs) (suc i) l = ap (λ (t : List Edge). edge x y ∷ t) (paired-without bs cs i (omega arith))

-- if the first n bytes and children are equal, so are the first n edges
pub take-both : (n : ℕ) (bs xs : List ℕ) (cs ys : List Child) → take n xs ≡ bs → take n ys ≡ cs → take n (paired xs ys) ≡ paired bs cs
take-both n bs xs cs ys p q = sym (take-paired n xs ys) ∙ ap (λ (z : List ℕ). paired z (take n ys)) p ∙ ap (λ (z : List Child). paired bs z) q

-- another child at the place of a byte redirects its edge, and the place is one of the first n
pub redirected : (n : ℕ) (bs : List ℕ) (cs : List Child) (b : ℕ) (to : Child) → Ascends (take n (paired bs cs)) → IsSome (child_at (take n (paired bs cs)) b)
    → (take n (paired bs (set cs (count_below (take n bs) b) to)) ≡ edges_with_child (take n (paired bs cs)) b to) × (count_below (take n bs) b < n)
redirected zero bs cs b to a h = absurd (let f : IsSome {T = Child} None = h in cc)
redirected (suc n) [] cs b to a h = absurd (let f : IsSome {T = Child} None = h in cc)
redirected (suc n) (x ∷ bs) [] b to a h = absurd (let f : IsSome {T = Child} None = h in cc)
redirected (suc n) (x ∷ bs) (y ∷ cs) b to a h =
    let es = take n (paired bs cs) in
    elim (eqb_tells x b) [
      | inl p ↦ let e : x ≡ b = p.1 in let t : ltb x b ≡ false = le-ltb x b (omega arith) in rw (p.0, t) (ap (λ z. edge z to ∷ es) e, omega arith)
      | inr p ↦
          let off : x ≢ b = p.1 in
          elim (leb_tells (suc x) b) [
            | inl q ↦ let ih = redirected n bs cs b to (AscendsAbove-Ascends x es a) (rw p.0 at h) in let lt : count_below (take n bs) b < n = ih.1 in rw (p.0, q.0) (ap (λ (t : List Edge). edge x y ∷ t) ih.0, omega arith)
            | inr q ↦
                let le : b < suc x = q.1 in
                let none : child_at es b ≡ None = AscendsAbove-absent x b es a (omega arith) in
                absurd (let f : IsSome {T = Child} None = rw (p.0, none) at h in cc)
          ]
    ]
