-- The edges of a table.
use Rattle.std.proofs.Common.{◌≡◌, ◌≢◌, ℕ, zero, suc, ◌+◌, ◌-◌, ◌<◌, ◌≤◌, List, [], ◌∷◌, length, get_or, set, Option, Some, None, IsSome, is_some, count_by, refl, arith, eqb, true, false, true≢false, inl, inr, sym, ap, ◌∙◌, subst, eq-eqb, zero-add}
use Rattle.std.proofs.lemmas.Bool.{ne_eqb}
use Rattle.std.proofs.lemmas.Bool.Decides.{leb_tells}
use Rattle.std.proofs.lemmas.List.{get_or-set_same, get_or-set_other, get_or_past}
use Rattle.std.proofs.lemmas.List.Sums.{sum_by-cons}
use Rattle.art_slots.proofs.StoreSlots.{one, count-set}
use Rattle.art_kinds.specs.Edges.{child_at, AscendsAbove, Ascends, AddsChild, DropsChild, RedirectsChild, IsFrom, IsNext, IsPrevious, IsEnd, Filled, edges_from, edges_of}
use Rattle.art_kinds.specs.declared.records.ids.Child.{Child}
use Rattle.art_kinds.specs.declared.records.ids.Edge.{Edge}

-- no edge has a byte less than the first byte
edges-low : (t : List (Option Child)) (k b : ℕ) → b < k → child_at (edges_from t k) b ≡ None
edges-low [] k b l = refl
edges-low (None ∷ t) k b l = edges-low t (k + 1) b (omega arith)
edges-low (Some c ∷ t) k b l = let e : eqb k b ≡ false = ne_eqb k b (λ e. omega (arith, e)) in rw e (edges-low t (k + 1) b (omega arith))

-- the child at a byte is the entry of the table
edges-at : (t : List (Option Child)) (k i : ℕ) → child_at (edges_from t k) (k + i) ≡ get_or t i None
edges-at [] k zero = refl
edges-at [] k (suc i) = refl
edges-at (None ∷ t) k zero = edges-low t (k + 1) (k + 0) (omega arith)
edges-at (None ∷ t) k (suc i) = let e : k + suc i ≡ (k + 1) + i = omega arith in rw e (edges-at t (k + 1) i)
edges-at (Some c ∷ t) k zero = let e : eqb k (k + 0) ≡ true = eq-eqb k (k + 0) (omega arith) in rw e refl
edges-at (Some c ∷ t) k (suc i) =
    let e : k + suc i ≡ (k + 1) + i = omega arith in
    let f : eqb k (k + suc i) ≡ false = ne_eqb k (k + suc i) (λ e. omega (arith, e)) in
    rw f (rw e (edges-at t (k + 1) i))

pub child_at-edges : (t : List (Option Child)) (b : ℕ) → child_at (edges_of t) b ≡ get_or t b None
child_at-edges t b = ap (child_at (edges_of t)) (sym (zero-add b)) ∙ edges-at t 0 b

edges-AscendsAbove : (t : List (Option Child)) (k j : ℕ) → j < k → AscendsAbove j (edges_from t k)
edges-AscendsAbove [] k j l = tt
edges-AscendsAbove (None ∷ t) k j l = edges-AscendsAbove t (k + 1) j (omega arith)
edges-AscendsAbove (Some c ∷ t) k j l = (l, edges-AscendsAbove t (k + 1) k (omega arith))

-- the edges of a table ascend
pub edges-Ascends : (t : List (Option Child)) (k : ℕ) → Ascends (edges_from t k)
edges-Ascends [] k = tt
edges-Ascends (None ∷ t) k = edges-Ascends t (k + 1)
edges-Ascends (Some c ∷ t) k = edges-AscendsAbove t (k + 1) k (omega arith)

-- there are as many edges as children in the table
pub length-edges : (t : List (Option Child)) (k : ℕ) → length (edges_from t k) ≡ count_by is_some t
length-edges [] k = refl
length-edges (None ∷ t) k = let ih : length (edges_from t (k + 1)) ≡ count_by is_some t = length-edges t (k + 1) in omega (arith, ih, sum_by-cons one None t)
length-edges (Some c ∷ t) k = let ih : length (edges_from t (k + 1)) ≡ count_by is_some t = length-edges t (k + 1) in omega (arith, ih, sum_by-cons one (Some c) t)

-- an option with a value counts as one
one-some : (o : Option Child) → IsSome o → one o ≡ 1
one-some None h = absurd (true≢false (sym h))
one-some (Some c) h = refl

one-none : (o : Option Child) → o ≡ None → one o ≡ 0
one-none o e = ap one e

module _ (t : List (Option Child)) (b : ℕ) (l : b < length t) where
  -- the child at a byte after its entry was written
  at-set : (o : Option Child) → child_at (edges_of (set t b o)) b ≡ o
  at-set o = child_at-edges (set t b o) b ∙ get_or-set_same t b o None l

  off-set : (o : Option Child) (c : ℕ) → c ≢ b → child_at (edges_of (set t b o)) c ≡ child_at (edges_of t) c
  off-set o c off = child_at-edges (set t b o) c ∙ get_or-set_other t b c o None off ∙ sym (child_at-edges t c)

  -- a child is added at a byte that had none
  pub table_adds : (to : Child) → child_at (edges_of t) b ≡ None → AddsChild (edges_of t) (edges_of (set t b (Some to))) b to
  table_adds to none = record {
    added = at-set (Some to);
    rest = off-set (Some to);
    longer =
        let n : one (get_or t b None) ≡ 0 = one-none (get_or t b None) (sym (child_at-edges t b) ∙ none) in
        omega (arith, n, count-set t b (Some to) l, length-edges t 0, length-edges (set t b (Some to)) 0);
    ascends = edges-Ascends (set t b (Some to)) 0;
  }

  -- the child is removed at a byte that had one
  pub table_drops : IsSome (child_at (edges_of t) b) → DropsChild (edges_of t) (edges_of (set t b None)) b
  table_drops some = record {
    gone = at-set None;
    rest = off-set None;
    shorter =
        let P : Option Child → Type 0 = λ o. IsSome o in
        let n : one (get_or t b None) ≡ 1 = one-some (get_or t b None) (subst P (child_at-edges t b) some) in
        omega (arith, n, count-set t b None l, length-edges t 0, length-edges (set t b None) 0);
    ascends = edges-Ascends (set t b None) 0;
  }

  -- the child is replaced at a byte that had one
  pub table_redirects : (to : Child) → IsSome (child_at (edges_of t) b) → RedirectsChild (edges_of t) (edges_of (set t b (Some to))) b to
  table_redirects to some = record {
    now = at-set (Some to);
    rest = off-set (Some to);
    same_length =
        let P : Option Child → Type 0 = λ o. IsSome o in
        let n : one (get_or t b None) ≡ 1 = one-some (get_or t b None) (subst P (child_at-edges t b) some) in
        omega (arith, n, count-set t b (Some to) l, length-edges t 0, length-edges (set t b (Some to)) 0);
    ascends = edges-Ascends (set t b (Some to)) 0;
  }

-- a table whose edges have one more child has one more child
pub filled-adds : (t u : List (Option Child)) (n b : ℕ) (to : Child) → length u ≡ length t → Filled n t → AddsChild (edges_of t) (edges_of u) b to → Filled (n + 1) u
filled-adds t u n b to same f a =
    let w : length t ≡ 256 = f.wide in
    let c : count_by is_some t ≡ n = f.counted in
    let l : length (edges_of u) ≡ length (edges_of t) + 1 = a.longer in
    record { wide = omega arith; counted = omega (arith, length-edges t 0, length-edges u 0) }

pub filled-drops : (t u : List (Option Child)) (n b : ℕ) → length u ≡ length t → Filled n t → DropsChild (edges_of t) (edges_of u) b → (0 < n) × Filled (n - 1) u
filled-drops t u n b same f a =
    let w : length t ≡ 256 = f.wide in
    let c : count_by is_some t ≡ n = f.counted in
    let l : length (edges_of u) + 1 ≡ length (edges_of t) = a.shorter in
    (omega (arith, length-edges t 0, length-edges u 0), record { wide = omega arith; counted = omega (arith, length-edges t 0, length-edges u 0) })

-- the first edge from the next byte on is the edge after a byte
pub next-of-from : (es : List Edge) (b : ℕ) (o : Option Edge) → IsFrom es (b + 1) o → IsNext es b o
next-of-from es b None h = λ c l. h c (omega arith)
next-of-from es b (Some e) h = (let l : b + 1 ≤ e.byte = h.0 in omega arith, h.1, λ c lo hi. h.2 c (omega arith) hi)

-- the child at the byte of the first edge is the child of that edge
pub first_there : (x : Edge) (es : List Edge) → child_at (x ∷ es) x.byte ≡ Some x.to
first_there x es = let t : eqb x.byte x.byte ≡ true = eq-eqb x.byte x.byte refl in rw t refl

pub not-empty : (es : List Edge) → 0 < length es → ((c : ℕ) → child_at es c ≡ None) → ⊥
not-empty [] l h = omega arith
not-empty (x ∷ es) l h = let e : Some x.to ≡ None = sym (first_there x es) ∙ h x.byte in absurd cc

-- no edge has a byte that is 256 or more
pub edges-bytes : (t : List (Option Child)) → length t ≡ 256 → (c : ℕ) → 256 ≤ c → child_at (edges_of t) c ≡ None
edges-bytes t w c l = child_at-edges t c ∙ get_or_past t c None (omega arith)

-- the first edge with a byte that is not less than 0 has the least byte
pub least-of-from : (es : List Edge) (e : Edge) → IsFrom es 0 (Some e) → IsEnd true es e
least-of-from es e h = record { there = h.1; end = λ c lt. h.2 c (omega arith) lt }

-- the last edge with a byte less than 256 has the greatest byte
pub greatest-of-below : (es : List Edge) (e : Edge) → ((c : ℕ) → 256 ≤ c → child_at es c ≡ None) → IsPrevious es 256 (Some e) → IsEnd false es e
greatest-of-below es e w h = record {
  there = h.1;
  end = λ c lo. elim (leb_tells 256 c) [
    | inl p ↦ w c p.1
    | inr p ↦ h.2 c lo p.1
  ];
}

pub none-below : (es : List Edge) → ((c : ℕ) → 256 ≤ c → child_at es c ≡ None) → IsPrevious es 256 None → (c : ℕ) → child_at es c ≡ None
none-below es w h c = elim (leb_tells 256 c) [ inl p ↦ w c p.1 | inr p ↦ h c p.1 ]

pub filled-same : (t u : List (Option Child)) (n b : ℕ) (to : Child) → length u ≡ length t → Filled n t → RedirectsChild (edges_of t) (edges_of u) b to → Filled n u
filled-same t u n b to same f a =
    let w : length t ≡ 256 = f.wide in
    let c : count_by is_some t ≡ n = f.counted in
    let l : length (edges_of u) ≡ length (edges_of t) = a.same_length in
    record { wide = omega arith; counted = omega (arith, length-edges t 0, length-edges u 0) }
