-- Prefixes of byte lists.
use Rattle.std.proofs.Common.{◌≡◌, ℕ, zero, suc, ◌+◌, ◌<◌, ◌≤◌, [], ◌∷◌, ◌++◌, length, take, refl, ap, arith, sym, ◌⊎◌, inl, inr, ◌∙◌, length-append, eqb, eq-eqb, true, false}
use Rattle.std.proofs.lemmas.Bool.{eqb-true, false≢true, and_parts, and_from, or_cases, or_left, or_right}
use Rattle.std.proofs.lemmas.Bool.Decides.{eqb_tells}
use Rattle.std.proofs.lemmas.List.{length-take-le}
use Rattle.blart_keys.specs.Bytes.{begins, related, common}
use Rattle.blart_keys.proofs.ByteLemmas.{common-begins_left, common-begins_right, common-greatest as common-begins_greatest}
use Rattle.art_tree.specs.Begins.{Bytes, Begins, next_byte}

-- ---- the fact and the test

-- if the test is true, the fact holds
pub Begins-from_begins : (g k : Bytes) → begins g k ≡ true → Begins g k
Begins-from_begins [] k h = tt
Begins-from_begins (x ∷ g) [] h = absurd (false≢true h)
Begins-from_begins (x ∷ g) (y ∷ k) h = let p = and_parts (eqb x y) (begins g k) h in (eqb-true x y p.0, Begins-from_begins g k p.1)

-- if the fact holds, the test is true
pub begins-from_Begins : (g k : Bytes) → Begins g k → begins g k ≡ true
begins-from_Begins [] k b = refl
begins-from_Begins (x ∷ g) [] b = absurd b
begins-from_Begins (x ∷ g) (y ∷ k) b = and_from _ _ (eq-eqb x y b.0) (begins-from_Begins g k b.1)

-- if two lists are related, one is a prefix of the other
pub related_cases : (a b : Bytes) → related a b ≡ true → Begins a b ⊎ Begins b a
related_cases a b h = elim (or_cases (begins a b) (begins b a) h) [ inl l ↦ inl (Begins-from_begins a b l) | inr r ↦ inr (Begins-from_begins b a r) ]

-- a prefix of a list is related to it
pub related-from_front : (a b : Bytes) → Begins a b → related a b ≡ true
related-from_front a b h = or_left (begins a b) (begins b a) (begins-from_Begins a b h)

-- a list is related to each of its prefixes
pub related-from_begun : (a b : Bytes) → Begins b a → related a b ≡ true
related-from_begun a b h = or_right (begins a b) (begins b a) (begins-from_Begins b a h)

-- the longest common prefix is a prefix of the first list
pub common-left : (a b : Bytes) → Begins (common a b) a
common-left a b = Begins-from_begins (common a b) a (common-begins_left a b)

-- the longest common prefix is a prefix of the second list
pub common-right : (a b : Bytes) → Begins (common a b) b
common-right a b = Begins-from_begins (common a b) b (common-begins_right a b)

-- each common prefix is a prefix of the longest one
pub common-greatest : (f a b : Bytes) → Begins f a → Begins f b → Begins f (common a b)
common-greatest f a b ha hb = Begins-from_begins f (common a b) (common-begins_greatest f a b (begins-from_Begins f a ha) (begins-from_Begins f b hb))

-- ---- prefixes

-- a prefix is no longer than the key
pub Begins-length : (g k : Bytes) → Begins g k → length g ≤ length k
Begins-length [] k b = omega arith
Begins-length (x ∷ g) [] b = absurd b
Begins-length (x ∷ g) (y ∷ k) b = omega (arith, Begins-length g k b.1)

-- the longest common prefix is no longer than either list
pub common-in_left : (a b : Bytes) → length (common a b) ≤ length a
common-in_left a b = Begins-length (common a b) a (common-left a b)

pub common-in_right : (a b : Bytes) → length (common a b) ≤ length b
common-in_right a b = Begins-length (common a b) b (common-right a b)

-- a shorter prefix of a key, and the next byte, are a prefix of the key
pub Begins-more : (g k : Bytes) → Begins g k → length g < length k → Begins (g ++ next_byte g k ∷ []) k
Begins-more [] [] b h = omega arith
Begins-more [] (y ∷ k) b h = (refl, tt)
Begins-more (x ∷ g) [] b h = absurd b
Begins-more (x ∷ g) (y ∷ k) b h = (b.0, Begins-more g k b.1 (omega arith))

-- a prefix of a prefix is a prefix
pub Begins-trans : (f g k : Bytes) → Begins f g → Begins g k → Begins f k
Begins-trans [] g k a b = tt
Begins-trans (x ∷ f) [] k a b = absurd a
Begins-trans (x ∷ f) (y ∷ g) [] a b = absurd b
Begins-trans (x ∷ f) (y ∷ g) (z ∷ k) a b = (cc, Begins-trans f g k a.1 b.1)

-- each list is a prefix of itself
pub Begins-itself : (k : Bytes) → Begins k k
Begins-itself [] = tt
Begins-itself (x ∷ k) = (refl, Begins-itself k)

-- the byte after a prefix is the next byte
pub Begins-next : (g k : Bytes) (b : ℕ) → Begins (g ++ b ∷ []) k → next_byte g k ≡ b
Begins-next [] [] b h = absurd h
Begins-next [] (y ∷ k) b h = sym h.0
Begins-next (x ∷ g) [] b h = absurd h
Begins-next (x ∷ g) (y ∷ k) b h = Begins-next g k b h.1

-- of two prefixes of a key, the shorter is a prefix of the longer
pub Begins-linear : (f g k : Bytes) → Begins f k → Begins g k → length f ≤ length g → Begins f g
Begins-linear [] g k a b l = tt
Begins-linear (x ∷ f) [] k a b l = omega arith
Begins-linear (x ∷ f) (y ∷ g) [] a b l = absurd a
Begins-linear (x ∷ f) (y ∷ g) (z ∷ k) a b l = (a.0 ∙ sym b.0, Begins-linear f g k a.1 b.1 (omega arith))

-- a prefix that is longer than t continues with the key's next byte
pub Begins-past : (t g k : Bytes) → Begins t k → Begins g k → length t < length g → Begins (t ++ next_byte t k ∷ []) g
Begins-past t g k a b l =
    let h : length g ≤ length k = Begins-length g k b in
    Begins-linear (t ++ next_byte t k ∷ []) g k (Begins-more t k a (omega arith)) b (omega (arith, length-append t (next_byte t k ∷ [])))

-- the next byte is the same in a longer prefix
pub next_byte-front : (t g k : Bytes) → Begins g k → length t < length g → next_byte t g ≡ next_byte t k
next_byte-front t [] k b l = omega arith
next_byte-front t (y ∷ g) [] b l = absurd b
next_byte-front [] (y ∷ g) (z ∷ k) b l = b.0
next_byte-front (x ∷ t) (y ∷ g) (z ∷ k) b l = next_byte-front t g k b.1 (omega arith)

-- a prefix of the same length is the whole list
pub Begins-equal : (f g : Bytes) → Begins f g → length g ≤ length f → f ≡ g
Begins-equal [] [] b l = refl
Begins-equal [] (y ∷ g) b l = absurd (omega arith)
Begins-equal (x ∷ f) [] b l = absurd b
Begins-equal (x ∷ f) (y ∷ g) b l = let e : x ≡ y = b.0 in let h : f ≡ g = Begins-equal f g b.1 (omega arith) in cc

-- a list that begins with the front of an edge begins with the front of its node
pub Begins-edge_front : (g k : Bytes) (b : ℕ) → Begins (g ++ b ∷ []) k → Begins g k
Begins-edge_front [] k b h = tt
Begins-edge_front (x ∷ g) [] b h = absurd h
Begins-edge_front (x ∷ g) (y ∷ k) b h = (h.0, Begins-edge_front g k b h.1)

-- a list is a prefix of another, or not
pub Begins-cases : (t k : Bytes) → Begins t k ⊎ (Begins t k → ⊥)
Begins-cases [] k = inl tt
Begins-cases (x ∷ t) [] = inr (λ b. b)
Begins-cases (x ∷ t) (y ∷ k) =
    elim (eqb_tells x y) [
      | inl e ↦ elim (Begins-cases t k) [ inl b ↦ inl (e.1, b) | inr never ↦ inr (λ b. never b.1) ]
      | inr e ↦ inr (λ b. e.1 b.0)
    ]

-- two keys with a prefix that a third lacks have the same common prefix with the third
pub common_same : (t a b l : Bytes) → Begins t a → Begins t b → (Begins t l → ⊥) → common a l ≡ common b l
common_same [] a b l ha hb never = absurd (never tt)
common_same (x ∷ t) [] b l ha hb never = absurd ha
common_same (x ∷ t) (y ∷ a) [] l ha hb never = absurd hb
common_same (x ∷ t) (y ∷ a) (z ∷ b) [] ha hb never = refl
common_same (x ∷ t) (y ∷ a) (z ∷ b) (w ∷ l) ha hb never =
    let e : y ≡ z = sym ha.0 ∙ hb.0 in
    elim (eqb_tells y w) [
      | inl p ↦
          let h : common a l ≡ common b l = common_same t a b l ha.1 hb.1 (λ c. never (ha.0 ∙ p.1, c)) in
          let f : eqb y w ≡ eqb z w = ap (λ n. eqb n w) e in
          cc
      | inr p ↦
          let f : eqb z w ≡ false = ap (λ n. eqb n w) (sym e) ∙ p.0 in
          rw (p.0, f) refl
    ]

-- the keys a and l part after t
pub common_at : (t a l : Bytes) → Begins t a → length t < length a → Begins t l → (Begins (t ++ next_byte t a ∷ []) l → ⊥) → common a l ≡ t
common_at [] [] l ha la hl never = absurd (omega arith)
common_at [] (y ∷ a) [] ha la hl never = refl
common_at [] (y ∷ a) (w ∷ l) ha la hl never = elim (eqb_tells y w) [ inl p ↦ absurd (never (p.1, tt)) | inr p ↦ rw p.0 refl ]
common_at (x ∷ t) [] l ha la hl never = absurd ha
common_at (x ∷ t) (y ∷ a) [] ha la hl never = absurd hl
common_at (x ∷ t) (y ∷ a) (w ∷ l) ha la hl never =
    let h : common a l ≡ t = common_at t a l ha.1 (omega arith) hl.1 (λ c. never (hl.0, c)) in
    let e : y ≡ w = sym ha.0 ∙ hl.0 in
    let f : eqb y w ≡ true = eq-eqb y w e in
    let g : y ≡ x = sym ha.0 in
    rw (f, g, h) refl

-- the order of the two keys does not matter
pub common_comm : (a b : Bytes) → common a b ≡ common b a
common_comm [] [] = refl
common_comm [] (y ∷ b) = refl
common_comm (x ∷ a) [] = refl
common_comm (x ∷ a) (y ∷ b) =
    elim (eqb_tells x y) [
      | inl p ↦
          let h : common a b ≡ common b a = common_comm a b in
          let e : x ≡ y = p.1 in
          let f : eqb y x ≡ true = eq-eqb y x (sym e) in
          rw (p.0, f, h, e) refl
      | inr p ↦
          elim (eqb_tells y x) [
            | inl q ↦ absurd (p.1 (sym q.1))
            | inr q ↦ rw (p.0, q.0) refl
          ]
    ]

-- two lists are equal or not
pub Bytes-cases : (a b : Bytes) → (a ≡ b) ⊎ (a ≡ b → ⊥)
Bytes-cases [] [] = inl refl
Bytes-cases [] (y ∷ b) = inr (λ e. cc)
Bytes-cases (x ∷ a) [] = inr (λ e. cc)
Bytes-cases (x ∷ a) (y ∷ b) =
    elim (eqb_tells x y) [
      | inl p ↦ elim (Bytes-cases a b) [ inl q ↦ inl (let h : x ≡ y = p.1 in cc) | inr q ↦ inr (λ e. q cc) ]
      | inr p ↦ inr (λ e. p.1 cc)
    ]

-- the first bytes of a list are a prefix of it
pub Begins-take : (n : ℕ) (k : Bytes) → Begins (take n k) k
Begins-take zero k = tt
Begins-take (suc n) [] = tt
Begins-take (suc n) (x ∷ k) = (refl, Begins-take n k)

-- a prefix is the first bytes of the key
pub take_front : (g k : Bytes) → Begins g k → take (length g) k ≡ g
take_front g k b =
    let l : length g ≤ length k = Begins-length g k b in
    let e : length (take (length g) k) ≡ length g = length-take-le (length g) k l in
    Begins-equal (take (length g) k) g (Begins-linear (take (length g) k) g k (Begins-take (length g) k) b (omega arith)) (omega arith)

-- a common prefix of two lists is no longer than their longest one
pub common_length : (f a b : Bytes) → Begins f a → Begins f b → length f ≤ length (common a b)
common_length f a b ha hb = Begins-length f (common a b) (common-greatest f a b ha hb)

-- the front of an edge has at least one byte
pub edge_some : (f : Bytes) (b : ℕ) → f ++ b ∷ [] ≡ [] → ⊥
edge_some f b e = let l : length (f ++ b ∷ []) ≡ 0 = ap length e in let k : length (f ++ b ∷ []) ≡ length f + 1 = length-append f (b ∷ []) in omega arith
