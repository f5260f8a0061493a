-- How often a number is in a list.
use Rattle.std.proofs.Common.{◌≡◌, ◌≢◌, ◌⊎◌, ℕ, zero, suc, ◌+◌, ◌<◌, ◌≤◌, List, [], ◌∷◌, ◌++◌, length, take, drop, get_or, set, refl, sym, ap, ◌∙◌, true, false, cond, eqb, eq-eqb, inl, inr, arith}
use Rattle.std.proofs.lemmas.Bool.Decides.{eqb_tells}
use Rattle.std.proofs.lemmas.List.{take-append-drop, take-take}
use Rattle.std.proofs.lemmas.List.Sums.{sum_by-append, sum_by-cons, sum_by-set}
use Rattle.std.specs.List.{range_with_len}
use Rattle.art_slots.specs.Words.{times}
use Rattle.art_rows.specs.Rows.{among, index_in}
use Rattle.art_rows.proofs.NumbersLemmas.{eqb_same, eqb_other}

times-same : (m : ℕ) (ns : List ℕ) (n : ℕ) → eqb m n ≡ true → times (m ∷ ns) n ≡ times ns n + 1
times-same m ns n t = sum_by-cons (λ k. cond (eqb k n) 1 0) m ns ∙ rw t (omega arith)

times-other : (m : ℕ) (ns : List ℕ) (n : ℕ) → eqb m n ≡ false → times (m ∷ ns) n ≡ times ns n
times-other m ns n t = sum_by-cons (λ k. cond (eqb k n) 1 0) m ns ∙ rw t (omega arith)

times-append : (xs ys : List ℕ) (n : ℕ) → times (xs ++ ys) n ≡ times xs n + times ys n
times-append xs ys n = sum_by-append (λ k. cond (eqb k n) 1 0) xs ys

-- a number that occurs 0 times is not in the list
pub among-times : (ns : List ℕ) (n : ℕ) → times ns n ≡ 0 → among ns n ≡ false
among-times [] n e = refl
among-times (m ∷ ns) n e = elim (eqb_tells m n) [
  | inl t ↦ absurd (let a = times-same m ns n t.0 in omega arith)
  | inr t ↦ (let a = times-other m ns n t.0 in rw t.0 (among-times ns n (omega arith)))
]

-- a number occurs among the first k at most as often as in the list
pub times-take : (ns : List ℕ) (k n : ℕ) → times (take k ns) n ≤ times ns n
times-take ns k n =
    let a = times-append (take k ns) (drop k ns) n in
    let b : times (take k ns ++ drop k ns) n ≡ times ns n = ap (λ l. times l n) (take-append-drop k ns) in
    omega arith

-- the number at an index occurs in the list
pub next_there : (ns : List ℕ) (k d : ℕ) → k < length ns → 0 < times ns (get_or ns k d)
next_there [] k d l = absurd (omega arith)
next_there (m ∷ ns) zero d l = (let e = times-same m ns m (eqb_same m) in omega arith)
next_there (m ∷ ns) (suc k) d l = elim (eqb_tells m (get_or ns k d)) [
  | inl t ↦ (let e = times-same m ns (get_or ns k d) t.0 in omega arith)
  | inr t ↦ (let e = times-other m ns (get_or ns k d) t.0 in let i = next_there ns k d (omega arith) in omega arith)
]

-- a number that is in the list occurs there
pub times-among : (ns : List ℕ) (n : ℕ) → among ns n ≡ true → 0 < times ns n
times-among [] n h = (let f : false ≡ true = h in absurd cc)
times-among (m ∷ ns) n h = elim (eqb_tells m n) [
  | inl t ↦ (let e = times-same m ns n t.0 in omega arith)
  | inr t ↦ (let e = times-other m ns n t.0 in let i = times-among ns n (rw t.0 at h) in omega arith)
]

-- a number that occurs once has one index
pub once_at : (ns : List ℕ) (n k d : ℕ) → times ns n ≡ 1 → k < length ns → get_or ns k d ≡ n → index_in ns n ≡ k
once_at [] n k d o l e = absurd (omega arith)
once_at (m ∷ ns) n zero d o l e = rw (eq-eqb m n e) refl
once_at (m ∷ ns) n (suc k) d o l e = elim (eqb_tells m n) [
  | inl t ↦ absurd (let a = times-same m ns n t.0 in let b : 0 < times ns (get_or ns k d) = next_there ns k d (omega arith) in let c : 0 < times ns n = rw e at b in omega arith)
  | inr t ↦ (let a = times-other m ns n t.0 in rw t.0 (ap suc (once_at ns n k d (omega arith) (omega arith) e)))
]

-- a number that occurs is in the list
pub among-once : (ns : List ℕ) (n : ℕ) → 0 < times ns n → among ns n ≡ true
among-once [] n h = absurd (let z : times [] n ≡ 0 = refl in omega arith)
among-once (m ∷ ns) n h = elim (eqb_tells m n) [
  | inl t ↦ rw t.0 refl
  | inr t ↦ (let e = times-other m ns n t.0 in rw t.0 (among-once ns n (omega arith)))
]

-- a number less than the first of a range, or greater than the last, is not in the range
pub times-range-outside : (first n c : ℕ) → (c < first) ⊎ (first + n ≤ c) → times (range_with_len first n) c ≡ 0
times-range-outside first zero c h = refl
times-range-outside first (suc n) c h =
    let e : eqb first c ≡ false = eqb_other first c (elim h [ inl l ↦ λ s. omega arith | inr l ↦ λ s. omega arith ]) in
    let a : times (range_with_len first (suc n)) c ≡ times (range_with_len (first + 1) n) c = times-other first (range_with_len (first + 1) n) c e in
    a ∙ times-range-outside (first + 1) n c (elim h [ inl l ↦ inl (omega arith) | inr l ↦ inr (omega arith) ])

-- no number occurs twice in a range
pub times-range : (first n c : ℕ) → times (range_with_len first n) c ≤ 1
times-range first zero c = (let z : times (range_with_len first 0) c ≡ 0 = refl in omega arith)
times-range first (suc n) c = elim (eqb_tells first c) [
  | inl t ↦ (
      let a : times (range_with_len first (suc n)) c ≡ times (range_with_len (first + 1) n) c + 1 = times-same first (range_with_len (first + 1) n) c t.0 in
      let b = times-range-outside (first + 1) n c (inl (omega (arith, t.1))) in
      omega arith)
  | inr t ↦ (
      let a : times (range_with_len first (suc n)) c ≡ times (range_with_len (first + 1) n) c = times-other first (range_with_len (first + 1) n) c t.0 in
      let b = times-range (first + 1) n c in
      omega arith)
]

-- what a list has after one of its numbers was replaced by a number that it did not have
pub record Replaced (ns : List ℕ) (out new n : ℕ) : Type 0 where
  pub once : times ns n ≤ 1
  pub other : n ≢ out
  pub kept : (n ≡ new) ⊎ ((n ≢ new) × (0 < times ns n))

pub replaced : (ns : List ℕ) (k out new n : ℕ) → k < length ns → get_or ns k 0 ≡ out → out ≢ new → times ns new ≡ 0 → ((m : ℕ) → times ns m ≤ 1) → 0 < times (set ns k new) n → (times (set ns k new) n ≤ 1) × Replaced ns out new n
replaced ns k out new n l e ne none once h =
    let s : times (set ns k new) n + cond (eqb (get_or ns k 0) n) 1 0 ≡ times ns n + cond (eqb new n) 1 0 = sum_by-set (λ m. cond (eqb m n) 1 0) ns k new 0 l in
    let q : times (set ns k new) n + cond (eqb out n) 1 0 ≡ times ns n + cond (eqb new n) 1 0 = rw e at s in
    let o = once n in
    elim (eqb_tells new n) [
      | inl t ↦
          let z : times ns n ≡ 0 = ap (times ns) (sym t.1) ∙ none in
          let f : eqb out n ≡ false = eqb_other out n (λ x. ne (x ∙ sym t.1)) in
          let g : times (set ns k new) n + 0 ≡ times ns n + 1 = rw (f, t.0) at q in
          (omega arith, record { once = omega arith; other = λ x. ne (sym x ∙ sym t.1); kept = inl (sym t.1) })
      | inr t ↦ elim (eqb_tells out n) [
        | inl u ↦ (let g : times (set ns k new) n + 1 ≡ times ns n + 0 = rw (u.0, t.0) at q in absurd (omega arith))
        | inr u ↦
            let g : times (set ns k new) n + 0 ≡ times ns n + 0 = rw (u.0, t.0) at q in
            (omega arith, record { once = o; other = λ x. u.1 (sym x); kept = inr (λ x. t.1 (sym x), omega arith) })
      ]
    ]

-- the number at an index is not among the numbers before it, if it is in the list once
pub next_fresh : (ns : List ℕ) (m k d : ℕ) → m ≤ k → k < length ns → times ns (get_or ns k d) ≤ 1 → among (take m ns) (get_or ns k d) ≡ false
next_fresh ns m k d le l o =
    let z = go ns k l o in
    let e : take m (take k ns) ≡ take m ns = take-take m k ns le in
    let t : times (take m (take k ns)) (get_or ns k d) ≤ times (take k ns) (get_or ns k d) = times-take (take k ns) m (get_or ns k d) in
    let u : times (take m ns) (get_or ns k d) ≤ times (take k ns) (get_or ns k d) = rw e at t in
    among-times (take m ns) (get_or ns k d) (omega arith)
  where
    go : (ns : List ℕ) (k : ℕ) → k < length ns → times ns (get_or ns k d) ≤ 1 → times (take k ns) (get_or ns k d) ≡ 0
    go [] k l h = absurd (omega arith)
    go (m ∷ ns) zero l h = refl
    go (m ∷ ns) (suc k) l h = elim (eqb_tells m (get_or ns k d)) [
      | inl t ↦ absurd (let a = times-same m ns (get_or ns k d) t.0 in let b = next_there ns k d (omega arith) in omega arith)
      | inr t ↦ (let a = times-other m ns (get_or ns k d) t.0 in times-other m (take k ns) (get_or ns k d) t.0 ∙ go ns k (omega arith) (omega arith))
    ]
