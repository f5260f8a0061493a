-- A node is added to a kind, is removed from it, or moves to the next kind.
use Rattle.std.proofs.Common.{◌≡◌, ◌≢◌, ℕ, zero, suc, ◌+◌, ◌-◌, ◌*◌, ◌/◌, ◌%◌, ◌<◌, ◌≤◌, length, Some, None, refl, sym, ap, subst, ◌∙◌, inl, inr, arith, le_trans}
use Rattle.std.proofs.Math.Nat.{mul-le-mul_left}
use Rattle.std.proofs.lemmas.Bool.{cases_eq}
use Rattle.std.proofs.lemmas.Bool.Decides.{leb_tells}
use Rattle.art_kinds.specs.Nodes.{Node, Nodes, store_of, at, over, grown, floor, places, takes, figure, serves, HasPlace, FitsMore, Lowers, MoreSpares, Renames, room}
use Rattle.art_slots.specs.Store.{Store, slot_at}
use Rattle.art_kinds.specs.OneKinds.{Grows}
use Rattle.art_kinds.proofs.Rooms.{grown-change, grown-same, grown-least, serves-one-4, serves-one-13, serves-one-33, room-figures, serves-grown, serves-less, serves-4, serves-13, serves-33, room-falls}

-- the node under a number, by kind and place
pub at_is : (s : Nodes) (n d i : ℕ) → n % 4 ≡ d → n / 4 ≡ i → at s n ≡ slot_at (store_of s d) i
at_is s n d i p q = ap (λ j. slot_at (store_of s j) (n / 4)) p ∙ ap (slot_at (store_of s d)) q

-- more spare records are enough for no fewer placements
pub serves-more : (m n c g : ℕ) → m ≤ n → serves m c g ≤ serves n c g
serves-more m n c g l = let h : c * m ≤ c * n = mul-le-mul_left c l in omega arith

-- a node that outgrows its kind uses a spare record of the next, which costs at most one placement
pub serves-falls : (d : ℕ) → d < 3 → (m n g h : ℕ) → n + 1 ≡ m → h + (places d - floor d) ≡ g → serves m (takes d) g ≤ serves n (takes d) h + 1
serves-falls zero l m n g h e f = serves-4 m n g h e f
serves-falls (suc zero) l m n g h e f = serves-13 m n g h e f
serves-falls (suc (suc zero)) l m n g h e f = serves-33 m n g h e f
serves-falls (suc (suc (suc d))) l m n g h e f = absurd (omega arith)

-- the floor of the next kind is the number of places of this kind
pub floor-next : (d : ℕ) → d < 3 → floor (suc d) ≡ places d
floor-next zero l = refl
floor-next (suc zero) l = refl
floor-next (suc (suc zero)) l = refl
floor-next (suc (suc (suc d))) l = absurd (omega arith)

-- the figure of a kind above the first does not fall
figure-up : (s t : Nodes) (j : ℕ) → (store_of s (suc j)).spare ≤ (store_of t (suc j)).spare → grown (floor j) (store_of t j) ≤ grown (floor j) (store_of s j) → figure s (suc j) ≤ figure t (suc j)
figure-up s t j e g =
    let a : serves (store_of s (suc j)).spare (takes j) (grown (floor j) (store_of s j)) ≤ serves (store_of s (suc j)).spare (takes j) (grown (floor j) (store_of t j)) = serves-less (store_of s (suc j)).spare (takes j) (grown (floor j) (store_of s j)) (grown (floor j) (store_of t j)) g in
    let b : serves (store_of s (suc j)).spare (takes j) (grown (floor j) (store_of t j)) ≤ serves (store_of t (suc j)).spare (takes j) (grown (floor j) (store_of t j)) = serves-more (store_of s (suc j)).spare (store_of t (suc j)).spare (takes j) (grown (floor j) (store_of t j)) e in
    le_trans a b

-- a node moves from one kind to another: it has another number, and the others are unchanged
pub moves : (s t : Nodes) (d e i j : ℕ) (x : Node) → ((k : ℕ) → k < 4 → k ≢ d → k ≢ e → store_of t k ≡ store_of s k) → slot_at (store_of s d) i ≡ Some x → slot_at (store_of t d) i ≡ None → ((k : ℕ) → k ≢ i → slot_at (store_of t d) k ≡ slot_at (store_of s d) k) → slot_at (store_of s e) j ≡ None → slot_at (store_of t e) j ≡ Some x → ((k : ℕ) → k ≢ j → slot_at (store_of t e) k ≡ slot_at (store_of s e) k) → (n m : ℕ) → n % 4 ≡ d → n / 4 ≡ i → m % 4 ≡ e → m / 4 ≡ j → Renames (at s) (at t) n m
moves s t d e i j x same was gone left fresh is there n m nd ni md mj = record {
  node = x;
  was = at_is s n d i nd ni ∙ was;
  is = at_is t m e j md mj ∙ is;
  fresh = λ off. at_is s m e j md mj ∙ fresh;
  gone = λ off. at_is t n d i nd ni ∙ gone;
  others = λ k offn offm. elim (cases_eq (k % 4) d) [
    | inl p ↦ (
        let far : k / 4 ≢ i = λ r. offn (omega arith) in
        at_is t k d (k / 4) p refl ∙ left (k / 4) far ∙ sym (at_is s k d (k / 4) p refl))
    | inr p ↦ elim (cases_eq (k % 4) e) [
      | inl q ↦ (
          let far : k / 4 ≢ j = λ r. offm (omega arith) in
          at_is t k e (k / 4) q refl ∙ there (k / 4) far ∙ sym (at_is s k e (k / 4) q refl))
      | inr q ↦ ap (λ (u : Store Node). slot_at u (k / 4)) (same (k % 4) (omega arith) p q)
    ]
  ];
}

-- a node moves to the next kind
module _ (s t : Nodes) (d : ℕ) (l : d < 3) (i j : ℕ) (x : Node) (same : (k : ℕ) → k < 4 → k ≢ d → k ≢ suc d → store_of t k ≡ store_of s k) (was : slot_at (store_of s d) i ≡ Some x) (gone : slot_at (store_of t d) i ≡ None) (left : (k : ℕ) → k ≢ i → slot_at (store_of t d) k ≡ slot_at (store_of s d) k) (fresh : slot_at (store_of s (suc d)) j ≡ None) (is : slot_at (store_of t (suc d)) j ≡ Some x) (there : (k : ℕ) → k ≢ j → slot_at (store_of t (suc d)) k ≡ slot_at (store_of s (suc d)) k) where
  module _ (more : (store_of t d).spare ≡ (store_of s d).spare + 1) (less : (store_of t (suc d)).spare + 1 ≡ (store_of s (suc d)).spare) (full : length x.edges ≡ places d) where
    -- the edges above the floor of the kind that it leaves
    leaves_kind : grown (floor d) (store_of t d) + (places d - floor d) ≡ grown (floor d) (store_of s d)
    leaves_kind =
        let e : grown (floor d) (store_of t d) + over (floor d) (slot_at (store_of s d) i) ≡ grown (floor d) (store_of s d) + over (floor d) (slot_at (store_of t d) i) = grown-change (floor d) (store_of s d) (store_of t d) i left in
        let a : over (floor d) (slot_at (store_of s d) i) ≡ length x.edges - floor d = ap (over (floor d)) was in
        let b : over (floor d) (slot_at (store_of t d) i) ≡ 0 = ap (over (floor d)) gone in
        let c : length x.edges - floor d ≡ places d - floor d = ap (λ z. z - floor d) full in
        omega (arith, e, a, b, c)

    -- the edges above the floor of the kind to which it moves
    comes_in : grown (floor (suc d)) (store_of t (suc d)) ≡ grown (floor (suc d)) (store_of s (suc d))
    comes_in =
        let e : grown (floor (suc d)) (store_of t (suc d)) + over (floor (suc d)) (slot_at (store_of s (suc d)) j) ≡ grown (floor (suc d)) (store_of s (suc d)) + over (floor (suc d)) (slot_at (store_of t (suc d)) j) = grown-change (floor (suc d)) (store_of s (suc d)) (store_of t (suc d)) j there in
        let a : over (floor (suc d)) (slot_at (store_of t (suc d)) j) ≡ length x.edges - floor (suc d) = ap (over (floor (suc d))) is in
        let b : over (floor (suc d)) (slot_at (store_of s (suc d)) j) ≡ 0 = ap (over (floor (suc d))) fresh in
        let c : floor (suc d) ≡ places d = floor-next d l in
        omega (arith, e, a, b, c, full)

    -- each other kind has no fewer spare records
    stays : (k : ℕ) → k < 4 → k ≢ d → k ≢ suc d → (store_of s k).spare ≤ (store_of t k).spare
    stays k lt p q = let e : (store_of t k).spare ≡ (store_of s k).spare = ap (λ (u : Store Node). u.spare) (same k lt p q) in omega arith

    off_this : (k : ℕ) → k < 4 → k ≢ suc d → (store_of s k).spare ≤ (store_of t k).spare
    off_this k lt off = elim (cases_eq k d) [
      | inl p ↦ subst (λ z. (store_of s z).spare ≤ (store_of t z).spare) (sym p) (let e = more in omega arith)
      | inr p ↦ stays k lt p off
    ]

    no_more : (k : ℕ) → k < 4 → k ≢ d → grown (floor k) (store_of t k) ≤ grown (floor k) (store_of s k)
    no_more k lt off = elim (cases_eq k (suc d)) [
      | inl p ↦ subst (λ z. grown (floor z) (store_of t z) ≤ grown (floor z) (store_of s z)) (sym p) (let e = comes_in in omega arith)
      | inr p ↦ (let e : grown (floor k) (store_of t k) ≡ grown (floor k) (store_of s k) = ap (grown (floor k)) (same k lt off p) in omega arith)
    ]

    others_up : (k : ℕ) → k < 4 → k ≢ suc d → figure s k ≤ figure t k
    others_up zero lt off = off_this 0 lt off
    others_up (suc k) lt off = figure-up s t k (off_this (suc k) lt off) (no_more k (omega arith) (λ e. off (omega (arith, e))))

    -- the figure of the kind to which it moves falls by at most one, and no other figure falls
    pub grows : Lowers (suc d) s t
    grows = record {
      this = serves-falls d l (store_of s (suc d)).spare (store_of t (suc d)).spare (grown (floor d) (store_of s d)) (grown (floor d) (store_of t d)) less leaves_kind;
      others = others_up;
    }

-- a node with two children is added
module _ (s t : Nodes) (i : ℕ) (x : Node) (same : (k : ℕ) → k < 4 → k ≢ 0 → store_of t k ≡ store_of s k) (fresh : slot_at s.fours i ≡ None) (is : slot_at t.fours i ≡ Some x) (others : (k : ℕ) → k ≢ i → slot_at t.fours k ≡ slot_at s.fours k) (less : t.fours.spare + 1 ≡ s.fours.spare) (two : length x.edges ≡ 2) where
  one_more : grown 1 t.fours ≡ grown 1 s.fours + 1
  one_more =
      let e : grown 1 t.fours + over 1 (slot_at s.fours i) ≡ grown 1 s.fours + over 1 (slot_at t.fours i) = grown-change 1 s.fours t.fours i others in
      let a : over 1 (slot_at s.fours i) ≡ 0 = ap (over 1) fresh in
      let b : over 1 (slot_at t.fours i) ≡ length x.edges - 1 = ap (over 1) is in
      omega (arith, e, a, b, two)

  made_figures : (k : ℕ) → k < 4 → figure s k ≤ figure t k + 1
  made_figures zero lt = omega (arith, less)
  made_figures (suc zero) lt =
      let e : t.sixteens.spare ≡ s.sixteens.spare = ap (λ (u : Store Node). u.spare) (same 1 (omega arith) (λ z. omega (arith, z))) in
      let h : serves s.sixteens.spare 4 (grown 1 s.fours) ≤ serves s.sixteens.spare 4 (grown 1 t.fours) + 1 = serves-grown s.sixteens.spare 4 (grown 1 s.fours) (grown 1 t.fours) (let o = one_more in omega arith) in
      subst (λ z. figure s 1 ≤ serves z 4 (grown 1 t.fours) + 1) (sym e) h
  made_figures (suc (suc k)) lt =
      let e : (store_of t (suc (suc k))).spare ≡ (store_of s (suc (suc k))).spare = ap (λ (u : Store Node). u.spare) (same (suc (suc k)) lt (λ z. omega (arith, z))) in
      let g : grown (floor (suc k)) (store_of t (suc k)) ≡ grown (floor (suc k)) (store_of s (suc k)) = ap (grown (floor (suc k))) (same (suc k) (omega arith) (λ z. omega (arith, z))) in
      let h : figure s (suc (suc k)) ≤ figure t (suc (suc k)) = figure-up s t (suc k) (omega arith) (omega arith) in
      omega arith

  -- the room falls by at most one
  pub makes-room : room s ≤ room t + 1
  makes-room = room-falls s t made_figures

-- a node is removed
module _ (s t : Nodes) (d i : ℕ) (l : d < 4) (same : (k : ℕ) → k < 4 → k ≢ d → store_of t k ≡ store_of s k) (gone : slot_at (store_of t d) i ≡ None) (others : (k : ℕ) → k ≢ i → slot_at (store_of t d) k ≡ slot_at (store_of s d) k) (more : (store_of t d).spare ≡ (store_of s d).spare + 1) where
  fewer_edges : grown (floor d) (store_of t d) ≤ grown (floor d) (store_of s d)
  fewer_edges =
      let e : grown (floor d) (store_of t d) + over (floor d) (slot_at (store_of s d) i) ≡ grown (floor d) (store_of s d) + over (floor d) (slot_at (store_of t d) i) = grown-change (floor d) (store_of s d) (store_of t d) i others in
      let b : over (floor d) (slot_at (store_of t d) i) ≡ 0 = ap (over (floor d)) gone in
      omega (arith, e, b)

  more_spares : (k : ℕ) → k < 4 → (store_of s k).spare ≤ (store_of t k).spare
  more_spares k lt = elim (cases_eq k d) [
    | inl p ↦ subst (λ z. (store_of s z).spare ≤ (store_of t z).spare) (sym p) (omega (arith, more))
    | inr p ↦ (let e : (store_of t k).spare ≡ (store_of s k).spare = ap (λ (u : Store Node). u.spare) (same k lt p) in omega arith)
  ]

  no_edges : (k : ℕ) → k < 4 → grown (floor k) (store_of t k) ≤ grown (floor k) (store_of s k)
  no_edges k lt = elim (cases_eq k d) [
    | inl p ↦ subst (λ z. grown (floor z) (store_of t z) ≤ grown (floor z) (store_of s z)) (sym p) fewer_edges
    | inr p ↦ (let e : grown (floor k) (store_of t k) ≡ grown (floor k) (store_of s k) = ap (grown (floor k)) (same k lt p) in omega arith)
  ]

  -- no figure falls
  pub freed-spares : MoreSpares s t
  freed-spares zero lt = more_spares 0 lt
  freed-spares (suc k) lt = figure-up s t k (more_spares (suc k) lt) (no_edges k (omega arith))

-- a node with fewer children than its kind has places has a place for one more edge
pub has_place : (t : Nodes) (m d j : ℕ) (x : Node) → m % 4 ≡ d → m / 4 ≡ j → slot_at (store_of t d) j ≡ Some x → (d < 3 → length x.edges < places d) → HasPlace t m
has_place t m d j x md mj is few z e l =
    let f : Some z ≡ Some x = sym e ∙ at_is t m d j md mj ∙ is in
    let g : x ≡ z = cc in
    let h : length x.edges < places d = few (omega arith) in
    subst (λ (y : Node). length y.edges < places (m % 4)) g (subst (λ k. length x.edges < places k) (sym md) h)

-- four stores whose nodes are unchanged
module _ (s t : Nodes) (k0 : Grows s.fours t.fours) (k1 : Grows s.sixteens t.sixteens)
    (k2 : Grows s.forty_eights t.forty_eights) (k3 : Grows s.fulls t.fulls) where
  kept_of : (k : ℕ) → Grows (store_of s k) (store_of t k)
  kept_of zero = k0
  kept_of (suc zero) = k1
  kept_of (suc (suc zero)) = k2
  kept_of (suc (suc (suc k))) = k3

  pub kept_nodes : (j : ℕ) → at t j ≡ at s j
  kept_nodes j = (kept_of (j % 4)).same (j / 4)

  pub kept_spares : MoreSpares s t
  kept_spares zero l = k0.spare
  kept_spares (suc k) l =
      let e : grown (floor k) (store_of t k) ≡ grown (floor k) (store_of s k) = grown-same (floor k) (store_of s k) (store_of t k) (kept_of k).same in
      figure-up s t k (kept_of (suc k)).spare (omega arith)

-- the spare records are enough for n placements
pub enough : (d : ℕ) → d < 3 → (n l g m : ℕ) → g ≤ (places d - floor d) * l → (n ≤ l → n ≤ m) → (l < n → l + (n - l) / takes d ≤ m) → n ≤ serves m (takes d) g
enough zero dl n l g m h few many = elim (leb_tells n l) [
  | inl p ↦ (let q : n ≤ m = few p.1 in omega arith)
  | inr p ↦ (let r : l < n = p.1 in let q : l + (n - l) / 4 ≤ m = many r in let k : g ≤ 3 * l = h in omega arith)
]
enough (suc zero) dl n l g m h few many = elim (leb_tells n l) [
  | inl p ↦ (let q : n ≤ m = few p.1 in omega arith)
  | inr p ↦ (let r : l < n = p.1 in let q : l + (n - l) / 13 ≤ m = many r in let k : g ≤ 12 * l = h in omega arith)
]
enough (suc (suc zero)) dl n l g m h few many = elim (leb_tells n l) [
  | inl p ↦ (let q : n ≤ m = few p.1 in omega arith)
  | inr p ↦ (let r : l < n = p.1 in let q : l + (n - l) / 33 ≤ m = many r in let k : g ≤ 32 * l = h in omega arith)
]
enough (suc (suc (suc d))) dl n l g m h few many = absurd (omega arith)

-- if there is room, each node has a place or a spare record for one more edge
pub fits_more : (s : Nodes) (n : ℕ) → 1 ≤ room s → FitsMore s n
fits_more s n h x is l full = by_kind (n % 4) refl l
  where
    by_kind : (d : ℕ) → n % 4 ≡ d → d < 3 → 0 < (store_of s (n % 4 + 1)).spare
    by_kind zero e k =
        let w : at s n ≡ slot_at s.fours (n / 4) = at_is s n 0 (n / 4) e refl in
        let o : over 1 (slot_at s.fours (n / 4)) ≡ length x.edges - 1 = ap (over 1) (sym w ∙ is) in
        let f : 4 ≤ length x.edges = subst (λ z. places z ≤ length x.edges) e full in
        let g : 3 ≤ grown 1 s.fours = omega (arith, grown-least 1 s.fours (n / 4)) in
        subst (λ z. 0 < (store_of s (z + 1)).spare) (sym e) (serves-one-4 s.sixteens.spare (grown 1 s.fours) (room-figures s 1 h).1 g)
    by_kind (suc zero) e k =
        let w : at s n ≡ slot_at s.sixteens (n / 4) = at_is s n 1 (n / 4) e refl in
        let o : over 4 (slot_at s.sixteens (n / 4)) ≡ length x.edges - 4 = ap (over 4) (sym w ∙ is) in
        let f : 16 ≤ length x.edges = subst (λ z. places z ≤ length x.edges) e full in
        let g : 12 ≤ grown 4 s.sixteens = omega (arith, grown-least 4 s.sixteens (n / 4)) in
        subst (λ z. 0 < (store_of s (z + 1)).spare) (sym e) (serves-one-13 s.forty_eights.spare (grown 4 s.sixteens) (room-figures s 1 h).2 g)
    by_kind (suc (suc zero)) e k =
        let w : at s n ≡ slot_at s.forty_eights (n / 4) = at_is s n 2 (n / 4) e refl in
        let o : over 16 (slot_at s.forty_eights (n / 4)) ≡ length x.edges - 16 = ap (over 16) (sym w ∙ is) in
        let f : 48 ≤ length x.edges = subst (λ z. places z ≤ length x.edges) e full in
        let g : 32 ≤ grown 16 s.forty_eights = omega (arith, grown-least 16 s.forty_eights (n / 4)) in
        subst (λ z. 0 < (store_of s (z + 1)).spare) (sym e) (serves-one-33 s.fulls.spare (grown 16 s.forty_eights) (room-figures s 1 h).3 g)
    by_kind (suc (suc (suc d))) e k = absurd (omega arith)
