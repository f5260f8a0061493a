-- For how many placements the spare records are enough.
use Rattle.std.proofs.Common.{◌≡◌, ◌≢◌, ℕ, suc, ◌+◌, ◌*◌, ◌<◌, ◌≤◌, List, [], ◌∷◌, length, get_or, Option, Some, None, is_some, count_by, sum_by, refl, sym, subst, ◌∙◌, inl, inr, arith}
use Rattle.std.specs.Prelude.{min}
use Rattle.std.proofs.lemmas.Bool.{cases_eq}
use Rattle.std.proofs.lemmas.List.Sums.{sum_by-cons}
use Rattle.art_slots.specs.Store.{Store, slot_at, used_count}
use Rattle.art_kinds.specs.Nodes.{Node, Nodes, over, grown, serves, figure, room, Lowers, SameSpares, MoreSpares}
use Rattle.art_slots.proofs.StoreSlots.{one, sum-same, sum-change, sum-least}

-- how a change of one record changes the number of edges above a floor
pub grown-change : (f : ℕ) (s t : Store Node) (i : ℕ) → ((j : ℕ) → j ≢ i → slot_at t j ≡ slot_at s j) → grown f t + over f (slot_at s i) ≡ grown f s + over f (slot_at t i)
grown-change f s t i h = sum-change (over f) refl s.slots t.slots i h

pub grown-same : (f : ℕ) (s t : Store Node) → ((j : ℕ) → slot_at t j ≡ slot_at s j) → grown f t ≡ grown f s
grown-same f s t h = sum-same (over f) refl s.slots t.slots h

pub grown-least : (f : ℕ) (s : Store Node) (i : ℕ) → over f (slot_at s i) ≤ grown f s
grown-least f s i = sum-least (over f) refl s.slots i

-- nodes with at most f + p children have at most p children each above the floor f
grown-most-in : (f p : ℕ) (xs : List (Option Node)) → ((i : ℕ) (x : Node) → get_or xs i None ≡ Some x → length x.edges ≤ f + p) → sum_by (over f) xs ≤ p * count_by is_some xs
grown-most-in f p [] h = omega arith
grown-most-in f p (None ∷ xs) h =
    let ih : sum_by (over f) xs ≤ p * count_by is_some xs = grown-most-in f p xs (λ i. h (suc i)) in
    let c : count_by is_some (None ∷ xs) ≡ count_by is_some xs = omega (arith, sum_by-cons one None xs) in
    rw c (omega (arith, ih, sum_by-cons (over f) None xs))
grown-most-in f p (Some x ∷ xs) h =
    let ih : sum_by (over f) xs ≤ p * count_by is_some xs = grown-most-in f p xs (λ i. h (suc i)) in
    let l : length x.edges ≤ f + p = h 0 x refl in
    let c : count_by is_some (Some x ∷ xs) ≡ count_by is_some xs + 1 = omega (arith, sum_by-cons one (Some x) xs) in
    rw c (omega (arith, ih, l, sum_by-cons (over f) (Some x) xs))

pub grown-most : (f p : ℕ) (s : Store Node) → ((i : ℕ) (x : Node) → slot_at s i ≡ Some x → length x.edges ≤ f + p) → grown f s ≤ p * used_count s
grown-most f p s h = grown-most-in f p s.slots h

-- one more edge above the floor costs at most one placement
pub serves-grown : (m c g h : ℕ) → h ≤ g + 1 → serves m c g ≤ serves m c h + 1
serves-grown m c g h l = omega arith

-- fewer edges cost no placement
pub serves-less : (m c g h : ℕ) → h ≤ g → serves m c g ≤ serves m c h
serves-less m c g h l = omega arith

-- a node that outgrows a kind uses a spare record, which costs at most one placement
pub serves-4 : (m n g h : ℕ) → n + 1 ≡ m → h + 3 ≡ g → serves m 4 g ≤ serves n 4 h + 1
serves-4 m n g h l e = omega arith

pub serves-13 : (m n g h : ℕ) → n + 1 ≡ m → h + 12 ≡ g → serves m 13 g ≤ serves n 13 h + 1
serves-13 m n g h l e = omega arith

pub serves-33 : (m n g h : ℕ) → n + 1 ≡ m → h + 32 ≡ g → serves m 33 g ≤ serves n 33 h + 1
serves-33 m n g h l e = omega arith

-- if a node is about to outgrow its kind, and a placement is served, there is a spare record
pub serves-one-4 : (m g : ℕ) → 0 < serves m 4 g → 3 ≤ g → 0 < m
serves-one-4 m g h l = omega arith

pub serves-one-13 : (m g : ℕ) → 0 < serves m 13 g → 12 ≤ g → 0 < m
serves-one-13 m g h l = omega arith

pub serves-one-33 : (m g : ℕ) → 0 < serves m 33 g → 32 ≤ g → 0 < m
serves-one-33 m g h l = omega arith

-- if four numbers fall by at most one, so does the least of them
at_most : (a b c d w x y z : ℕ) → a ≤ w + 1 → b ≤ x + 1 → c ≤ y + 1 → d ≤ z + 1 → min (min a b) (min c d) ≤ min (min w x) (min y z) + 1
at_most a b c d w x y z p q r s = omega arith

-- a number that is at most the least of four is at most each of them
least_of : (n a b c d : ℕ) → n ≤ min (min a b) (min c d) → (n ≤ a) × (n ≤ b) × (n ≤ c) × (n ≤ d)
least_of n a b c d h = (omega arith, omega arith, omega arith, omega arith)

all_of : (n a b c d : ℕ) → n ≤ a → n ≤ b → n ≤ c → n ≤ d → n ≤ min (min a b) (min c d)
all_of n a b c d p q r s = omega arith

-- if no figure falls by more than one, neither does the room
pub room-falls : (s t : Nodes) → ((j : ℕ) → j < 4 → figure s j ≤ figure t j + 1) → room s ≤ room t + 1
room-falls s t f = at_most (figure s 0) (figure s 1) (figure s 2) (figure s 3) (figure t 0) (figure t 1) (figure t 2) (figure t 3) (f 0 (omega arith)) (f 1 (omega arith)) (f 2 (omega arith)) (f 3 (omega arith))

-- a placement that lowers two different figures by one lowers the room by at most one
pub room-placed : (k n : ℕ) (s t u : Nodes) → k ≢ n → Lowers k s t → Lowers n t u → room s ≤ room u + 1
room-placed k n s t u off g h =
    room-falls s u (λ j l. elim (cases_eq j k) [
      | inl p ↦ (
          let a : figure s j ≤ figure t j + 1 = subst (λ z. figure s z ≤ figure t z + 1) (sym p) g.this in
          let b : figure t j ≤ figure u j = h.others j l (λ e. off (sym p ∙ e)) in
          omega arith)
      | inr p ↦ (
          let a : figure s j ≤ figure t j = g.others j l p in
          elim (cases_eq j n) [
            | inl q ↦ (let b : figure t j ≤ figure u j + 1 = subst (λ z. figure t z ≤ figure u z + 1) (sym q) h.this in omega arith)
            | inr q ↦ (let b : figure t j ≤ figure u j = h.others j l q in omega arith)
          ])
    ])

-- if there is room for n placements, each figure is at least n
pub room-figures : (s : Nodes) (n : ℕ) → n ≤ room s → (n ≤ figure s 0) × (n ≤ figure s 1) × (n ≤ figure s 2) × (n ≤ figure s 3)
room-figures s n h = least_of n (figure s 0) (figure s 1) (figure s 2) (figure s 3) h

-- if each figure is at least n, there is room for n placements
pub figures-room : (s : Nodes) (n : ℕ) → n ≤ figure s 0 → n ≤ figure s 1 → n ≤ figure s 2 → n ≤ figure s 3 → n ≤ room s
figures-room s n a b c d = all_of n (figure s 0) (figure s 1) (figure s 2) (figure s 3) a b c d

least_more : (a b c d w x y z : ℕ) → a ≤ w → b ≤ x → c ≤ y → d ≤ z → min (min a b) (min c d) ≤ min (min w x) (min y z)
least_more a b c d w x y z p q r s = omega arith

-- if no figure falls, the room does not fall
pub room-more : (s t : Nodes) → MoreSpares s t → room s ≤ room t
room-more s t h = least_more (figure s 0) (figure s 1) (figure s 2) (figure s 3) (figure t 0) (figure t 1) (figure t 2) (figure t 3) (h 0 (omega arith)) (h 1 (omega arith)) (h 2 (omega arith)) (h 3 (omega arith))

least_same : (a b c d w x y z : ℕ) → w ≡ a → x ≡ b → y ≡ c → z ≡ d → min (min w x) (min y z) ≡ min (min a b) (min c d)
least_same a b c d w x y z p q r s = omega arith

-- if the figures are unchanged, so is the room
pub room-same : (s t : Nodes) → SameSpares s t → room t ≡ room s
room-same s t h = least_same (figure s 0) (figure s 1) (figure s 2) (figure s 3) (figure t 0) (figure t 1) (figure t 2) (figure t 3) (h 0 (omega arith)) (h 1 (omega arith)) (h 2 (omega arith)) (h 3 (omega arith))

-- a change that lowers one figure still does if the figures are unchanged after it
pub Lowers-same : (k : ℕ) (s t u : Nodes) → k < 4 → Lowers k s t → SameSpares t u → Lowers k s u
Lowers-same k s t u l h e = record {
  this = let a : figure s k ≤ figure t k + 1 = h.this in let b : figure u k ≡ figure t k = e k l in omega arith;
  others = λ j lt off. (let a : figure s j ≤ figure t j = h.others j lt off in let b : figure u j ≡ figure t j = e j lt in omega arith);
}
