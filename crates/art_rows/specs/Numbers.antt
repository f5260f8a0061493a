-- What a contract sees of a chain, and the definitions on lists of numbered items.
use Rattle.std.specs.Prelude.{◌≡◌, ◌≢◌, ℕ, List, [], ◌∷◌, Option, Some, None, IsSome, refl, if◌then◌else◌, eqb}
use Rattle.std.specs.Coded.{Coded, code_by, coded×, coded_ℕ, coded_list}

-- a number, and the item under it
abbrev pub Numbered : Type 0 → Type 0
Numbered X = ℕ × X

-- the items in order, the spare slots, the room for more, a number above all, and the next number
pub record Numbers (X : Type 0) : Type 0 where
  pub pairs : List (Numbered X)
  pub spare : ℕ
  pub room : ℕ
  pub top : ℕ
  pub next : ℕ

abbrev pub numbers_code : {X : Type 0} → Coded X → Coded (Numbers X)
numbers_code {X} x =
    code_by
    (List (ℕ × X) × (ℕ × (ℕ × (ℕ × ℕ))))
    (coded× (coded_list (coded× coded_ℕ x)) (coded× coded_ℕ (coded× coded_ℕ (coded× coded_ℕ coded_ℕ))))
    (λ s. (s.pairs, (s.spare, (s.room, (s.top, s.next)))))
    (λ p. record { pairs = p.0; spare = p.1.0; room = p.1.1.0; top = p.1.1.1.0; next = p.1.1.1.1 })
    (λ _. refl)

module _ {X : Type 0} where
  -- the item under a number, if there is one
  abbrev pub leaf_in : List (Numbered X) → ℕ → Option X
  leaf_in [] i = None
  leaf_in (p ∷ ps) i = if eqb p.0 i then Some p.1 else leaf_in ps i

  -- there is an item under the number
  abbrev pub Has : List (Numbered X) → ℕ → Type 0
  Has ps i = IsSome (leaf_in ps i)

  -- the number of the first pair, if there is one
  abbrev pub first_number : List (Numbered X) → Option ℕ
  first_number [] = None
  first_number (p ∷ ps) = Some p.0

  -- the number of the last pair, if there is one
  abbrev pub last_number : List (Numbered X) → Option ℕ
  last_number [] = None
  last_number (p ∷ []) = Some p.0
  last_number (p ∷ q ∷ ps) = last_number (q ∷ ps)

  -- the number after a number, if there is one
  abbrev pub number_after : List (Numbered X) → ℕ → Option ℕ
  number_after [] i = None
  number_after (p ∷ ps) i = if eqb p.0 i then first_number ps else number_after ps i

  -- the number before a number in a list that comes after the number `back`
  abbrev pub number_before_from : Option ℕ → List (Numbered X) → ℕ → Option ℕ
  number_before_from back [] i = None
  number_before_from back (p ∷ ps) i = if eqb p.0 i then back else number_before_from (Some p.0) ps i

  -- the number before a number, if there is one
  abbrev pub number_before : List (Numbered X) → ℕ → Option ℕ
  number_before ps i = number_before_from None ps i

  -- the number after a number, or the first number
  abbrev pub next_number : Option ℕ → List (Numbered X) → Option ℕ
  next_number None ps = first_number ps
  next_number (Some i) ps = number_after ps i

  -- the pairs with one more, after the pair of a number or before all pairs
  abbrev pub with_pair_after : Option ℕ → Numbered X → List (Numbered X) → List (Numbered X)
  with_pair_after None x ps = x ∷ ps
  with_pair_after (Some i) x [] = []
  with_pair_after (Some i) x (p ∷ ps) = if eqb p.0 i then p ∷ x ∷ ps else p ∷ with_pair_after (Some i) x ps

  -- the pairs without the pair of a number
  abbrev pub without_number : List (Numbered X) → ℕ → List (Numbered X)
  without_number [] i = []
  without_number (p ∷ ps) i = if eqb p.0 i then ps else p ∷ without_number ps i

  -- the pairs, with another item under a number
  abbrev pub with_pair : List (Numbered X) → ℕ → X → List (Numbered X)
  with_pair [] i x = []
  with_pair (p ∷ ps) i x = if eqb p.0 i then (p.0, x) ∷ ps else p ∷ with_pair ps i x

  -- no pair of this list has the number
  abbrev pub Lacks : List (Numbered X) → ℕ → Type 0
  Lacks [] i = Unit {0}
  Lacks (p ∷ ps) i = (p.0 ≢ i) × Lacks ps i

  -- no number occurs twice
  abbrev pub AreDistinct : List (Numbered X) → Type 0
  AreDistinct [] = Unit {0}
  AreDistinct (p ∷ ps) = Lacks ps p.0 × AreDistinct ps

  -- the item under each other number is unchanged
  abbrev pub OthersStand : List (Numbered X) → List (Numbered X) → ℕ → Type 0
  OthersStand old new i = (j : ℕ) → j ≢ i → leaf_in new j ≡ leaf_in old j
