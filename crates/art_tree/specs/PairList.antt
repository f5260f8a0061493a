-- What a contract sees of a list of pairs outside of any tree.
use Rattle.std.specs.Prelude.{◌≡◌, ℕ, List, [], ◌∷◌, ◌++◌, Option, Some, None, refl}
use Rattle.std.specs.Coded.{Coded, code_by, coded×, coded_ℕ, coded_list}

-- the pairs in their order, and the number of further pairs for which there is room at the end
pub record PairList (K V : Type 0) : Type 0 where
  pub pairs : List (K × V)
  pub end_room : ℕ

abbrev pub pair_list_code : {K V : Type 0} → Coded K → Coded V → Coded (PairList K V)
pair_list_code {K} {V} k v =
    code_by
    (List (K × V) × ℕ)
    (coded× (coded_list (coded× k v)) coded_ℕ)
    (λ l. (l.pairs, l.end_room))
    (λ p. record { pairs = p.0; end_room = p.1 })
    (λ _. refl)

module _ {K V : Type 0} where
  -- the key of the last pair, or none if there are no pairs
  abbrev pub IsLastKey : List (K × V) → Option K → Type 0
  IsLastKey S None = S ≡ []
  IsLastKey S (Some key) = (front : List (K × V)) × (value : V) × (S ≡ front ++ (key, value) ∷ [])

  -- the last pair has a new value in place of the old one
  abbrev pub ReplacesLast : List (K × V) → V → V → List (K × V) → Type 0
  ReplacesLast S old new S' =
      (front : List (K × V)) × (key : K) × (S ≡ front ++ (key, old) ∷ []) × (S' ≡ front ++ (key, new) ∷ [])
