-- What a contract sees of a tree.
use Rattle.std.specs.Prelude.{ℕ, ◌<◌, List, min, refl}
use Rattle.std.specs.Coded.{Coded, code_by, coded×, coded_ℕ, coded_list}
use Rattle.art_tree.specs.Leaves.{Numbered}
use Rattle.art_tree.specs.declared.tree.point.Point.{Point}
use Rattle.art_tree.specs.declared.tree.point.Point.TheVariants.{Empty, Exact, Related, Free}

-- the number of placements for which there surely is room among leaves, and among inner nodes
pub record Spares : Type 0 where
  pub leaves : ℕ
  pub nodes : ℕ

-- the pairs in byte order, each under the id of its leaf, and the room for further pairs
pub record Content (K V : Type 0) : Type 0 where
  pub pairs : List (Numbered K V)
  pub spares : Spares

abbrev pub content_code : {K V : Type 0} → Coded K → Coded V → Coded (Content K V)
content_code {K} {V} k v =
    code_by
    (List (ℕ × (K × V)) × (ℕ × ℕ))
    (coded× (coded_list (coded× coded_ℕ (coded× k v))) (coded× coded_ℕ coded_ℕ))
    (λ t. (t.pairs, (t.spares.leaves, t.spares.nodes)))
    (λ p. record { pairs = p.0; spares = record { leaves = p.1.0; nodes = p.1.1 } })
    (λ _. refl)

module _ {K V : Type 0} where
  -- the number of placements that surely succeed
  abbrev pub room : Content K V → ℕ
  room t = min t.spares.leaves t.spares.nodes

  -- there is room for a placement at this point
  abbrev pub Fits : Content K V → Point → Type 0
  Fits t Empty = 0 < t.spares.leaves
  Fits t (Exact id) = Unit {0}
  Fits t (Related first last) = Unit {0}
  Fits t (Free gap) = 0 < room t

-- a pair may be placed at this point
abbrev pub IsOpen : Point → Type 0
IsOpen Empty = Unit {0}
IsOpen (Exact id) = ⊥
IsOpen (Related first last) = ⊥
IsOpen (Free gap) = Unit {0}
