-- The pair of a number, after a value was written there.
use Rattle.std.proofs.Common.{◌≡◌, ℕ, List, [], ◌∷◌, inl, inr, refl, option_map}
use Rattle.std.proofs.lemmas.Bool.Decides.{eqb_tells}
use Rattle.art_tree.specs.Leaves.{Numbered, leaf_in, with_value}

-- the pair of the number has the value
pub leaf_in-written : {K V : Type 0} (ps : List (Numbered K V)) (i : ℕ) (v : V) → leaf_in (with_value ps i v) i ≡ option_map (λ (x : K × V). (x.0, v)) (leaf_in ps i)
leaf_in-written [] i v = refl
leaf_in-written (p ∷ ps) i v = elim (eqb_tells p.0 i) [
  | inl t ↦ rw t.0 (rw t.0 refl)
  | inr t ↦ rw t.0 (rw t.0 (leaf_in-written ps i v))
]
