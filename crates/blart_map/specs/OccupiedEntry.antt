-- What the contracts of an occupied entry cite.
use Rattle.std.specs.Prelude.{ℕ, List, [], ◌∷◌, refl}
use Rattle.std.proofs.Common.{inl, inr}
use Rattle.std.proofs.lemmas.Bool.Decides.{eqb_tells}
use Rattle.blart_keys.specs.declared.AsBytes.{Ghosts}
use Rattle.art_tree.specs.Leaves.{Numbered, Has, with_value}
use Rattle.blart_map.specs.declared.occupied.OccupiedEntry.{OccupiedEntry}

module _ {K V : Type 0} where
  -- a number that names a pair still names one once a value is written
  pub Has-with_value : (ps : List (Numbered K V)) (i : ℕ) (v : V) (j : ℕ) → Has ps j → Has (with_value ps i v) j
  Has-with_value [] i v j h = h
  Has-with_value (p ∷ ps) i v j h = elim (eqb_tells p.0 i) [
    | inl t ↦ rw t.0 (elim (eqb_tells p.0 j) [ inl u ↦ rw u.0 refl | inr u ↦ rw u.0 (rw u.0 at h) ])
    | inr t ↦ rw t.0 (elim (eqb_tells p.0 j) [ inl u ↦ rw u.0 refl | inr u ↦ rw u.0 (Has-with_value ps i v j (rw u.0 at h)) ])
  ]

module _ {K V T : Type 0} {P : ℕ} {g : Ghosts K} where
  -- the number of the entry's pair
  abbrev pub entry_leaf : OccupiedEntry K V P T g → ℕ
  entry_leaf o = o.id

  -- the entry, once w is its value
  abbrev pub with_entry_value : OccupiedEntry K V P T g → V → OccupiedEntry K V P T g
  with_entry_value o w = record {
    map = record o.map { now = with_value o.map.now o.id w };
    id = o.id;
    lender = o.lender;
    stands = Has-with_value o.map.now o.id w o.id o.stands;
  }
