-- The first and the last of a list of numbered pairs, removed.
use Rattle.std.proofs.Common.{◌≡◌, ◌≢◌, ℕ, ◌-◌, List, [], ◌∷◌, ◌++◌, length, map, Some, None, sym, ap, ◌∙◌, refl}
use Rattle.std.proofs.lemmas.Bool.{ne_eqb, eq-eqb}
use Rattle.art_rows.specs.Numbers.{Numbered, leaf_in, Has, AreDistinct, last_number, without_number, first_number}
use Rattle.art_rows.specs.Rows.{nth, index_in}
use Rattle.art_rows.proofs.NumbersLemmas.{has_other, Has-last, Has-first, no_first, no_last}
use Rattle.art_rows.proofs.RowsLemmas.{last_number-nth, index_in-nth, first_number-nth}

module _ {X : Type 0} where
  -- ---- the first

  pub first_none : (ps : List (Numbered X)) → nth (map (λ p. p.0) ps) 0 ≡ None → ps ≡ []
  first_none ps e = no_first ps (first_number-nth ps ∙ e)

  pub first_has : (ps : List (Numbered X)) (id : ℕ) → nth (map (λ p. p.0) ps) 0 ≡ Some id → Has ps id
  first_has ps id e = Has-first ps id (first_number-nth ps ∙ e)

  pub first_index : (ps : List (Numbered X)) (id : ℕ) → nth (map (λ p. p.0) ps) 0 ≡ Some id → index_in (map (λ p. p.0) ps) id ≡ 0
  first_index [] id e = absurd cc
  first_index (p ∷ ps) id e = let h : p.0 ≡ id = cc in rw (eq-eqb p.0 id h) refl

  -- the pairs are the first pair, and the pairs without it
  pub first_off : (ps : List (Numbered X)) (id : ℕ) (x : X) → first_number ps ≡ Some id → leaf_in ps id ≡ Some x → ps ≡ (id, x) ∷ without_number ps id
  first_off [] id x e l = absurd cc
  first_off (p ∷ ps) id x e l =
      let h : p.0 ≡ id = cc in
      let q : Some p.1 ≡ Some x = rw (eq-eqb p.0 id h) at l in
      let y : p.1 ≡ x = cc in
      rw (eq-eqb p.0 id h) (ap (λ n. (n, p.1) ∷ ps) h ∙ ap (λ z. (id, z) ∷ ps) y)

  pub first_taken : (ps : List (Numbered X)) (id : ℕ) (x : X) → nth (map (λ p. p.0) ps) 0 ≡ Some id → leaf_in ps id ≡ Some x → ps ≡ (id, x) ∷ without_number ps id
  first_taken ps id x e l = first_off ps id x (first_number-nth ps ∙ e) l

  -- ---- the last

  pub last_none : (ps : List (Numbered X)) → nth (map (λ p. p.0) ps) (length ps - 1) ≡ None → ps ≡ []
  last_none ps e = no_last ps (last_number-nth ps ∙ e)

  pub last_index : (ps : List (Numbered X)) (id : ℕ) → AreDistinct ps → nth (map (λ p. p.0) ps) (length ps - 1) ≡ Some id → index_in (map (λ p. p.0) ps) id ≡ length ps - 1
  last_index ps id d e = index_in-nth ps (length ps - 1) id d e

  pub last_has : (ps : List (Numbered X)) (id : ℕ) → nth (map (λ p. p.0) ps) (length ps - 1) ≡ Some id → Has ps id
  last_has ps id e = Has-last ps id (last_number-nth ps ∙ e)

  -- the pairs are the pairs without the last pair, and the last pair
  pub last_off : (ps : List (Numbered X)) (id : ℕ) (x : X) → AreDistinct ps → last_number ps ≡ Some id → leaf_in ps id ≡ Some x → ps ≡ without_number ps id ++ (id, x) ∷ []
  last_off [] id x d e l = absurd cc
  last_off (p ∷ []) id x d e l =
      let h : p.0 ≡ id = cc in
      let q : Some p.1 ≡ Some x = rw (eq-eqb p.0 id h) at l in
      let y : p.1 ≡ x = cc in
      rw (eq-eqb p.0 id h) (ap (λ n. (n, p.1) ∷ []) h ∙ ap (λ z. (id, z) ∷ []) y)
  last_off (p ∷ q ∷ ps) id x d e l =
      let other : p.0 ≢ id = λ s. has_other (q ∷ ps) id p.0 (Has-last (q ∷ ps) id e) d.0 (sym s) in
      rw (ne_eqb p.0 id other) (ap (λ r. p ∷ r) (last_off (q ∷ ps) id x d.1 e (rw (ne_eqb p.0 id other) at l)))

  pub last_taken : (ps : List (Numbered X)) (id : ℕ) (x : X) → AreDistinct ps → nth (map (λ p. p.0) ps) (length ps - 1) ≡ Some id → leaf_in ps id ≡ Some x → ps ≡ without_number ps id ++ (id, x) ∷ []
  last_taken ps id x d e l = last_off ps id x d (last_number-nth ps ∙ e) l
