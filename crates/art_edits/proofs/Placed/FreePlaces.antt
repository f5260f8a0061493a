-- The point of a key that is related to no stored key.
use Rattle.std.proofs.Common.{◌≡◌, ℕ, false, ◌⊎◌, inl, inr, List, sym, ◌∙◌, subst}
use Rattle.std.proofs.lemmas.Bool.{false≢true}
use Rattle.blart_keys.specs.Content.{stores, conflict}
use Rattle.blart_keys.proofs.ContentLemmas.{at_Some, stores_member}
use Rattle.art_tree.specs.Leaves.{Numbered, bytes}
use Rattle.art_tree.specs.Points.{IsGood}
use Rattle.art_tree.specs.declared.tree.point.Point.{Point}
use Rattle.art_tree.specs.declared.tree.point.Point.TheVariants.{Exact, Related}

module _ {K V : Type 0} (kb : K → List ℕ) (ps : List (Numbered K V)) (q : List ℕ) where
  -- if the bytes are new, and nothing conflicts, the point is neither a leaf nor a conflict
  pub never_taken : (point : Point) → IsGood kb ps point q → stores (bytes kb) ps q ≡ false → conflict (bytes kb) ps q ≡ false → ((i : ℕ) × (point ≡ Exact i)) ⊎ ((i : ℕ) × (j : ℕ) × (point ≡ Related i j)) → ⊥
  never_taken point good absent free (inl e) =
      let f = subst (λ p. IsGood kb ps p q) e.1 good in
      let m = at_Some (bytes kb) ps q (e.0, f.0) f.1 in
      false≢true (sym absent ∙ stores_member (bytes kb) ps q (e.0, f.0) m.0 m.1)
  never_taken point good absent free (inr e) =
      let f = subst (λ p. IsGood kb ps p q) e.2 good in
      false≢true (sym free ∙ f.0)
