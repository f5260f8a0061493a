-- The pairs that a cursor has left after a step past its first leaf, or past its last.
use Rattle.std.proofs.Common.{◌≡◌, ◌≢◌, ℕ, List, [], ◌∷◌, ◌++◌, Option, Some, None, option_map, refl, sym, ap, ◌∙◌, subst}
use Rattle.std.proofs.lemmas.List.{append-nil}
use Rattle.blart_keys.proofs.Options.{some_of}
use Rattle.art_tree.specs.Leaves.{Numbered, leaf_in, first_number, last_number, number_after, number_before, AreDistinct}
use Rattle.art_tree.proofs.Spans.{Cut, cut_span, cut_is_span}
use Rattle.art_tree.proofs.Steps.{passed_first, passed_last}
use Rattle.art_walk.specs.declared.cursor.Cursor.{Cursor}
use Rattle.art_walk.specs.Cursor.{nothing_left, left_between, ends_left, EndsFit, leaves_left, FitsIn}
-- the lemmas of `art_tree` about ends and rows
pub use Rattle.art_tree.proofs.Steps.{some_inj, BeginsWith, begins_with, has_first, has_last}

module _ {K V : Type 0} where
  module _ (ps : List (Numbered K V)) (distinct : AreDistinct ps) (ends : Option (ℕ × ℕ)) (e : ℕ × ℕ) (was : ends ≡ Some e) (fits : EndsFit ends ps) where
    -- a step past the first leaf, which has some pair
    pub stepped : (ends' : Option (ℕ × ℕ)) → (e.0 ≡ e.1 → ends' ≡ None) → (e.0 ≢ e.1 → ends' ≡ option_map (λ m. (m, e.1)) (number_after ps e.0))
        → EndsFit ends' ps × (x : K × V) × (ends_left ends ps ≡ (e.0, x) ∷ ends_left ends' ps)
    stepped ends' one two =
        let s = some_of (leaf_in ps e.0) (has_first ps distinct ends e was fits) in
        let p = passed_first ps distinct ends e was fits ends' s.0 (number_after ps e.0) s.1 refl one two in
        (p.0, s.0, p.1)

    -- a step past the last leaf
    pub stepped_back : (ends' : Option (ℕ × ℕ)) → (e.0 ≡ e.1 → ends' ≡ None) → (e.0 ≢ e.1 → ends' ≡ option_map (λ m. (e.0, m)) (number_before ps e.1))
        → EndsFit ends' ps × (x : K × V) × (ends_left ends ps ≡ ends_left ends' ps ++ (e.1, x) ∷ [])
    stepped_back ends' one two =
        let s = some_of (leaf_in ps e.1) (has_last ps distinct ends e was fits) in
        let p = passed_last ps distinct ends e was fits ends' s.0 (number_before ps e.1) s.1 refl one two in
        (p.0, s.0, p.1)

  -- ---- new cursors

  module _ (ps : List (Numbered K V)) (distinct : AreDistinct ps) (first last : ℕ) (row : List (Numbered K V)) (cut : Cut ps first last row) (c : Cursor) (is : c ≡ left_between first last) where
    -- a cursor from the first number of a row through its last fits
    pub cut_fits : FitsIn c ps
    cut_fits = subst (λ (c : Cursor). FitsIn c ps) (sym is) (cut_is_span ps distinct first last row cut)

    -- and has the row left
    pub cut_left : leaves_left c ps ≡ row
    cut_left = ap (λ c. leaves_left c ps) is ∙ cut_span ps distinct first last row cut

  -- if the cursor has nothing left, no pair is left
  pub nothing_is : (ps row : List (Numbered K V)) (c : Cursor) → c ≡ nothing_left → row ≡ [] → leaves_left c ps ≡ row
  nothing_is ps row c is e = ap (λ c. leaves_left c ps) is ∙ sym e

  -- the whole list is a part of itself, split at its ends
  pub all_cut : (ps : List (Numbered K V)) (first last : ℕ) → Some first ≡ first_number ps → Some last ≡ last_number ps → Cut ps first last ps
  all_cut ps first last f l = record { before = []; after = []; is = sym (append-nil ps); first_is = sym f; last_is = sym l }
