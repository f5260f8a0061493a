-- The first and the last of numbered pairs, and the pairs without them.
use Rattle.std.proofs.Common.{◌≡◌, ℕ, List, [], ◌∷◌, ◌++◌, Some, sym, ap, ◌∙◌}
use Rattle.std.proofs.lemmas.List.{map-append}
use Rattle.art_tree.specs.Leaves.{Numbered, leaf_in, AreDistinct, Lacks, first_number, last_number, without_number}
use Rattle.art_rows.proofs.CallerLemmas.{split, without_number-split, leaf_in-split, first_off, last_off}
use Rattle.blart_keys.proofs.Options.{is_some as has_value}
use Rattle.art_tree.specs.Pairs.{pairs_of}

module _ {K V : Type 0} where
  -- ---- the first pair

  -- the pairs are the first one, and the pairs without it
  pub first_pair : (ps : List (Numbered K V)) (id : ℕ) (x : K × V) → first_number ps ≡ Some id → leaf_in ps id ≡ Some x → pairs_of ps ≡ x ∷ pairs_of (without_number ps id)
  first_pair ps id x e l = ap pairs_of (first_off ps id x e l)

  -- ---- a pair under its number

  -- a list of pairs, split at the pair with this number
  pub record Cut (ps : List (Numbered K V)) (id : ℕ) (x : K × V) : Type 0 where
    pub before : List (Numbered K V)
    pub after : List (Numbered K V)
    pub is : ps ≡ before ++ (id, x) ∷ after
    pub lacks : Lacks before id

  -- each pair splits the list
  pub cut_at : (ps : List (Numbered K V)) (id : ℕ) (x : K × V) → leaf_in ps id ≡ Some x → Cut ps id x
  cut_at ps id x e =
      let s = split ps id (has_value (leaf_in ps id) x e) in
      let f : Some s.pair ≡ Some x = sym (leaf_in-split id s.pair s.after s.before s.lacks) ∙ ap (λ l. leaf_in l id) (sym s.is) ∙ e in
      let g : s.pair ≡ x = cc in
      record { before = s.before; after = s.after; is = s.is ∙ ap (λ y. s.before ++ (id, y) ∷ s.after) g; lacks = s.lacks }

  module _ (ps : List (Numbered K V)) (id : ℕ) (x : K × V) (c : Cut ps id x) where
    -- the pairs without numbers, split in the same way
    pub cut_pairs : pairs_of ps ≡ pairs_of c.before ++ x ∷ pairs_of c.after
    cut_pairs = ap pairs_of c.is ∙ map-append (λ (p : Numbered K V). p.1) c.before ((id, x) ∷ c.after)

    -- the pairs without the pair of this number
    pub left_pairs : pairs_of (without_number ps id) ≡ pairs_of c.before ++ pairs_of c.after
    left_pairs =
        ap (λ l. pairs_of (without_number l id)) c.is ∙ ap pairs_of (without_number-split id x c.after c.before c.lacks) ∙ map-append (λ (p : Numbered K V). p.1) c.before c.after

  -- ---- the last pair

  -- the pairs are the pairs without the last one, and the last one
  pub last_pair : (ps : List (Numbered K V)) (id : ℕ) (x : K × V) → AreDistinct ps → last_number ps ≡ Some id → leaf_in ps id ≡ Some x → pairs_of ps ≡ pairs_of (without_number ps id) ++ x ∷ []
  last_pair ps id x d e l = ap pairs_of (last_off ps id x d e l) ∙ map-append (λ (p : Numbered K V). p.1) (without_number ps id) ((id, x) ∷ [])
