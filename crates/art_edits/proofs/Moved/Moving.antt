-- Pairs that move from one list to another.
use Rattle.std.proofs.Common.{◌≡◌, ℕ, false, inl, List, [], ◌∷◌, ◌++◌, Some, refl, sym, ap, ◌∙◌, subst, append-nil}
use Rattle.blart_keys.specs.Bytes.{related}
use Rattle.blart_keys.specs.Content.{IsContent, IsPut}
use Rattle.blart_keys.proofs.PartLemmas.{related-from_PartsBelow}
use Rattle.blart_keys.proofs.RankLemmas.{Member, Ranked, Ranked-across, Ranked-left, Ranked-right}
use Rattle.blart_keys.proofs.ContentLemmas.{Before, Ranked-from_content, content_from_Ranked, unrelated_back, put_unique, put_between}
use Rattle.art_tree.specs.Leaves.{Numbered, leaf_in, first_number, without_number}
use Rattle.art_tree.specs.Pairs.{pairs_of}
use Rattle.art_tree.proofs.PairEnds.{first_pair}

-- if the first remaining pair is removed, all pairs are the moved pairs, that pair, and the rest
pub first_moved : {K V : Type 0} (bytes : K × V → List ℕ) (all moved : List (K × V)) (ps rest : List (Numbered K V)) (id : ℕ) (x : K × V) → IsContent bytes all → all ≡ moved ++ pairs_of ps → first_number ps ≡ Some id → leaf_in ps id ≡ Some x → rest ≡ without_number ps id → (all ≡ moved ++ x ∷ pairs_of rest) × IsContent bytes (moved ++ x ∷ pairs_of rest)
first_moved bytes all moved ps rest id x content whole is named left =
    let w = whole ∙ ap (λ l. moved ++ l) (first_pair ps id x is named ∙ ap (λ l. x ∷ pairs_of l) (sym left)) in
    (w, subst (IsContent bytes) w content)

-- an item of a content, beside the items before it and those after it
module _ {X : Type 0} (bytes : X → List ℕ) (A B : List X) (x : X) (c : IsContent bytes (A ++ x ∷ B)) where
  ranked : Ranked (Before bytes) (A ++ x ∷ B)
  ranked = Ranked-from_content bytes (A ++ x ∷ B) c

  before_others : (y : X) → Member y B → Before bytes x y
  before_others y m = Ranked-across (Before bytes) (x ∷ []) B (Ranked-right (Before bytes) A (x ∷ B) ranked) x y (inl refl) m

  pub before_unrelated : (y : X) → Member y B → related (bytes y) (bytes x) ≡ false
  before_unrelated y m = unrelated_back (bytes x) (bytes y) (related-from_PartsBelow (bytes x) (bytes y) (before_others y m))

  -- put into the items after it, it is the first
  pub put_front : (U : List X) → IsPut bytes B x U → U ≡ x ∷ B
  put_front U put =
      let rest : IsContent bytes B = content_from_Ranked bytes B (Ranked-right (Before bytes) (x ∷ []) B (Ranked-right (Before bytes) A (x ∷ B) ranked)) in
      put_unique bytes B U (x ∷ B) x put (put_between bytes [] B x rest (λ y m. absurd m) before_others)

  after_others : (y : X) → Member y A → Before bytes y x
  after_others y m = Ranked-across (Before bytes) A (x ∷ B) ranked y x m (inl refl)

  pub after_unrelated : (y : X) → Member y A → related (bytes y) (bytes x) ≡ false
  after_unrelated y m = related-from_PartsBelow (bytes y) (bytes x) (after_others y m)

  -- put into the items before it, it is the last
  pub put_back : (U : List X) → IsPut bytes A x U → U ≡ A ++ x ∷ []
  put_back U put =
      let none = append-nil A in
      let low : IsContent bytes A = content_from_Ranked bytes A (Ranked-left (Before bytes) A (x ∷ B) ranked) in
      put_unique bytes A U (A ++ x ∷ []) x put (subst (λ S. IsPut bytes S x (A ++ x ∷ [])) none (put_between bytes A [] x (subst (IsContent bytes) (sym none) low) after_others (λ y m. absurd m)))
