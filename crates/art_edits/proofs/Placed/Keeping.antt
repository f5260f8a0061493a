-- An insertion that keeps the stored key.
use Rattle.std.proofs.Common.{◌≡◌, ℕ, List, refl, sym, ap, ◌∙◌, subst, Option, Some, None, Ok, option_map}
use Rattle.blart_keys.specs.Content.{IsContent, IsPut}
use Rattle.blart_keys.specs.Steps.{bytes as pair_bytes, Puts}
use Rattle.blart_keys.specs.Stored.{kept, pair_at}
use Rattle.blart_keys.proofs.StoredLemmas.{kept_new}
use Rattle.art_tree.specs.Leaves.{Numbered, leaf_in, AreDistinct, with_value, bytes}
use Rattle.art_tree.specs.Points.{IsGood}
use Rattle.art_tree.specs.declared.tree.point.Point.TheVariants.{Exact}
use Rattle.art_tree.specs.Pairs.{pairs_of}
use Rattle.art_edits.proofs.Related.EntryOf.{exact_pair}
use Rattle.art_edits.proofs.Placed.Inserting.{conflict_pairs, unrelated_point}
use Rattle.art_edits.proofs.Placed.SettingAt.{exact_set_at}

module _ {K V : Type 0} (kb : K → List ℕ) where
  -- a value is written if the bytes of the key are stored
  pub value_put : (ps : List (Numbered K V)) → IsContent (bytes kb) ps → AreDistinct ps → (key : K) (value old : V) (id : ℕ) → IsGood kb ps (Exact id) (kb key)
      → option_map (λ p. p.1) (leaf_in ps id) ≡ Some old → (ns : List (Numbered K V)) → ns ≡ with_value ps id value
      → Puts kb (option_map (λ pair. pair.1)) (pairs_of ps) (key, value) (kept kb (pairs_of ps) (key, value)) (Ok (Some old)) (pairs_of ns)
  unfolding pair_at
  value_put ps content distinct key value old id good is ns e = (
    conflict_pairs kb ps (kb key) ∙ unrelated_point kb ps content distinct (kb key) (Exact id) good (λ i j e. absurd cc),
    subst (λ l. IsPut (pair_bytes kb) (pairs_of ps) (kept kb (pairs_of ps) (key, value)) (pairs_of l)) (sym e) (exact_set_at kb ps (pairs_of ps) refl content distinct key id good value).3,
    sym is ∙ ap (option_map (λ (p : K × V). p.1)) (exact_pair kb ps content distinct (kb key) id good),
  )

  module _ {R : Type 0} (tell : Option (K × V) → R) (S : List (K × V)) (x : K × V) (S' : List (K × V)) where
    -- a pair with new bytes is stored as it is
    pub added_kept : Puts kb {R = Unit {0}} (λ _. tt) S x x (Ok tt) S' → pair_at kb S (kb x.0) ≡ None → Puts kb tell S x (kept kb S x) (Ok (tell None)) S'
    unfolding pair_at
    added_kept put none = subst (λ y. Puts kb tell S x y (Ok (tell None)) S') (sym (kept_new kb S x none)) (put.0, put.1, sym (ap tell none))
