-- A value set at a key that may be new, as the users of a map see it.
use Rattle.std.proofs.Common.{◌≡◌, ◌+◌, ℕ, false, List, refl, sym, ap, ◌∙◌, subst, add-zero, length, Option, Some, None, option_map, is_some, if◌then◌else◌}
use Rattle.std.specs.Option.{unwrap_or, UnwrapsOrElse}
use Rattle.blart_keys.specs.Content.{IsContent, IsPut, stores}
use Rattle.blart_keys.specs.Steps.{bytes as pair_bytes}
use Rattle.blart_keys.specs.Stored.{kept_key, pair_at, value_at, has, Updates}
use Rattle.blart_keys.proofs.ContentLemmas.{at_Some}
use Rattle.blart_keys.proofs.Mapped.{content_map}
use Rattle.art_tree.specs.Leaves.{Numbered, leaf_in, AreDistinct, with_value, bytes}
use Rattle.art_tree.specs.Points.{IsGood}
use Rattle.art_tree.specs.declared.tree.point.Point.TheVariants.{Exact}
use Rattle.art_tree.specs.Pairs.{pairs_of}
use Rattle.art_tree.proofs.CallerLemmas.{leaf_in-member}
use Rattle.art_edits.proofs.Related.EntryOf.{exact_pair, absent_pair}
use Rattle.art_edits.proofs.Placed.Setting.{rewritten, rewritten_content, put_from_updates, placed_set}
use Rattle.art_edits.specs.Places.{IsSetAt}

module _ {K V : Type 0} (kb : K → List ℕ) (ps : List (Numbered K V)) (S : List (K × V)) (view : pairs_of ps ≡ S) (content : IsContent (bytes kb) ps) (distinct : AreDistinct ps) (key : K) where
  -- what is set, if `o` is the pair at the key's bytes
  abbrev Set : List (K × V) → Option (K × V) → V → List (K × V) → Type 0
  Set S o w S' =
      Updates kb S S' (kb key) (Some (kept_key o key, w))
      × (value_at kb S' (kb key) ≡ Some w)
      × (length S' ≡ length S + (if is_some o then 0 else 1))
      × IsPut (pair_bytes kb) S (kept_key o key, w) S'

  set_of : (o : Option (K × V)) → o ≡ pair_at kb (pairs_of ps) (kb key) → (w : V) (S' : List (K × V)) → Set (pairs_of ps) o w S' → IsSetAt kb S key w S'
  set_of o e w S' h = subst (λ S. IsSetAt kb S key w S') view (subst (λ o. Set (pairs_of ps) o w S') e h)

  module _ (id : ℕ) (good : IsGood kb ps (Exact id) (kb key)) where
    abbrev leaf : (x : K × V) × (leaf_in ps id ≡ Some x) × (kb x.0 ≡ kb key)
    leaf = let r = at_Some (bytes kb) ps (kb key) (id, good.0) good.1 in (good.0, leaf_in-member ps id good.0 distinct r.0, r.1)

    pub exact_set_at : (w : V) → IsSetAt kb S key w (pairs_of (with_value ps id w))
    exact_set_at w =
        let S' = pairs_of (with_value ps id w) in
        let x = leaf.0 in
        let r = rewritten kb ps content distinct id x leaf.1 w in
        let put = put_from_updates kb (pairs_of ps) S' (x.0, w) (content_map (λ p. p.1) (pair_bytes kb) ps content) (rewritten_content kb ps content distinct id x leaf.1 w) r.0 in
        let up = subst (λ q. Updates kb (pairs_of ps) S' q (Some (x.0, w))) leaf.2 r.0 in
        set_of (Some x) (sym leaf.1 ∙ exact_pair kb ps content distinct (kb key) id good) w S' (up, ap (option_map (λ (p : K × V). p.1)) up.0, r.1 ∙ sym (add-zero (length (pairs_of ps))), put)

    pub exact_value_at : (r d : V) → option_map (λ (p : K × V). p.1) (leaf_in ps id) ≡ Some r → r ≡ unwrap_or (value_at kb S (kb key)) d
    exact_value_at r d e =
        let f : option_map (λ (p : K × V). p.1) (pair_at kb (pairs_of ps) (kb key)) ≡ Some r = ap (option_map (λ (p : K × V). p.1)) (sym (exact_pair kb ps content distinct (kb key) id good)) ∙ e in
        sym (ap (λ T. unwrap_or (value_at kb T (kb key)) d) (sym view) ∙ ap (λ o. unwrap_or o d) f)

    pub exact_or_else : (r : V) (P : V → Type 0) → option_map (λ (p : K × V). p.1) (leaf_in ps id) ≡ Some r → UnwrapsOrElse (value_at kb S (kb key)) P r
    exact_or_else r P e =
        let f : option_map (λ (p : K × V). p.1) (pair_at kb (pairs_of ps) (kb key)) ≡ Some r = ap (option_map (λ (p : K × V). p.1)) (sym (exact_pair kb ps content distinct (kb key) id good)) ∙ e in
        let h : value_at kb S (kb key) ≡ Some r = ap (λ T. value_at kb T (kb key)) (sym view) ∙ f in
        subst (λ (o : Option V). UnwrapsOrElse o P r) (sym h) refl

  module _ (absent : stores (bytes kb) ps (kb key) ≡ false) where
    none : None ≡ pair_at kb S (kb key)
    none = absent_pair kb ps content distinct (kb key) absent ∙ ap (λ T. pair_at kb T (kb key)) view

    pub new_has : has kb S (kb key) ≡ false
    new_has = ap (λ o. is_some o) (sym none)

    pub new_value_at : (r d : V) → r ≡ d → r ≡ unwrap_or (value_at kb S (kb key)) d
    new_value_at r d e = e ∙ ap (λ (o : Option (K × V)). unwrap_or (option_map (λ p. p.1) o) d) none

    pub new_set_at : (mid ns : List (Numbered K V)) (v : V) (id : ℕ) → mid ≡ ps → IsPut (pair_bytes kb) (pairs_of mid) (key, v) (pairs_of ns) → IsContent (bytes kb) ns → AreDistinct ns → leaf_in ns id ≡ Some (key, v) → (w : V) → IsSetAt kb S key w (pairs_of (with_value ns id w))
    new_set_at mid ns v id same put c d there w =
        set_of None (absent_pair kb ps content distinct (kb key) absent) w (pairs_of (with_value ns id w))
        (placed_set kb ps mid ns same content id key v absent put c d there w)

    pub new_none : value_at kb S (kb key) ≡ None
    new_none = ap (λ (o : Option (K × V)). option_map (λ p. p.1) o) (sym none)

    pub new_or_else : (r : V) (P : V → Type 0) → P r → UnwrapsOrElse (value_at kb S (kb key)) P r
    new_or_else r P h = subst (λ (o : Option V). UnwrapsOrElse o P r) (sym new_none) h
