-- What a point tells about the entry of its key.
use Rattle.std.proofs.Common.{◌≡◌, ℕ, true, false, not, List, [], refl, sym, ap, ◌∙◌, subst, Option, Some, None, option_map, is_some, bytes_eq}
use Rattle.std.specs.Option.{unwrap_or}
use Rattle.blart_keys.specs.Bytes.{related}
use Rattle.blart_keys.specs.Content.{IsContent, stores, conflict}
use Rattle.blart_keys.specs.Entries.{Kind, kind_of}
use Rattle.blart_keys.specs.Steps.{bytes as pair_bytes}
use Rattle.blart_keys.specs.Stored.{pair_at}
use Rattle.blart_keys.proofs.ContentLemmas.{at_Some, stored_no_conflict, stores_found}
use Rattle.std.proofs.lemmas.Bool.{false≢true, false_from_ne_true}
use Rattle.blart_keys.proofs.Mapped.{list_any-map}
use Rattle.blart_keys.proofs.RankLemmas.{Member}
use Rattle.blart_keys.proofs.StoredLemmas.{stores_is}
use Rattle.art_tree.specs.Content.{IsOpen}
use Rattle.art_tree.specs.Leaves.{Numbered, leaf_in, keys_in, AreDistinct, bytes}
use Rattle.art_tree.specs.Points.{IsGood}
use Rattle.art_tree.specs.declared.tree.point.Point.{Point}
use Rattle.art_tree.specs.declared.tree.point.Point.TheVariants.{Exact, Related}
use Rattle.art_tree.specs.Pairs.{pairs_of}
use Rattle.art_tree.proofs.CallerLemmas.{leaf_in-member}
use Rattle.art_edits.proofs.Placed.Inserting.{conflict_pairs, open_alone, alone_absent, alone_no_conflict}
use Rattle.art_edits.proofs.Placed.Setting.{pair_there}

none : {X : Type 0} (o : Option X) → is_some o ≡ false → None ≡ o
none None e = refl
none (Some x) e = absurd (false≢true (sym e))

module _ {K V : Type 0} (kb : K → List ℕ) (ps : List (Numbered K V)) (content : IsContent (bytes kb) ps) (distinct : AreDistinct ps) (q : List ℕ) where
  -- ---- at a leaf

  module _ (id : ℕ) (good : IsGood kb ps (Exact id) q) where
    abbrev leaf : (x : K × V) × (leaf_in ps id ≡ Some x) × (kb x.0 ≡ q)
    leaf = let r = at_Some (bytes kb) ps q (id, good.0) good.1 in (good.0, leaf_in-member ps id good.0 distinct r.0, r.1)

    pub exact_bytes : unwrap_or (keys_in kb ps id) [] ≡ q
    exact_bytes = ap (λ o. unwrap_or (option_map (λ (x : K × V). kb x.0) o) []) leaf.1 ∙ leaf.2

    pub exact_pair : leaf_in ps id ≡ pair_at kb (pairs_of ps) q
    exact_pair = leaf.1 ∙ sym (pair_there kb ps content distinct id leaf.0 leaf.1) ∙ ap (pair_at kb (pairs_of ps)) leaf.2

    exact_stores : stores (pair_bytes kb) (pairs_of ps) q ≡ true
    exact_stores = stores_is kb (pairs_of ps) q ∙ ap (λ o. is_some o) (sym exact_pair ∙ leaf.1)

    pub exact_kind : Kind.Occupied ≡ kind_of (pair_bytes kb) (pairs_of ps) q
    exact_kind = rw exact_stores refl

    pub exact_inner : false ≡ conflict (pair_bytes kb) (pairs_of ps) q
    exact_inner =
        let r = at_Some (bytes kb) ps q (id, good.0) good.1 in
        let none : conflict (bytes kb) ps q ≡ false = subst (λ q. conflict (bytes kb) ps q ≡ false) r.1 (stored_no_conflict (bytes kb) ps content (id, good.0) r.0) in
        sym (conflict_pairs kb ps q ∙ none)

    pub exact_free : true ≡ not (conflict (pair_bytes kb) (pairs_of ps) q)
    exact_free =
        let r = at_Some (bytes kb) ps q (id, good.0) good.1 in
        let none : conflict (bytes kb) ps q ≡ false = subst (λ q. conflict (bytes kb) ps q ≡ false) r.1 (stored_no_conflict (bytes kb) ps content (id, good.0) r.0) in
        sym (ap not (conflict_pairs kb ps q ∙ none))

    pub exact_some : {A : Type 0} → leaf_in ps id ≡ None → A
    exact_some e = absurd (let f : Some leaf.0 ≡ None = sym leaf.1 ∙ e in cc)

  -- ---- at a conflict

  module _ (first last : ℕ) (good : IsGood kb ps (Related first last) q) where
    related_absent : stores (pair_bytes kb) (pairs_of ps) q ≡ false
    related_absent =
        list_any-map (λ p. p.1) (λ x. bytes_eq (kb x.0) q) ps ∙ false_from_ne_true (stores (bytes kb) ps q) (λ t.
        let r = stores_found (bytes kb) ps q t in
        false≢true (sym (subst (λ q. conflict (bytes kb) ps q ≡ false) r.2 (stored_no_conflict (bytes kb) ps content r.0 r.1)) ∙ good.0))

    pub related_kind : Kind.Inner ≡ kind_of (pair_bytes kb) (pairs_of ps) q
    related_kind = let b : conflict (pair_bytes kb) (pairs_of ps) q ≡ true = conflict_pairs kb ps q ∙ good.0 in rw (related_absent, b) refl

    pub related_inner : true ≡ conflict (pair_bytes kb) (pairs_of ps) q
    related_inner = sym (conflict_pairs kb ps q ∙ good.0)

    pub related_pair : None ≡ pair_at kb (pairs_of ps) q
    related_pair = none (pair_at kb (pairs_of ps) q) (sym (stores_is kb (pairs_of ps) q) ∙ related_absent)

  -- ---- if no key has the bytes

  module _ (absent : stores (bytes kb) ps q ≡ false) where
    absent_pairs : stores (pair_bytes kb) (pairs_of ps) q ≡ false
    absent_pairs = list_any-map (λ p. p.1) (λ x. bytes_eq (kb x.0) q) ps ∙ absent

    pub absent_pair : None ≡ pair_at kb (pairs_of ps) q
    absent_pair = none (pair_at kb (pairs_of ps) q) (sym (stores_is kb (pairs_of ps) q) ∙ absent_pairs)

    pub vacant_kind : conflict (bytes kb) ps q ≡ false → Kind.Vacant ≡ kind_of (pair_bytes kb) (pairs_of ps) q
    vacant_kind free = let b : conflict (pair_bytes kb) (pairs_of ps) q ≡ false = conflict_pairs kb ps q ∙ free in rw (absent_pairs, b) refl

  -- ---- at a point where a pair may be placed

  module _ (point : Point) (good : IsGood kb ps point q) (able : IsOpen point) where
    abbrev alone : (y : Numbered K V) → Member y ps → related (bytes kb y) q ≡ false
    alone = open_alone kb ps content distinct q point good able

    pub open_absent : stores (bytes kb) ps q ≡ false
    open_absent = alone_absent (bytes kb) ps q alone

    pub open_free : conflict (bytes kb) ps q ≡ false
    open_free = alone_no_conflict (bytes kb) ps q alone

    pub open_inner : false ≡ conflict (pair_bytes kb) (pairs_of ps) q
    open_inner = sym (conflict_pairs kb ps q ∙ open_free)

    pub open_found : true ≡ not (conflict (pair_bytes kb) (pairs_of ps) q)
    open_found = sym (ap not (conflict_pairs kb ps q ∙ open_free))

    pub open_pair : None ≡ pair_at kb (pairs_of ps) q
    open_pair = absent_pair open_absent

    pub open_kind : Kind.Vacant ≡ kind_of (pair_bytes kb) (pairs_of ps) q
    open_kind = vacant_kind open_absent open_free
