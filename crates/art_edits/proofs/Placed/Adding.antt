-- The pairs after an attempt to add a pair, by its result.
use Rattle.std.proofs.Common.{◌≡◌, ℕ, List, true, false, refl, sym, ap, ◌∙◌, subst, Some, None, Result, Ok, option_map, bytes_eq}
use Rattle.std.specs.declared.alloc.AllocError.{AllocError}
use Rattle.std.proofs.lemmas.Bool.{false_from_ne_true}
use Rattle.blart_keys.specs.Content.{IsContent, IsPut, stores, conflict}
use Rattle.blart_keys.specs.Keys.{NoFronts}
use Rattle.blart_keys.proofs.ContentLemmas.{at_Some, at_None, stores_found, stores_member}
use Rattle.blart_keys.proofs.Mapped.{list_any-map}
use Rattle.blart_keys.specs.Steps.{bytes as pair_bytes, Puts}
use Rattle.blart_keys.specs.Stored.{kept, pair_at}
use Rattle.blart_keys.proofs.Options.{is_some}
use Rattle.art_tree.specs.Adding.{Adds}
use Rattle.art_tree.specs.declared.tree.add.Added.{Added}
use Rattle.art_tree.specs.declared.tree.add.Added.TheVariants.{Placed, Stored, Conflict}
use Rattle.art_tree.specs.Begins.{Bytes}
use Rattle.art_tree.specs.Content.{Content}
use Rattle.art_tree.specs.Leaves.{Numbered, leaf_in, Has, AreDistinct, with_pair, with_value, bytes}
use Rattle.art_tree.specs.Pairs.{pairs_of}
use Rattle.art_tree.specs.Takes.{MayTake}
use Rattle.art_edits.proofs.Placed.Inserting.{conflict_pairs, exact_has, exact_takes, related_first, exchanged, disjoint_unrelated}
use Rattle.art_edits.proofs.Placed.Keeping.{added_kept, value_put}

module _ {K V : Type 0} (kb : K → Bytes) (old new : Content K V) (x : K × V) {r : Result (Added ℕ K V) AllocError} (adds : Adds kb old new x r) where
  module _ (is : r ≡ Ok Placed) where
    placed : Adds kb old new x (Ok Placed)
    placed = subst (Adds kb old new x) is adds

    -- the pair was put
    pub added_pair : IsPut (pair_bytes kb) (pairs_of old.pairs) x (pairs_of new.pairs)
    added_pair = placed.0.1

    -- it is stored as it is
    pub added_new : Puts kb (option_map (λ pair. pair.1)) (pairs_of old.pairs) x (kept kb (pairs_of old.pairs) x) (Ok None) (pairs_of new.pairs)
    unfolding pair_at
    added_new = let p = placed.0 in added_kept kb (option_map (λ pair. pair.1)) (pairs_of old.pairs) x (pairs_of new.pairs) (p.0, p.1, refl) (sym p.2)

    -- its bytes were new
    pub added_absent : stores (pair_bytes kb) (pairs_of old.pairs) (kb x.0) ≡ false
    added_absent = false_from_ne_true _ (λ t. let r = stores_found (pair_bytes kb) (pairs_of old.pairs) (kb x.0) t in at_None (pair_bytes kb) (pairs_of old.pairs) (kb x.0) r.0 (sym placed.0.2) r.1 r.2)

  module _ {first : ℕ} {k : K} {v : V} (is : r ≡ Ok (Conflict first k v)) where
    conflicted : Adds kb old new x (Ok (Conflict first k v))
    conflicted = subst (Adds kb old new x) is adds

    -- the key conflicts, and the pairs are unchanged
    pub added_conflicts : (conflict (pair_bytes kb) (pairs_of old.pairs) (kb x.0) ≡ true) × (pairs_of new.pairs ≡ pairs_of old.pairs)
    added_conflicts = (conflict_pairs kb old.pairs (kb x.0) ∙ conflicted.0.1.0, ap (λ (t : Content K V). pairs_of t.pairs) conflicted.2)

    module _ (content : IsContent (bytes kb) old.pairs) (distinct : AreDistinct old.pairs) where
      -- the first related leaf exists
      pub added_related : Has new.pairs first
      added_related =
          let r = related_first kb old.pairs content distinct (kb x.0) first conflicted.0.0 conflicted.0.1 in
          subst (λ (t : Content K V). Has t.pairs first) (sym conflicted.2) (is_some (leaf_in old.pairs first) r.0 r.1)

      -- if no key is a proper prefix of another, there is no conflict
      pub disjoint_no_conflict : (IsValue : K → Type 0) → NoFronts kb IsValue → IsValue k → (y : K × V) → leaf_in new.pairs first ≡ Some y → IsValue y.0 → ⊥
      disjoint_no_conflict IsValue law own y here other =
          let e : k ≡ x.0 = ap (λ (y : K × V). y.0) conflicted.1 in
          disjoint_unrelated kb old.pairs content distinct x IsValue law (subst IsValue e own) first conflicted.0.0 conflicted.0.1 y (subst (λ (t : Content K V). leaf_in t.pairs first ≡ Some y) conflicted.2 here) other

  module _ {id : ℕ} {k : K} {v : V} (is : r ≡ Ok (Stored id k v)) where
    stored : Adds kb old new x (Ok (Stored id k v))
    stored = subst (Adds kb old new x) is adds

    -- the pairs are unchanged
    pub stored_same : new.pairs ≡ old.pairs
    stored_same = ap (λ (t : Content K V). t.pairs) stored.2

    -- its bytes are stored
    pub added_stored : stores (pair_bytes kb) (pairs_of old.pairs) (kb x.0) ≡ true
    added_stored =
        let m = at_Some (bytes kb) old.pairs (kb x.0) (id, stored.0.0) stored.0.1 in
        list_any-map (λ p. p.1) (λ y. bytes_eq (kb y.0) (kb x.0)) old.pairs ∙ stores_member (bytes kb) old.pairs (kb x.0) (id, stored.0.0) m.0 m.1

    module _ (content : IsContent (bytes kb) old.pairs) (distinct : AreDistinct old.pairs) where
      -- the leaf exists
      pub stored_has : Has new.pairs id
      stored_has = subst (λ (t : Content K V). Has t.pairs id) (sym stored.2) (exact_has kb old.pairs content distinct (kb x.0) id stored.0)

      -- the leaf may take the key
      pub stored_takes : MayTake kb new.pairs id (kb k)
      stored_takes =
          let e : k ≡ x.0 = ap (λ (y : K × V). y.0) stored.1 in
          subst (λ (t : Content K V). MayTake kb t.pairs id (kb k)) (sym stored.2) (subst (λ z. MayTake kb old.pairs id (kb z)) (sym e) (exact_takes kb old.pairs content distinct (kb x.0) id stored.0))

      -- its value was written
      pub stored_written : {was w : V} → option_map (λ p. p.1) (leaf_in new.pairs id) ≡ Some was → w ≡ v
          → Puts kb (option_map (λ pair. pair.1)) (pairs_of old.pairs) x (kept kb (pairs_of old.pairs) x) (Ok (Some was)) (pairs_of (with_value new.pairs id w))
      stored_written {was} {w} here e =
          let same : v ≡ x.1 = ap (λ (y : K × V). y.1) stored.1 in
          value_put kb old.pairs content distinct x.0 x.1 was id stored.0 (subst (λ (t : Content K V). option_map (λ p. p.1) (leaf_in t.pairs id) ≡ Some was) stored.2 here) (with_value new.pairs id w)
          (ap (λ (t : Content K V). with_value t.pairs id w) stored.2 ∙ ap (with_value old.pairs id) (e ∙ same))

      -- its pair was replaced
      pub stored_exchanged : {was : K × V} {ns : List (Numbered K V)} → leaf_in new.pairs id ≡ Some was → ns ≡ with_pair new.pairs id (k, v) → Puts kb (λ pair. pair) (pairs_of old.pairs) x x (Ok (Some was)) (pairs_of ns)
      stored_exchanged {was} {ns} here e =
          exchanged kb old.pairs content distinct x id stored.0 was (subst (λ (t : Content K V). leaf_in t.pairs id ≡ Some was) stored.2 here) ns (e ∙ ap (λ (t : Content K V). with_pair t.pairs id (k, v)) stored.2 ∙ ap (with_pair old.pairs id) stored.1)
