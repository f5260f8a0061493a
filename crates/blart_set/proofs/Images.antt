-- What many pairs of a map of units say of the list of its keys.
use Rattle.std.proofs.Common.{◌≡◌, ◌≢◌, ℕ, false, inl, inr, List, [], ◌∷◌, ◌++◌, map, refl, sym, ap, ◌∙◌, subst, Contains, bytes_eq}
use Rattle.std.proofs.lemmas.List.{map-append}
use Rattle.std.specs.declared.ops.Bound.{Bound}
use Rattle.blart_keys.specs.Content.{stores, between, IsContent}
use Rattle.blart_keys.specs.Merges.{IsUnion}
use Rattle.blart_keys.specs.Steps.{bytes}
use Rattle.blart_keys.proofs.RankLemmas.{Contains-from_Member, Member-from_Contains, Ranked-from_AllPairs, AllPairs-from_Ranked}
use Rattle.blart_keys.proofs.MergeLemmas.{Lower}
use Rattle.blart_keys.proofs.Mapped.{Member-map, Member-from_map, list_any-map, ranked_map, content_from_map}
use Rattle.blart_map.specs.Bulk.{AreClones}
use Rattle.blart_set.specs.Clones.{KeepsBytes, AreElementClones}
use Rattle.blart_set.proofs.Pairs.{keys, between-keys}

module _ {X Y : Type 0} (f : X → Y) where
  -- if there are items, there are images
  pub some_images : (xs : List X) → xs ≢ [] → map f xs ≢ []
  some_images [] n e = n refl
  some_images (x ∷ xs) n e = absurd cc

  module _ (bytes : Y → List ℕ) where
    -- the images of a union are a union
    pub union_images : (A B U : List X) → IsUnion (λ x. bytes (f x)) A B U → IsUnion bytes (map f A) (map f B) (map f U)
    union_images A B U u = record {
      ascends = AllPairs-from_Ranked (Lower bytes) (map f U) (ranked_map f (Lower bytes) U (Ranked-from_AllPairs (Lower (λ x. bytes (f x))) U u.ascends));
      elements = λ y. (
        λ m. (
            let r = Member-from_map f y U (Member-from_Contains y (map f U) m) in
            elim ((u.elements r.0).0 (Contains-from_Member r.0 U r.1)) [
              | inl a ↦ inl (image y A r.0 a r.2)
              | inr b ↦ inr (image y B r.0 b.0 r.2, lacked y A r.0 b.1 r.2)
            ]),
        λ m. elim m [
          | inl a ↦ let r = Member-from_map f y A (Member-from_Contains y (map f A) a) in image y U r.0 ((u.elements r.0).1 (inl (Contains-from_Member r.0 A r.1))) r.2
          | inr b ↦
              let r = Member-from_map f y B (Member-from_Contains y (map f B) b.0) in
              image y U r.0 ((u.elements r.0).1 (inr (Contains-from_Member r.0 B r.1, lacks y A r.0 b.1 r.2))) r.2
        ],
      );
    }
      where
        image : (y : Y) (S : List X) (x : X) → Contains S x → f x ≡ y → Contains (map f S) y
        image y S x m e = subst (Contains (map f S)) e (Contains-from_Member (f x) (map f S) (Member-map f x S (Member-from_Contains x S m)))

        lacked : (y : Y) (S : List X) (x : X) → stores (λ x. bytes (f x)) S (bytes (f x)) ≡ false → f x ≡ y → stores bytes (map f S) (bytes y) ≡ false
        lacked y S x h e = subst (λ z. stores bytes (map f S) (bytes z) ≡ false) e (list_any-map f (λ z. bytes_eq (bytes z) (bytes (f x))) S ∙ h)

        lacks : (y : Y) (S : List X) (x : X) → stores bytes (map f S) (bytes y) ≡ false → f x ≡ y → stores (λ x. bytes (f x)) S (bytes (f x)) ≡ false
        lacks y S x h e = sym (list_any-map f (λ z. bytes_eq (bytes z) (bytes (f x))) S) ∙ subst (λ z. stores bytes (map f S) (bytes z) ≡ false) (sym e) h

module _ {K V : Type 0} (kb : K → List ℕ) where
  -- if one list is after the other, the keys are joined
  pub joined-keys : (S T U : List (K × V)) → ((W : List (K × V)) → IsContent (bytes kb) W → W ≡ S ++ T → U ≡ W) → (W : List K) → IsContent kb W → W ≡ keys kb S ++ keys kb T → keys kb U ≡ W
  joined-keys S T U h W c e =
      let whole : W ≡ keys kb (S ++ T) = e ∙ sym (map-append (λ (p : K × V). p.0) S T) in
      ap (keys kb) (h (S ++ T) (content_from_map (λ p. p.0) kb (S ++ T) (subst (IsContent kb) whole c)) refl) ∙ sym whole

  -- if pairs are within the bounds, elements are
  pub some_between-keys : (S : List (K × V)) (lo hi : Bound (List ℕ)) → between (bytes kb) S lo hi ≢ [] → between kb (keys kb S) lo hi ≢ []
  some_between-keys S lo hi n e = some_images (λ p. p.0) (between (bytes kb) S lo hi) n (sym (between-keys kb S lo hi) ∙ e)

  pub whole-keys : (S A B : List (K × V)) → S ≡ A ++ B → keys kb S ≡ keys kb A ++ keys kb B
  whole-keys S A B e = ap (keys kb) e ∙ map-append (λ (p : K × V). p.0) A B

  module _ (is_clone : K → K → Type 0) (is_value : V → V → Type 0) where
    -- a clone of a key keeps its bytes if a clone of the element does
    pub keeps-keys : (S : List (K × V)) → KeepsBytes kb is_clone (keys kb S) → (k j : K) (v : V) → Contains S (k, v) → is_clone k j → kb j ≡ kb k
    keeps-keys S h k j v m c = h k j (Contains-from_Member k (keys kb S) (Member-map (λ (p : K × V). p.0) (k, v) S (Member-from_Contains (k, v) S m))) c

    -- clones of pairs have clones of the keys
    pub clones-keys : (S T : List (K × V)) → AreClones kb is_clone is_value S T → AreElementClones kb is_clone (keys kb S) (keys kb T)
    clones-keys [] [] h = tt
    clones-keys [] (y ∷ T) h = absurd h
    clones-keys (x ∷ S) [] h = absurd h
    clones-keys (x ∷ S) (y ∷ T) h = (record { clone = h.0.key; bytes = h.0.bytes }, clones-keys S T h.1)
