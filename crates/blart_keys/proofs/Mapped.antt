-- Lemmas about a list and the list of its items' images.
use Rattle.std.proofs.Common.{◌≡◌, ℕ, Bool, true, false, cond, ◌||◌, inl, inr, List, [], ◌∷◌, map, refl, sym, ap, ◌∙◌, subst, Some, option_map, find, filter}
use Rattle.std.specs.Prelude.{Contains}
use Rattle.std.specs.List.{AllByRecursion, list_any}
use Rattle.std.specs.FinSet as set
use Rattle.blart_keys.specs.Bytes.{bytes_cmp, common, related}
use Rattle.blart_keys.specs.Content.{IsContent, IsPut, IsOver}
use Rattle.blart_keys.specs.Fronts.{commons, fronts}
use Rattle.blart_keys.proofs.RankLemmas.{Member, Contains-from_Member, Member-from_Contains, Ranked}
use Rattle.blart_keys.proofs.ContentLemmas.{Before, Ranked-from_content, content_from_Ranked}
use Rattle.blart_keys.proofs.PutLemmas.{put_member, member_put}

module _ {X Y : Type 0} (f : X → Y) where
  -- ---- tests

  -- the first image that passes is the image of the first item whose image passes
  pub find-map : (p : Y → Bool) (xs : List X) → find p (map f xs) ≡ option_map f (find (λ x. p (f x)) xs)
  find-map p [] = refl
  find-map p (x ∷ xs) =
      elim (p (f x)) as (λ b. cond b (Some (f x)) (find p (map f xs)) ≡ option_map f (cond b (Some x) (find (λ z. p (f z)) xs))) [ true ↦ refl | false ↦ find-map p xs ]

  -- some image passes if and only if the image of some item passes
  pub list_any-map : (p : Y → Bool) (xs : List X) → list_any p (map f xs) ≡ list_any (λ x. p (f x)) xs
  list_any-map p [] = refl
  list_any-map p (x ∷ xs) = ap (λ b. p (f x) || b) (list_any-map p xs)

  -- the images that pass are the images of the items whose images pass
  pub filter-map : (p : Y → Bool) (xs : List X) → filter p (map f xs) ≡ map f (filter (λ x. p (f x)) xs)
  filter-map p [] = refl
  filter-map p (x ∷ xs) =
      elim (p (f x)) as (λ b. cond b (f x ∷ filter p (map f xs)) (filter p (map f xs)) ≡ map f (cond b (x ∷ filter (λ z. p (f z)) xs) (filter (λ z. p (f z)) xs))) [
        | true ↦ ap (λ l. f x ∷ l) (filter-map p xs)
        | false ↦ filter-map p xs
      ]

  -- ---- elements

  -- the image of an item is one of the images
  pub Member-map : (x : X) (xs : List X) → Member x xs → Member (f x) (map f xs)
  Member-map x [] m = absurd m
  Member-map x (y ∷ xs) (inl e) = inl (ap f e)
  Member-map x (y ∷ xs) (inr m) = inr (Member-map x xs m)

  -- each of the images is the image of an item
  pub Member-from_map : (y : Y) (xs : List X) → Member y (map f xs) → (x : X) × Member x xs × (f x ≡ y)
  Member-from_map y [] m = absurd m
  Member-from_map y (x ∷ xs) (inl e) = (x, inl refl, e)
  Member-from_map y (x ∷ xs) (inr m) = let r = Member-from_map y xs m in (r.0, inr r.1, r.2)

  -- if P holds of the image of each item, it holds of all images
  all_map : (P : Y → Type 0) (xs : List X) → AllByRecursion (λ x. P (f x)) xs → AllByRecursion P (map f xs)
  all_map P [] h = tt
  all_map P (x ∷ xs) h = (h.0, all_map P xs h.1)

  -- if the items are ranked by their images, the images are ranked
  pub ranked_map : (R : Y → Y → Type 0) (xs : List X) → Ranked (λ x y. R (f x) (f y)) xs → Ranked R (map f xs)
  ranked_map R [] h = tt
  ranked_map R (x ∷ xs) h = (all_map (R (f x)) xs h.0, ranked_map R xs h.1)

  -- if P holds of all images, it holds of the image of each item
  all_from_map : (P : Y → Type 0) (xs : List X) → AllByRecursion P (map f xs) → AllByRecursion (λ x. P (f x)) xs
  all_from_map P [] h = tt
  all_from_map P (x ∷ xs) h = (h.0, all_from_map P xs h.1)

  -- if the images are ranked, the items are ranked by their images
  ranked_from_map : (R : Y → Y → Type 0) (xs : List X) → Ranked R (map f xs) → Ranked (λ x y. R (f x) (f y)) xs
  ranked_from_map R [] h = tt
  ranked_from_map R (x ∷ xs) h = (all_from_map (R (f x)) xs h.0, ranked_from_map R xs h.1)

  -- ---- contents

  module _ (bytes : Y → List ℕ) where
    -- if the images are a content, the items are a content by the bytes of their images
    pub content_from_map : (xs : List X) → IsContent bytes (map f xs) → IsContent (λ x. bytes (f x)) xs
    content_from_map xs c = content_from_Ranked (λ x. bytes (f x)) xs (ranked_from_map (Before bytes) xs (Ranked-from_content bytes (map f xs) c))

    -- the images of a content are a content
    pub content_map : (xs : List X) → IsContent (λ x. bytes (f x)) xs → IsContent bytes (map f xs)
    content_map xs c = content_from_Ranked bytes (map f xs) (ranked_map (Before bytes) xs (Ranked-from_content (λ x. bytes (f x)) xs c))

    -- if an item is put, its image is put into the images
    pub put_map : (S S' : List X) (x : X) → IsPut (λ x. bytes (f x)) S x S' → IsPut bytes (map f S) (f x) (map f S')
    put_map S S' x p = record {
      content = content_map S' p.content;
      there = Contains-from_Member (f x) (map f S') (Member-map x S' (Member-from_Contains x S' p.there));
      others = λ y off. (
        λ m. (
            let r = Member-from_map y S' (Member-from_Contains y (map f S') m) in
            let own = put_member (λ x. bytes (f x)) S S' x r.0 p r.1 in
            Contains-from_Member y (map f S) (elim own [
              | inl e ↦ absurd (off (ap bytes (sym r.2 ∙ ap f e)))
              | inr o ↦ subst (λ z. Member z (map f S)) r.2 (Member-map r.0 S o.0)
            ])),
        λ m. (
            let r = Member-from_map y S (Member-from_Contains y (map f S) m) in
            Contains-from_Member y (map f S') (subst (λ z. Member z (map f S')) r.2 (Member-map r.0 S' (member_put (λ x. bytes (f x)) S S' x r.0 p r.1 (λ e. off (ap bytes (sym r.2) ∙ e)))))),
      );
    }

    -- if each unrelated item of one list is in the other, the same holds of the images
    others_map : (S T : List X) (q : List ℕ) → ((x : X) → related (bytes (f x)) q ≡ false → Contains S x → Contains T x) → (y : Y) → related (bytes y) q ≡ false → Contains (map f S) y → Contains (map f T) y
    others_map S T q h y off m =
        let r = Member-from_map y S (Member-from_Contains y (map f S) m) in
        let far : related (bytes (f r.0)) q ≡ false = ap (λ z. related (bytes z) q) r.2 ∙ off in
        let there = h r.0 far (Contains-from_Member r.0 S r.1) in
        subst (Contains (map f T)) r.2 (Contains-from_Member (f r.0) (map f T) (Member-map r.0 T (Member-from_Contains r.0 T there)))

    -- if an item is put over all related items, its image is put over the related images
    pub over_map : (S S' : List X) (x : X) → IsOver (λ x. bytes (f x)) S x S' → IsOver bytes (map f S) (f x) (map f S')
    over_map S S' x p = record {
      content = content_map S' p.content;
      there = Contains-from_Member (f x) (map f S') (Member-map x S' (Member-from_Contains x S' p.there));
      others = λ y off. (
        others_map S' S (bytes (f x)) (λ z far. (p.others z far).0) y off,
        others_map S S' (bytes (f x)) (λ z far. (p.others z far).1) y off,
      );
    }

    -- the images have the same `commons` as the items
    pub commons-map : (xs : List X) → commons bytes (map f xs) ≡ commons (λ x. bytes (f x)) xs
    commons-map [] = refl
    commons-map (x ∷ []) = refl
    commons-map (x ∷ y ∷ xs) = ap (λ l. common (bytes (f x)) (bytes (f y)) ∷ l) (commons-map (y ∷ xs))

    -- and the same `fronts`
    pub fronts-map : (xs : List X) → fronts bytes (map f xs) ≡ fronts (λ x. bytes (f x)) xs
    fronts-map xs = ap (λ (l : List (List ℕ)). set.from_list {R = bytes_cmp} l) (commons-map xs)
