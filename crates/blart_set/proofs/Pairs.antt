-- What the pairs of a map of units say of the list of its keys.
use Rattle.std.proofs.Common.{◌≡◌, ℕ, true, false, not, List, [], ◌∷◌, map, refl, sym, ap, ◌∙◌, subst, Option, Some, None, option_map, bytes_eq, Bool, ◌&&◌, inl, inr}
use Rattle.std.specs.Option.{is_some, is_none}
use Rattle.std.specs.Result.{result_map_both}
use Rattle.std.proofs.lemmas.List.{map-append}
use Rattle.std.specs.Prelude.{Result, Ok, Err, OnOk, OnErr, IfOk, IfErr, IfSome}
use Rattle.std.specs.declared.ops.Bound.{Bound}
use Rattle.blart_keys.specs.Bounds.{CanRange, is_from_start, is_up_to_end}
use Rattle.blart_keys.specs.Steps.{bytes, Puts, Inserts, PutsOver}
use Rattle.blart_keys.specs.declared.calls.TryInsertError.{TryInsertError}
use Rattle.blart_keys.specs.declared.calls.TryInsertError.TheVariants.{Prefix, Memory}
use Rattle.blart_set.specs.Elements.{RefusesElement, UpdatesElement}
use Rattle.blart_keys.proofs.StoredLemmas.{is_some-map, some-at, stores_is}
use Rattle.blart_keys.specs.Bytes.{begins, related, conflicts}
use Rattle.blart_keys.specs.Content.{at, conflict, front_of, stores, subtree, without, under, between, IsPut, IsOver}
use Rattle.blart_keys.specs.Bulk.{PutsAll}
use Rattle.blart_keys.specs.Stored.{pair_at, kept_key, kept_pair, kept_item, kept, Updates, TakesPair}
use Rattle.blart_keys.specs.Walks.{TakesFirst, TakesLast}
use Rattle.blart_keys.proofs.Mapped.{find-map, list_any-map, filter-map, put_map, over_map}

-- ---- what an insertion into the map says

module _ {V E : Type 0} where
  abbrev pub told : Result (Option V) E → Result Bool E
  told r = result_map_both is_none (λ e. e) r

module _ {K V : Type 0} (kb : K → List ℕ) (S : List (K × V)) where
  abbrev pub keys : List K
  keys = map (λ p. p.0) S

  pub at-keys : (q : List ℕ) → at kb keys q ≡ option_map (λ p. p.0) (at (bytes kb) S q)
  at-keys q = find-map (λ p. p.0) (λ x. bytes_eq (kb x) q) S

  pub front-keys : (q : List ℕ) → front_of kb keys q ≡ option_map (λ p. p.0) (front_of (bytes kb) S q)
  front-keys q = find-map (λ p. p.0) (λ x. begins (kb x) q) S

  pub stores-keys : (q : List ℕ) → stores kb keys q ≡ stores (bytes kb) S q
  stores-keys q = list_any-map (λ p. p.0) (λ x. bytes_eq (kb x) q) S

  pub conflict-keys : (q : List ℕ) → conflict kb keys q ≡ conflict (bytes kb) S q
  conflict-keys q = list_any-map (λ p. p.0) (λ x. conflicts (kb x) q) S

  pub without-keys : (q : List ℕ) → without kb keys q ≡ map (λ p. p.0) (without (bytes kb) S q)
  without-keys q = filter-map (λ p. p.0) (λ x. not (bytes_eq (kb x) q)) S

  pub put-keys : (S' : List (K × V)) (x : K × V) → IsPut (bytes kb) S x S' → IsPut kb keys x.0 (map (λ p. p.0) S')
  put-keys S' x p = put_map (λ p. p.0) kb S S' x p

module _ {K V : Type 0} where
  pub takes_first-keys : (S S' : List (K × V)) (r : Option (K × V)) → TakesFirst S r S' → TakesFirst (map (λ p. p.0) S) (option_map (λ p. p.0) r) (map (λ p. p.0) S')
  takes_first-keys S S' None h = (ap (map (λ p. p.0)) h.0, ap (map (λ p. p.0)) h.1)
  takes_first-keys S S' (Some p) h = ap (map (λ p. p.0)) h

  pub takes_last-keys : (S S' : List (K × V)) (r : Option (K × V)) → TakesLast S r S' → TakesLast (map (λ p. p.0) S) (option_map (λ p. p.0) r) (map (λ p. p.0) S')
  takes_last-keys S S' None h = (ap (map (λ p. p.0)) h.0, ap (map (λ p. p.0)) h.1)
  takes_last-keys S S' (Some p) h = ap (map (λ p. p.0)) h ∙ map-append (λ (p : K × V). p.0) S' (p ∷ [])

  -- no value was found if and only if the bytes are new
  new-keys : (kb : K → List ℕ) (S : List (K × V)) (q : List ℕ) (o : Option V) → o ≡ option_map (λ p. p.1) (at (bytes kb) S q) → is_none o ≡ not (stores kb (keys kb S) q)
  new-keys kb S q o e = ap is_none e ∙ ap not (is_some-map (λ (p : K × V). p.1) (at (bytes kb) S q) ∙ some-at (bytes kb) S q ∙ sym (stores-keys kb S q))

  module _ (kb : K → List ℕ) (S S' : List (K × V)) (q : List ℕ) where
    -- which bytes are stored after an update
    pub updates-keys : (w : Option (K × V)) → Updates kb S S' q w → UpdatesElement kb (keys kb S) (keys kb S') q (is_some w)
    updates-keys w u = (
      stores-keys kb S' q ∙ stores_is kb S' q ∙ ap is_some u.0,
      λ r off. stores-keys kb S' r ∙ stores_is kb S' r ∙ ap is_some (u.1 r off) ∙ sym (stores_is kb S r) ∙ sym (stores-keys kb S r),
    )

    pub updates-told : {E : Type 0} (x : K × V) (r : Result (Option V) E) → OnOk r (Updates kb S S' q (Some x)) → OnOk (told r) (UpdatesElement kb (keys kb S) (keys kb S') q true)
    updates-told x (Ok o) u = updates-keys (Some x) u
    updates-told x (Err e) u = tt

  -- which bytes are stored after the first pair, or the last, is removed
  pub takes-keys : (kb : K → List ℕ) (S S' : List (K × V)) (r : Option (K × V)) → IfSome r (λ p. TakesPair kb S p S') → IfSome (option_map (λ p. p.0) r) (λ x. UpdatesElement kb (keys kb S) (keys kb S') (kb x) false)
  takes-keys kb S S' None h = tt
  takes-keys kb S S' (Some p) h = updates-keys kb S S' (kb p.0) None h.1

  module _ (kb : K → List ℕ) (S S' : List (K × V)) (x : K × V) where
    -- which element is stored
    kept-keys : (kept kb S x).0 ≡ kept_item (at kb (keys kb S) (kb x.0)) x.0
    unfolding pair_at
    kept-keys = same (at (bytes kb) S (kb x.0)) ∙ ap (λ o. kept_item o x.0) (sym (at-keys kb S (kb x.0)))
      where
        same : (o : Option (K × V)) → kept_key o x.0 ≡ kept_item (option_map (λ p. p.0) o) x.0
        same None = refl
        same (Some p) = refl

    pub inserts-new : {E : Type 0} (y : K × V) (r : Result (Option V) E) → Inserts kb S x y r S' → IfOk (told r) (λ new. new ≡ not (stores kb (keys kb S) (kb x.0)))
    inserts-new y (Ok o) h = new-keys kb S (kb x.0) o h.1
    inserts-new y (Err e) h = tt

    pub inserts-put : {E : Type 0} (r : Result (Option V) E) → Inserts kb S x (kept kb S x) r S' → OnOk (told r) (IsPut kb (keys kb S) (kept_item (at kb (keys kb S) (kb x.0)) x.0) (keys kb S'))
    inserts-put (Ok o) h = subst (λ z. IsPut kb (keys kb S) z (keys kb S')) kept-keys (put-keys kb S S' (kept kb S x) h.0)
    inserts-put (Err e) h = tt

    pub inserts-absent : {E : Type 0} (y : K × V) (r : Result (Option V) E) → Inserts kb S x y r S' → OnErr (told r) (stores kb (keys kb S) (kb x.0) ≡ false)
    inserts-absent y (Ok o) h = tt
    inserts-absent y (Err e) h = stores-keys kb S (kb x.0) ∙ h.0

    pub puts-new : (y : K × V) (r : Result (Option V) TryInsertError) → Puts kb (option_map (λ p. p.1)) S x y r S' → IfOk (told r) (λ new. new ≡ not (stores kb (keys kb S) (kb x.0)))
    puts-new y (Ok o) h = new-keys kb S (kb x.0) o h.2
    puts-new y (Err e) h = tt

    pub puts-put : (r : Result (Option V) TryInsertError) → Puts kb (option_map (λ p. p.1)) S x (kept kb S x) r S' → OnOk (told r) (IsPut kb (keys kb S) (kept_item (at kb (keys kb S) (kb x.0)) x.0) (keys kb S'))
    puts-put (Ok o) h = subst (λ z. IsPut kb (keys kb S) z (keys kb S')) kept-keys (put-keys kb S S' (kept kb S x) h.1)
    puts-put (Err e) h = tt

    pub puts-free : (y : K × V) (r : Result (Option V) TryInsertError) → Puts kb (option_map (λ p. p.1)) S x y r S' → OnOk (told r) (conflict kb (keys kb S) (kb x.0) ≡ false)
    puts-free y (Ok o) h = conflict-keys kb S (kb x.0) ∙ h.0
    puts-free y (Err e) h = tt

    pub puts-why : (y : K × V) (r : Result (Option V) TryInsertError) → Puts kb (option_map (λ p. p.1)) S x y r S' → IfErr (told r) (RefusesElement kb (keys kb S) (kb x.0))
    puts-why y (Ok o) h = tt
    puts-why y (Err (Prefix e)) h = conflict-keys kb S (kb x.0) ∙ h.0
    puts-why y (Err (Memory e)) h = (conflict-keys kb S (kb x.0) ∙ h.0, stores-keys kb S (kb x.0) ∙ h.1)

  -- what an insertion over all related pairs leaves
  pub over-puts : (kb : K → List ℕ) (S S' : List (K × V)) (x : K × V) {A E : Type 0} (r : Result A E) → PutsOver kb S x r S' → OnOk r (IsOver kb (keys kb S) x.0 (keys kb S'))
  over-puts kb S S' x (Ok a) h = over_map (λ p. p.0) kb S S' x h
  over-puts kb S S' x (Err e) h = tt

  pub alone-puts : (kb : K → List ℕ) (S S' : List (K × V)) (x : K × V) {A E : Type 0} (r : Result A E) → PutsOver kb S x r S' → OnErr r (subtree kb (keys kb S) (kb x.0) ≡ [])
  alone-puts kb S S' x (Ok a) h = tt
  alone-puts kb S S' x (Err e) h = filter-map (λ p. p.0) (λ y. related (kb y) (kb x.0)) S ∙ ap (map (λ p. p.0)) h.0

module _ {K V : Type 0} (kb : K → List ℕ) (S : List (K × V)) where
  pub under-keys : (q : List ℕ) → under kb (keys kb S) q ≡ map (λ p. p.0) (under (bytes kb) S q)
  under-keys q = filter-map (λ p. p.0) (λ x. begins q (kb x)) S

  pub between-keys : (lo hi : Bound (List ℕ)) → between kb (keys kb S) lo hi ≡ map (λ p. p.0) (between (bytes kb) S lo hi)
  between-keys lo hi = filter-map (λ p. p.0) (λ x. is_from_start lo (kb x) && is_up_to_end hi (kb x)) S

  -- if the keys can be walked within bounds, the map can
  pub can_range-keys : (lo hi : Bound (List ℕ)) → CanRange (keys kb S) lo hi → CanRange S lo hi
  can_range-keys lo hi (inl e) = inl (none S e)
    where
      none : (S : List (K × V)) → map (λ p. p.0) S ≡ [] → S ≡ []
      none [] e = refl
      none (p ∷ S) e = absurd cc
  can_range-keys lo hi (inr e) = inr e

-- elements that are put in turn, each with a unit
pub puts_all-keys : {K V : Type 0} → (kb : K → List ℕ) (S xs S' : List (K × V)) → PutsAll (bytes kb) kept_pair S xs S' → PutsAll kb kept_item (keys kb S) (map (λ p. p.0) xs) (keys kb S')
unfolding pair_at
puts_all-keys kb S [] S' h = ap (λ l. map (λ p. p.0) l) h
puts_all-keys kb S (x ∷ xs) S' h = (keys kb h.0, subst (λ z. IsPut kb (keys kb S) z (keys kb h.0)) (kept-keys kb S h.0 x) (put-keys kb S h.0 (kept_pair (at (bytes kb) S (kb x.0)) x) h.1), puts_all-keys kb h.0 xs S' h.2)
