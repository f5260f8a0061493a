-- Which bytes a set has after a call, by what the map of units has at them.
use Rattle.std.proofs.Common.{◌≡◌, ℕ, Bool, true, false, ◌||◌, List, refl, sym, ap, ◌∙◌, Option, Some, None, option_map, if◌then◌else◌}
use Rattle.std.specs.Option.{is_some}
use Rattle.blart_keys.specs.Bytes.{begins, less}
use Rattle.blart_keys.specs.Content.{front_of, stores}
use Rattle.blart_keys.specs.Steps.{bytes}
use Rattle.blart_keys.specs.Stored.{pair_at, pair_at_front, has, Overwrites}
use Rattle.blart_keys.proofs.StoredLemmas.{stores_is}
use Rattle.blart_map.specs.Bulk.{or_else}
use Rattle.blart_keys.specs.Routed.{spared_item}
use Rattle.blart_set.specs.Elements.{OverwritesElement}
use Rattle.blart_set.proofs.Pairs.{keys, stores-keys, front-keys}

on_if : {A B : Type 0} (f : A → B) (b : Bool) (x y : A) → f (if b then x else y) ≡ (if b then f x else f y)
on_if f true x y = refl
on_if f false x y = refl

module _ {K V : Type 0} (kb : K → List ℕ) where
  -- the set has the bytes of the pairs of its map
  stored : (S : List (K × V)) (r : List ℕ) → stores kb (keys kb S) r ≡ has kb S r
  stored S r = stores-keys kb S r ∙ stores_is kb S r

  -- ---- an element put over all related ones

  pub overwritten-keys : (S S' : List (K × V)) (x : K × V) → Overwrites kb S x S' → OverwritesElement kb (keys kb S) (keys kb S') (kb x.0)
  overwritten-keys S S' x over = record {
    there = stored S' (kb x.0) ∙ ap (λ o. is_some o) over.there;
    gone = λ r rel off. stored S' r ∙ ap (λ o. is_some o) (over.gone r rel off);
    others = λ r un. stored S' r ∙ ap (λ o. is_some o) (over.others r un) ∙ sym (stored S r);
  }

  -- the key of a spared item
  spared-key : (q : List ℕ) (o : Option (K × V)) → option_map (λ p. p.0) (spared_item (bytes kb) q o) ≡ spared_item kb q (option_map (λ p. p.0) o)
  spared-key q None = refl
  spared-key q (Some y) = on_if (option_map (λ p. p.0)) (begins (kb y.0) q) None (Some y)

  pub routed-keys : (S S' : List (K × V)) (x : K × V)
      → ((r : List ℕ) → pair_at_front kb S' r ≡ (if begins (kb x.0) r then Some x else spared_item (bytes kb) (kb x.0) (pair_at_front kb S r)))
      → (r : List ℕ) → front_of kb (keys kb S') r ≡ (if begins (kb x.0) r then Some x.0 else spared_item kb (kb x.0) (front_of kb (keys kb S) r))
  unfolding pair_at_front
  routed-keys S S' x routes r =
      front-keys kb S' r ∙ ap (option_map (λ p. p.0)) (routes r) ∙ on_if (option_map (λ p. p.0)) (begins (kb x.0) r) (Some x) (spared_item (bytes kb) (kb x.0) (front_of (bytes kb) S r))
      ∙ ap (λ o. if begins (kb x.0) r then Some x.0 else o) (spared-key (kb x.0) (front_of (bytes kb) S r) ∙ ap (λ o. spared_item kb (kb x.0) o) (sym (front-keys kb S r)))

  -- ---- two sets joined, and one split

  pub appended-stores : (S T S' : List (K × V)) → ((q : List ℕ) → pair_at kb S' q ≡ or_else (pair_at kb T q) (pair_at kb S q)) → (q : List ℕ) → stores kb (keys kb S') q ≡ (stores kb (keys kb T) q || stores kb (keys kb S) q)
  appended-stores S T S' found q = rw (stored T q, stored S q) (stored S' q ∙ ap (λ o. is_some o) (found q) ∙ either (pair_at kb T q) (pair_at kb S q))
    where
      either : (o p : Option (K × V)) → is_some (or_else o p) ≡ (is_some o || is_some p)
      either None p = refl
      either (Some y) p = refl

  module _ (S S' : List (K × V)) (q : List ℕ) where
    -- the bytes that are less than q are kept, and the others are not
    pub kept-stores : ((r : List ℕ) → pair_at kb S' r ≡ (if less r q then pair_at kb S r else None)) → (r : List ℕ) → stores kb (keys kb S') r ≡ (if less r q then stores kb (keys kb S) r else false)
    kept-stores kept r = rw (stored S r) (stored S' r ∙ ap (λ o. is_some o) (kept r) ∙ on_if (λ (o : Option (K × V)). is_some o) (less r q) (pair_at kb S r) None)

    pub given-stores : ((r : List ℕ) → pair_at kb S' r ≡ (if less r q then None else pair_at kb S r)) → (r : List ℕ) → stores kb (keys kb S') r ≡ (if less r q then false else stores kb (keys kb S) r)
    given-stores given r = rw (stored S r) (stored S' r ∙ ap (λ o. is_some o) (given r) ∙ on_if (λ (o : Option (K × V)). is_some o) (less r q) None (pair_at kb S r))
