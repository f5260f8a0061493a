-- Contents seen with the bytes of their keys in place of the keys.
use Rattle.std.proofs.Common.{◌≡◌, ℕ, List, [], map, Option, Some, None, option_map, Result, Ok, Err, refl, sym, ap, subst, ◌∙◌, ◌&&◌, bytes_eq, not}
use Rattle.std.specs.declared.ops.Bound.{Bound}
use Rattle.blart_keys.specs.declared.calls.TryInsertError.{TryInsertError}
use Rattle.blart_keys.specs.declared.calls.TryInsertError.TheVariants.{Prefix, Memory}
use Rattle.blart_keys.specs.Bounds.{is_from_start, is_up_to_end}
use Rattle.blart_keys.specs.Bytes.{begins, related, conflicts}
use Rattle.blart_keys.specs.Content.{at, front_of, subtree, under, between, without, IsPut, IsOver}
use Rattle.blart_keys.specs.Outside.{outside}
use Rattle.blart_keys.specs.Steps.{bytes, Puts}
use Rattle.blart_keys.specs.Stored.{kept}
use Rattle.blart_keys.proofs.StoredLemmas.{kept_bytes}
use Rattle.blart_keys.proofs.Mapped.{find-map, filter-map, list_any-map, put_map, over_map}

module _ {K V : Type 0} (key_bytes : K → List ℕ) where
  -- a pair, with its key's bytes in place of the key
  abbrev shown : K × V → List ℕ × V
  shown pair = (key_bytes pair.0, pair.1)

  -- the bytes of such a pair
  abbrev first : List ℕ × V → List ℕ
  first pair = pair.0

  same_value : (o : Option (K × V)) → option_map (λ (pair : List ℕ × V). pair.1) (option_map shown o) ≡ option_map (λ (pair : K × V). pair.1) o
  same_value (Some pair) = refl
  same_value None = refl

  -- the value of a key
  pub value-view : (S : List (K × V)) (q : List ℕ)
      → option_map (λ (pair : List ℕ × V). pair.1) (at first (map shown S) q) ≡ option_map (λ (pair : K × V). pair.1) (at (bytes key_bytes) S q)
  value-view S q = ap (option_map (λ (pair : List ℕ × V). pair.1)) (find-map shown (λ y. bytes_eq (first y) q) S) ∙ same_value (at (bytes key_bytes) S q)

  -- the pair whose key is a prefix of some bytes
  pub front-view : (S : List (K × V)) (q : List ℕ) → front_of first (map shown S) q ≡ option_map shown (front_of (bytes key_bytes) S q)
  front-view S q = find-map shown (λ y. begins (first y) q) S

  -- the pairs with other bytes
  pub without-view : (S : List (K × V)) (q : List ℕ) → without first (map shown S) q ≡ map shown (without (bytes key_bytes) S q)
  without-view S q = filter-map shown (λ y. not (bytes_eq (first y) q)) S

  -- the pairs whose bytes do not begin with some
  pub outside-view : (S : List (K × V)) (q : List ℕ) → outside first (map shown S) q ≡ map shown (outside (bytes key_bytes) S q)
  outside-view S q = filter-map shown (λ y. not (begins q (first y))) S

  -- the pairs whose bytes begin with some
  pub under-view : (S : List (K × V)) (q : List ℕ) → under first (map shown S) q ≡ map shown (under (bytes key_bytes) S q)
  under-view S q = filter-map shown (λ y. begins q (first y)) S

  -- the pairs within two bounds
  pub between-view : (S : List (K × V)) (lo hi : Bound (List ℕ)) → between first (map shown S) lo hi ≡ map shown (between (bytes key_bytes) S lo hi)
  between-view S lo hi = filter-map shown (λ y. is_from_start lo (first y) && is_up_to_end hi (first y)) S

  -- if no pair is related, none is related by its bytes
  pub subtree-view : (S : List (K × V)) (q : List ℕ) → subtree (bytes key_bytes) S q ≡ [] → subtree first (map shown S) q ≡ []
  subtree-view S q e = filter-map shown (λ y. related (first y) q) S ∙ ap (map shown) e

  -- a put and its result
  pub Puts-view : (S : List (K × V)) (key : K) (value : V) (r : Result (Option V) TryInsertError) (S' : List (K × V))
      → Puts key_bytes (option_map (λ pair. pair.1)) S (key, value) (kept key_bytes S (key, value)) r S'
      → Puts (λ k. k) (option_map (λ pair. pair.1)) (map shown S) (key_bytes key, value) (key_bytes key, value) r (map shown S')
  Puts-view S key value (Ok reply) S' h = (
    list_any-map shown (λ y. conflicts (first y) (key_bytes key)) S ∙ h.0,
    subst (λ k. IsPut first (map shown S) (k, value) (map shown S')) (kept_bytes key_bytes S (key, value)) (put_map shown first S S' (kept key_bytes S (key, value)) h.1),
    h.2 ∙ sym (value-view S (key_bytes key)),
  )
  Puts-view S key value (Err (Prefix e)) S' h = (list_any-map shown (λ y. conflicts (first y) (key_bytes key)) S ∙ h.0, ap (map shown) h.1)
  Puts-view S key value (Err (Memory e)) S' h = (
    list_any-map shown (λ y. conflicts (first y) (key_bytes key)) S ∙ h.0,
    list_any-map shown (λ y. bytes_eq (first y) (key_bytes key)) S ∙ h.1,
    ap (map shown) h.2,
  )

  -- a put over all related pairs
  pub Over-view : (S : List (K × V)) (key : K) (value : V) (S' : List (K × V)) → IsOver (bytes key_bytes) S (key, value) S' → IsOver first (map shown S) (key_bytes key, value) (map shown S')
  Over-view S key value S' h = over_map shown first S S' (key, value) h
