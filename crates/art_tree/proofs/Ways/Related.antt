-- Keys that are prefixes of a query, and keys that have it as a prefix.
use Rattle.std.proofs.Common.{◌≡◌, ◌≢◌, ℕ, refl, true, false, ◌⊎◌, inl, inr, length, ap, sym, subst, ◌∙◌, Option, Some, arith}
use Rattle.std.proofs.lemmas.Bool.{cases_lt, false≢true}
use Rattle.std.proofs.lemmas.Bool.Decides.{eqb_tells}
use Rattle.blart_keys.specs.Bytes.{related, common}
use Rattle.blart_keys.proofs.ContentLemmas.{related-same}
use Rattle.art_tree.specs.Begins.{Bytes, Begins}
use Rattle.art_kinds.specs.Nodes.{Node}
use Rattle.art_tree.specs.Invariant.Shape.{Shape}
use Rattle.art_kinds.specs.declared.records.ids.Child.{Child}
use Rattle.art_tree.proofs.BeginsLemmas.{Begins-trans, Begins-linear, Begins-equal, common-left, common-right, related_cases}
use Rattle.art_tree.proofs.Invariant.SmallShapes.{unrelated}

-- ---- the common prefix of q and a key

module _ (nearest q : Bytes) (d : ℕ) (d_is : d ≡ length (common nearest q)) where
  -- all of both: they are equal
  pub nearest_same : d ≡ length q → d ≡ length nearest → nearest ≡ q
  nearest_same a b = sym (Begins-equal (common nearest q) nearest (common-left nearest q) (omega arith)) ∙ Begins-equal (common nearest q) q (common-right nearest q) (omega arith)

  -- all of the nearest key: it is a prefix of q
  pub nearest_begins : d ≡ length nearest → Begins nearest q
  nearest_begins a = subst (λ (k : Bytes). Begins k q) (Begins-equal (common nearest q) nearest (common-left nearest q) (omega arith)) (common-right nearest q)

  -- all of q: it is a prefix of the nearest key
  pub nearest_begun : d ≡ length q → Begins q nearest
  nearest_begun a = subst (λ (k : Bytes). Begins k nearest) (Begins-equal (common nearest q) q (common-right nearest q) (omega arith)) (common-left nearest q)

module _ {P : ℕ} (keys : ℕ → Option Bytes) (nodes : ℕ → Option Node) (root : Option Child) (s : Shape P keys nodes root) (i : ℕ) (nearest : Bytes) (is : keys i ≡ Some nearest) where
  -- of two keys, one is a prefix of the other only if they are the same
  pub one_key : (j : ℕ) (k : Bytes) → keys j ≡ Some k → Begins k nearest ⊎ Begins nearest k → j ≡ i
  one_key j k e h =
      elim (eqb_tells j i) [
        | inl same ↦ same.1
        | inr off ↦ elim h [
          | inl b ↦ absurd (unrelated keys nodes root s j i k nearest e is off.1 b)
          | inr b ↦ absurd (unrelated keys nodes root s i j nearest k is e (λ z. off.1 (sym z)) b)
        ]
      ]

  same_key : (j : ℕ) (k : Bytes) → keys j ≡ Some k → j ≡ i → k ≡ nearest
  same_key j k e z = let f : keys i ≡ Some k = ap keys (sym z) ∙ e in cc

  module _ (q : Bytes) where
    -- a key that is a prefix of q is the only one related to q
    pub only_related : Begins nearest q → (j : ℕ) (k : Bytes) → keys j ≡ Some k → related k q ≡ true → j ≡ i
    only_related m j k e rel =
        elim (related_cases k q rel) [
          | inl b ↦
              elim (cases_lt (length k) (length nearest)) [
                | inl lt ↦ one_key j k e (inl (Begins-linear k nearest q b m (omega arith)))
                | inr le ↦ one_key j k e (inr (Begins-linear nearest k q m b le))
              ]
          | inr b ↦ one_key j k e (inr (Begins-trans nearest q k m b))
        ]

    -- if q is a prefix of a key, it is a prefix of each key related to it
    pub related_begun : Begins q nearest → (j : ℕ) (k : Bytes) → keys j ≡ Some k → related k q ≡ true → Begins q k
    related_begun m j k e rel =
        elim (related_cases k q rel) [
          | inl b ↦ subst (λ (k : Bytes). Begins q k) (sym (same_key j k e (one_key j k e (inl (Begins-trans k q nearest b m))))) m
          | inr b ↦ b
        ]

    -- if one of q and a key is a prefix of the other, and they differ in length, no key is q
    pub no_key : Begins nearest q ⊎ Begins q nearest → length nearest ≢ length q → (j : ℕ) → keys j ≡ Some q → ⊥
    no_key h ne j e =
        let flip : Begins q nearest ⊎ Begins nearest q = (elim h [ inl b ↦ inr b | inr b ↦ inl b ]) in
        ne (ap length (sym (same_key j q e (one_key j q e flip))))

-- if no key is related to q, no key is q
pub no_key_alone : (keys : ℕ → Option Bytes) (q : Bytes) → ((j : ℕ) (k : Bytes) → keys j ≡ Some k → related k q ≡ false) → (j : ℕ) → keys j ≡ Some q → ⊥
no_key_alone keys q alone j e = false≢true (sym (alone j q e) ∙ related-same q q refl)
