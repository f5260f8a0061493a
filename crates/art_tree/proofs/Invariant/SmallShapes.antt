-- The tree with no leaf, and the tree with one leaf.
use Rattle.std.proofs.Common.{◌≡◌, ◌≢◌, ℕ, ◌<◌, ◌≤◌, [], length, Option, Some, None, IsSome, refl, sym, subst, ap, ◌∙◌, arith, inl, inr}
use Rattle.std.proofs.lemmas.Bool.{cases_lt}
use Rattle.art_tree.specs.Begins.{Bytes, Begins, next_byte}
use Rattle.blart_keys.specs.Bytes.{common}
use Rattle.art_tree.proofs.BeginsLemmas.{Begins-length, Begins-itself, Begins-next, common-left, common-greatest, common_at, Begins-equal}
use Rattle.art_tree.proofs.Invariant.Growing.{Parts-two, Gains, kept_cases}
use Rattle.blart_keys.proofs.Options.{some_of, not_some, none_of}
use Rattle.art_kinds.specs.Nodes.{Node}
use Rattle.art_tree.specs.Invariant.Shape.{Shape, Parts}
use Rattle.art_kinds.specs.declared.records.ids.Child.{Child}
use Rattle.art_kinds.specs.declared.records.ids.Child.TheVariants.{Leaf}

module _ (keys : ℕ → Option Bytes) (nodes : ℕ → Option Node) (bare : (n : ℕ) → nodes n ≡ None) where
  pub shape_empty : {P : ℕ} → ((j : ℕ) → keys j ≡ None) → Shape P keys nodes None
  shape_empty none = record {
    front_of = λ n. [];
    top = none;
    node = λ n x e. (let f : nodes n ≡ None = bare n in absurd cc);
    joined = λ i j k l a b off. (let f : keys i ≡ None = none i in absurd cc);
    apart = λ n m a b e. absurd (not_some (nodes n) (bare n) a);
    keeps = λ a n x l e. (let f : nodes n ≡ None = bare n in absurd cc);
  }

  -- the tree with one key and no node
  pub shape_one : {P : ℕ} → (i : ℕ) (k : Bytes) → keys i ≡ Some k → ((j : ℕ) (l : Bytes) → keys j ≡ Some l → j ≡ i) → Shape P keys nodes (Some (Leaf i))
  shape_one i k is only = record {
    front_of = λ n. [];
    top = record { key = k; is = is; front = tt; only = λ j l e b. only j l e };
    node = λ n x e. (let f : nodes n ≡ None = bare n in absurd cc);
    joined = λ a b x y ax by off. absurd (off (let f : a ≡ i = only a x ax in let g : b ≡ i = only b y by in cc));
    apart = λ n m a b e. absurd (not_some (nodes n) (bare n) a);
    keeps = λ a n x l e. (let f : nodes n ≡ None = bare n in absurd cc);
  }

module _ {P : ℕ} (keys : ℕ → Option Bytes) (nodes : ℕ → Option Node) (root : Option Child) (s : Shape P keys nodes root) where
  -- no stored key is a prefix of another
  pub unrelated : (i j : ℕ) (k l : Bytes) → keys i ≡ Some k → keys j ≡ Some l → i ≢ j → Begins k l → ⊥
  unrelated i j k l a b off h =
      let r = s.joined i j k l a b off in
      let x = some_of (nodes r.0) r.1 in
      let e : s.front_of r.0 ≡ common k l = r.2 in
      let f : length (s.front_of r.0) < length k = (s.node r.0 x.0 x.1).longer i k a (rw e (common-left k l)) in
      let g : length k ≤ length (common k l) = Begins-length k (common k l) (common-greatest k k l (Begins-itself k) h) in
      let z : length (s.front_of r.0) ≡ length (common k l) = ap length e in
      omega arith

  -- there is a node at each prefix at which two keys part
  pub node_at : (f : Bytes) → Parts keys f → (n : ℕ) × IsSome (nodes n) × (s.front_of n ≡ f)
  node_at f p =
      let off : p.i ≢ p.j = λ e. Parts-two keys f p p.j e refl in
      let r = s.joined p.i p.j p.k p.l p.k_is p.l_is off in
      elim (cases_lt (length f) (length p.k)) [
        | inl lt ↦ (r.0, r.1, r.2 ∙ common_at f p.k p.l p.k_front lt p.l_front (λ b. p.differ (sym (Begins-next f p.l (next_byte f p.k) b))))
        | inr le ↦ absurd (unrelated p.i p.j p.k p.l p.k_is p.l_is off (subst (λ (z : Bytes). Begins z p.l) (Begins-equal f p.k p.k_front le) p.l_front))
      ]

-- a tree with no key has no node
pub no_nodes : {P : ℕ} → (keys : ℕ → Option Bytes) (nodes : ℕ → Option Node) → Shape P keys nodes None → (n : ℕ) → nodes n ≡ None
no_nodes keys nodes s n = none_of (nodes n) (λ h.
    let x = some_of (nodes n) h in
    let p = (s.node n x.0 x.1).parts in
    let f : keys p.i ≡ None = s.top p.i in
    let g : keys p.i ≡ Some p.k = p.k_is in
    cc)

-- with the first key, its leaf is the root
pub first_key : {P : ℕ} → (keys keys' : ℕ → Option Bytes) (nodes : ℕ → Option Node) (i : ℕ) (k : Bytes) → Shape P keys nodes None → Gains keys keys' i k → Shape P keys' nodes (Some (Leaf i))
first_key keys keys' nodes i k s g = shape_one keys' nodes (no_nodes keys nodes s) i k g.has
    (λ j l e. elim (kept_cases keys keys' i k g j l e) [ inl o ↦ (let f : keys j ≡ None = s.top j in absurd cc) | inr o ↦ o.0 ])
