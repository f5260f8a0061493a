-- When a tree's records are sound, and what follows for its pairs.
use Rattle.std.proofs.Common.{◌≡◌, ◌≢◌, ℕ, ◌≤◌, List, [], ◌∷◌, refl, ap, sym, subst, ◌∙◌, Option, Some, None, eq-eqb, length, arith, inl, inr}
use Rattle.blart_keys.specs.Content.{IsContent}
use Rattle.blart_keys.proofs.ContentLemmas.{empty_content}
use Rattle.blart_keys.proofs.RankLemmas.{Member}
use Rattle.art_tree.specs.Begins.{Bytes}
use Rattle.art_tree.specs.Leaves.{Numbered, Leaves, keys_in, bytes}
use Rattle.art_tree.specs.Longest.{longest}
use Rattle.art_kinds.specs.Nodes.{Nodes, Node, at, SameNodes}
use Rattle.art_tree.specs.Invariant.Shape.{Shape, Covers, RootFits}
use Rattle.art_tree.specs.Invariant.Sound.{IsSound}
use Rattle.art_kinds.specs.declared.records.ids.Child.{Child}
use Rattle.art_kinds.specs.declared.records.ids.Child.TheVariants.{Leaf, Inner}
use Rattle.blart_keys.proofs.Options.{some_of}
use Rattle.art_tree.proofs.NumberedPairs.Keys.{member_of_key}
use Rattle.art_tree.proofs.Invariant.SameShapes.{renoded, rekeyed}
use Rattle.art_tree.proofs.Invariant.SmallShapes.{shape_empty}

module _ {K V : Type 0} (key_bytes : K → List ℕ) where
  -- the same pairs and nodes are sound
  pub sound_same : {P : ℕ} → (leaves leaves' : Leaves K V) (nodes nodes' : Nodes) (root : Option Child) → IsSound key_bytes P leaves nodes root → leaves'.pairs ≡ leaves.pairs → SameNodes nodes nodes' → IsSound key_bytes P leaves' nodes' root
  sound_same {P} leaves leaves' nodes nodes' root s e h = record {
    content = subst (IsContent (bytes key_bytes)) (sym e) s.content;
    shape = renoded (keys_in key_bytes leaves'.pairs) (at nodes) (at nodes') root (subst (λ (S : List (Numbered K V)). Shape P (keys_in key_bytes S) (at nodes) root) (sym e) s.shape) h;
  }

  -- records with no pairs and no nodes are sound
  pub sound_empty : {P : ℕ} → (leaves : Leaves K V) (nodes : Nodes) → leaves.pairs ≡ [] → ((j : ℕ) → at nodes j ≡ None) → IsSound key_bytes P leaves nodes None
  sound_empty {P} leaves nodes e bare = record {
    content = subst (IsContent (bytes key_bytes)) (sym e) (empty_content (bytes key_bytes));
    shape = subst (λ (S : List (Numbered K V)). Shape P (keys_in key_bytes S) (at nodes) None) (sym e) (shape_empty (keys_in {V = V} key_bytes []) (at nodes) bare (λ j. refl));
  }

  -- so are records with other values for the same keys
  pub sound_over : {P : ℕ} → (leaves leaves' : Leaves K V) (nodes : Nodes) (root : Option Child) → IsSound key_bytes P leaves nodes root → IsContent (bytes key_bytes) leaves'.pairs → ((j : ℕ) → keys_in key_bytes leaves'.pairs j ≡ keys_in key_bytes leaves.pairs j) → IsSound key_bytes P leaves' nodes root
  sound_over leaves leaves' nodes root s content same = record { content = content; shape = rekeyed (keys_in key_bytes leaves.pairs) (keys_in key_bytes leaves'.pairs) (at nodes) root s.shape same }

  -- if no number has a key, there are no pairs
  pub no_pairs : (S : List (Numbered K V)) → ((j : ℕ) → keys_in key_bytes S j ≡ None) → S ≡ []
  no_pairs [] h = refl
  no_pairs (p ∷ S) h = (let e : keys_in key_bytes (p ∷ S) p.0 ≡ Some (key_bytes p.1.0) = rw (eq-eqb p.0 p.0 refl) refl in let f : None ≡ Some (key_bytes p.1.0) = sym (h p.0) ∙ e in cc)

  -- if there is no root, there are no pairs
  pub rootless : {P : ℕ} → (S : List (Numbered K V)) (nodes : ℕ → Option Node) (root : Option Child) → Shape P (keys_in key_bytes S) nodes root → root ≡ None → S ≡ []
  rootless {P} S nodes root s e = no_pairs S (λ j. (subst (λ (r : Option Child). Shape P (keys_in key_bytes S) nodes r) e s).top j)

  -- if there is a root, there are pairs
  pub rooted_pairs : {P : ℕ} → (S : List (Numbered K V)) (nodes : ℕ → Option Node) (root : Option Child) (c : Child) → Shape P (keys_in key_bytes S) nodes root → root ≡ Some c → S ≢ []
  rooted_pairs {P} S nodes root c s e none = below c (subst (λ (r : Option Child). RootFits (keys_in key_bytes S) nodes s.front_of r) e s.top)
    where
      no_key : (i : ℕ) (k : Bytes) → keys_in key_bytes S i ≡ Some k → ⊥
      no_key i k is = (let never : None ≡ Some k = subst (λ (T : List (Numbered K V)). keys_in key_bytes T i ≡ Some k) none is in absurd cc)

      below : (c : Child) → Covers (keys_in key_bytes S) nodes s.front_of [] c → ⊥
      below (Leaf i) h = no_key i h.key h.is
      below (Inner n) h = (let x = some_of (nodes n) h.live in let p = (s.node n x.0 x.1).parts in no_key p.i p.k p.k_is)

  -- no key is longer than the longest one
  pub within_longest : (S : List (Numbered K V)) (i : ℕ) (k : Bytes) → keys_in key_bytes S i ≡ Some k → length k ≤ longest (bytes key_bytes) S
  within_longest S i k e = let m = member_of_key key_bytes S i k e in subst (λ (z : Bytes). length z ≤ longest (bytes key_bytes) S) m.3 (go S m.0 m.1)
    where
      go : (S : List (Numbered K V)) (y : Numbered K V) → Member y S → length (bytes key_bytes y) ≤ longest (bytes key_bytes) S
      go [] y m = absurd m
      go (z ∷ S) y (inl h) = (let f : length (bytes key_bytes z) ≡ length (bytes key_bytes y) = ap (λ (w : Numbered K V). length (bytes key_bytes w)) h in omega arith)
      go (z ∷ S) y (inr m) = (let l : length (bytes key_bytes y) ≤ longest (bytes key_bytes) S = go S y m in omega arith)
