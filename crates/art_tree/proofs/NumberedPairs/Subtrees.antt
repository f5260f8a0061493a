-- Of the pairs with a prefix, the last is left.
use Rattle.std.proofs.Common.{◌≡◌, ℕ, true, false, not, List, [], ◌∷◌, Option, Some, sym, ap, ◌∙◌, subst, inl, inr}
use Rattle.std.proofs.lemmas.Bool.{false_from_ne_true}
use Rattle.blart_keys.specs.Bytes.{begins}
use Rattle.blart_keys.specs.Content.{under}
use Rattle.blart_keys.specs.Outside.{outside}
use Rattle.blart_keys.proofs.RankLemmas.{Member, filter_member, member_filter}
use Rattle.art_tree.specs.Begins.{Bytes, Begins}
use Rattle.art_tree.specs.Leaves.{Numbered, leaf_in, AreDistinct, bytes, keys_in}
use Rattle.art_tree.specs.Seeks.{ends}
use Rattle.art_tree.specs.Calls.Pruning.{IsSubtreeWith, Prunes}
use Rattle.art_tree.specs.Invariant.EdgesAbove.{edge_front}
use Rattle.art_tree.specs.Invariant.Shape.{Shape, Covers}
use Rattle.art_kinds.specs.Nodes.{Node}
use Rattle.art_kinds.specs.declared.records.ids.Child.{Child}
use Rattle.art_kinds.specs.declared.records.ids.Child.TheVariants.{Leaf, Inner}
use Rattle.art_tree.specs.declared.tree.descent.Subtree.{Subtree}
use Rattle.art_tree.proofs.BeginsLemmas.{Begins-trans, Begins-from_begins, begins-from_Begins}
use Rattle.art_tree.proofs.Invariant.Growing.{covers_above}
use Rattle.art_tree.proofs.NumberedPairs.Bounds.{are_ends}
use Rattle.art_tree.proofs.NumberedPairs.Filtering.{AreDistinct-filter, only_one}
use Rattle.art_tree.proofs.NumberedPairs.Keys.{key_of_pair, key_of_member, member_of_key, pair_of_key}
use Rattle.art_tree.proofs.NumberedPairs.Outside.{first_there}

-- the keys that begin with the edge's front begin with the bytes of the prefix
pub subtree_keys : {P : ℕ} → (keys : ℕ → Option Bytes) (nodes : ℕ → Option Node) (root : Option Child) (s : Shape P keys nodes root) (q : Bytes) (b : Subtree) → IsSubtreeWith keys nodes root s.front_of q b → (j : ℕ) (k : Bytes) → keys j ≡ Some k → Begins (edge_front s.front_of b.above) k → Begins q k
subtree_keys keys nodes root s q b is j k e h = go b.child (covers_above keys nodes root s b.above b.child is.leads) is.covers
  where
    go : (c : Child) → Covers keys nodes s.front_of (edge_front s.front_of b.above) c → Covers keys nodes s.front_of q c → Begins q k
    go (Leaf i) over under =
        let same : j ≡ i = over.only j k e h in
        let f : keys i ≡ Some k = ap keys (sym same) ∙ e in
        let w : keys i ≡ Some under.key = under.is in
        let z : under.key ≡ k = cc in
        subst (λ (t : Bytes). Begins q t) z under.front
    go (Inner n) over under = Begins-trans q (s.front_of n) k under.front (over.only j k e h)

module _ {K V : Type 0} (key_bytes : K → Bytes) where
  module _ (old new : List (Numbered K V)) (q g : Bytes) (last : ℕ) (distinct : AreDistinct new) (is : ends (under (bytes key_bytes) new q) ≡ Some (last, last)) (rest : outside (bytes key_bytes) new q ≡ outside (bytes key_bytes) old q)
      (stood : (j : ℕ) (x : K × V) → leaf_in new j ≡ Some x → leaf_in old j ≡ Some x) (along : Begins g q) (all : (j : ℕ) (k : Bytes) → keys_in key_bytes old j ≡ Some k → Begins g k → Begins q k) where
    stood_key : (j : ℕ) (l : Bytes) → keys_in key_bytes new j ≡ Some l → keys_in key_bytes old j ≡ Some l
    stood_key j l e = let p = pair_of_key key_bytes new j l e in key_of_pair key_bytes old j p.0 (stood j p.0 p.1) ∙ ap (λ (k : Bytes). Some k) p.2

    kept_key : (j : ℕ) (l : Bytes) → keys_in key_bytes old j ≡ Some l → (Begins g l → ⊥) → keys_in key_bytes new j ≡ Some l
    kept_key j l e off =
        let y = member_of_key key_bytes old j l e in
        let fails : begins q (bytes key_bytes y.0) ≡ false = false_from_ne_true (begins q (bytes key_bytes y.0)) (λ t. off (Begins-trans g q l along (subst (λ (k : Bytes). Begins q k) y.3 (Begins-from_begins q (bytes key_bytes y.0) t)))) in
        let there : Member y.0 (outside (bytes key_bytes) old q) = member_filter (λ x. not (begins q (bytes key_bytes x))) old y.0 y.1 (ap not fails) in
        let now : Member y.0 (outside (bytes key_bytes) new q) = subst (λ (S : List (Numbered K V)). Member y.0 S) (sym rest) there in
        let m = filter_member (λ x. not (begins q (bytes key_bytes x))) new y.0 now in
        ap (keys_in key_bytes new) (sym y.2) ∙ key_of_member key_bytes new y.0 distinct m.0 ∙ ap (λ (k : Bytes). Some k) y.3

    only_key : (j : ℕ) (l : Bytes) → keys_in key_bytes new j ≡ Some l → Begins g l → j ≡ last
    only_key j l e h =
        let y = member_of_key key_bytes new j l e in
        let t : begins q (bytes key_bytes y.0) ≡ true = begins-from_Begins q (bytes key_bytes y.0) (subst (λ (k : Bytes). Begins q k) (sym y.3) (all j l (stood_key j l e) h)) in
        let m : Member y.0 (under (bytes key_bytes) new q) = member_filter (λ x. begins q (bytes key_bytes x)) new y.0 y.1 t in
        let both = are_ends (under (bytes key_bytes) new q) last last is in
        let o = only_one (under (bytes key_bytes) new q) last (AreDistinct-filter (λ x. begins q (bytes key_bytes x)) new distinct) both.0 both.1 in
        let one : Member y.0 ((last, o.0) ∷ []) = subst (λ (S : List (Numbered K V)). Member y.0 S) o.1 m in
        elim one as (λ _. j ≡ last) [ inl z ↦ sym y.2 ∙ ap (λ (x : Numbered K V). x.0) (sym z) | inr z ↦ absurd z ]

    pub last_left : (k : Bytes) × Prunes (keys_in key_bytes old) (keys_in key_bytes new) g last k
    last_left =
        let f = first_there key_bytes new q distinct last last is in (
          key_bytes f.0.0,
          record {
            was = key_of_pair key_bytes old last f.0 (stood last f.0 f.1);
            front = Begins-trans g q (key_bytes f.0.0) along (Begins-from_begins q (key_bytes f.0.0) f.2);
            now = key_of_pair key_bytes new last f.0 f.1;
            kept = kept_key;
            stood = stood_key;
            only = only_key;
          },
        )
