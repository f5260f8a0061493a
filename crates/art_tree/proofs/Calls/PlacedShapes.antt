-- A leaf is placed at the fork at which its key parts from the nearest one.
use Rattle.std.proofs.Common.{◌≡◌, ◌≢◌, ℕ, ◌<◌, List, [], ◌∷◌, ◌++◌, length, take, drop, get_or, refl, ap, arith, sym, subst, Option, Some, ◌∙◌, eqb, eq-eqb, true}
use Rattle.std.proofs.lemmas.List.{length-take-le}
use Rattle.art_tree.specs.Invariant.EdgesAbove.{LeadsTo, TurnsTo, edge_front}
use Rattle.art_tree.specs.Begins.{Bytes, Begins, next_byte}
use Rattle.art_tree.specs.Gaps.{LeavesNearest}
use Rattle.art_kinds.specs.Nodes.{Node, Makes, Renames, AddsEdgeTo}
use Rattle.art_tree.specs.Calls.Removing.{CutsAfter}
use Rattle.art_tree.specs.Invariant.Shape.{Shape}
use Rattle.art_tree.specs.Calls.Forks.{PastLength, EdgeFits}
use Rattle.art_kinds.specs.declared.records.ids.Child.{Child}
use Rattle.art_kinds.specs.declared.records.ids.Child.TheVariants.{Leaf, Inner}
use Rattle.art_kinds.specs.declared.records.ids.Edge.{Edge}
use Rattle.art_tree.proofs.BeginsLemmas.{Begins-more}
use Rattle.art_tree.proofs.Invariant.Growing.{Departs, Gains, leaf_added}
use Rattle.art_tree.proofs.NumberedPairs.KeyChanges.{departs_at, next_at, nearest_next_at}
use Rattle.art_tree.proofs.Invariant.Moving.{node_moved}
use Rattle.art_tree.proofs.Invariant.Splitting.{HoldBoth, edge_split}

module _ (keys : ℕ → Option Bytes) (nearest depth : ℕ) (q : Bytes) (good : LeavesNearest keys nearest depth q) (m : Bytes) (m_is : keys nearest ≡ Some m) where
  nearest_same : m ≡ good.nearest_key
  nearest_same = let e : keys nearest ≡ Some good.nearest_key = good.nearest_is in cc

  -- the nearest key's first bytes are the key's
  pub along_key : take depth m ≡ take depth q
  along_key = ap (λ (m : Bytes). take depth m) nearest_same ∙ good.along

  -- both keys are longer
  pub nearest_long : depth < length m
  nearest_long = let l : depth < length good.nearest_key = good.nearest_longer in let e : length m ≡ length good.nearest_key = ap (λ (m : Bytes). length m) nearest_same in omega arith

  -- their next bytes differ
  pub bytes_apart : get_or q depth 0 ≢ get_or m depth 0
  bytes_apart e =
      let d : Departs keys (take depth q) q = departs_at keys nearest depth q good in
      let a : next_byte (take depth q) q ≡ get_or q depth 0 = next_at keys nearest depth q good in
      let b : next_byte (take depth q) good.nearest_key ≡ get_or good.nearest_key depth 0 = nearest_next_at keys nearest depth q good in
      let c : next_byte (take depth q) good.nearest_key ≡ next_byte (take depth q) q = b ∙ ap (λ (m : Bytes). get_or m depth 0) (sym nearest_same) ∙ sym e ∙ sym a in
      d.alone nearest good.nearest_key good.nearest_is (subst (λ (b : ℕ). Begins (take depth q ++ b ∷ []) good.nearest_key) c (Begins-more (take depth q) good.nearest_key d.nearest_front d.nearest_longer))

  module _ (keys' : ℕ → Option Bytes) (i : ℕ) (gains : Gains keys keys' i q) where
    module _ {P : ℕ} (nodes : ℕ → Option Node) (root : Option Child) (s : Shape P keys nodes root) (n : ℕ) (stands : s.front_of n ≡ take depth m) where
      departs_here : Departs keys (s.front_of n) q
      departs_here = subst (λ (t : Bytes). Departs keys t q) (sym (stands ∙ along_key)) (departs_at keys nearest depth q good)

      next_here : get_or q depth 0 ≡ next_byte (s.front_of n) q
      next_here = sym (next_at keys nearest depth q good) ∙ ap (λ (t : Bytes). next_byte t q) (sym (stands ∙ along_key))

      -- the leaf is added at the node
      pub placed_node : (nodes' : ℕ → Option Node) → AddsEdgeTo nodes nodes' n (get_or q depth 0) (Leaf i) → Shape P keys' nodes' root
      placed_node nodes' adds = leaf_added keys keys' nodes nodes' root n (get_or q depth 0) i q s gains departs_here next_here adds

    -- the leaf is added at a node that was first moved to another number
    pub placed_wide : {P : ℕ} → (nodes mid wide nodes' : ℕ → Option Node) (root root' : Option Child) (n n' : ℕ) (above : Option (ℕ × ℕ)) (s : Shape P keys nodes root) → s.front_of n ≡ take depth m
        → Renames nodes mid n n' → LeadsTo nodes root above (Inner n) → TurnsTo mid wide root root' above (Inner n') → AddsEdgeTo wide nodes' n' (get_or q depth 0) (Leaf i) → Shape P keys' nodes' root'
    placed_wide nodes mid wide nodes' root root' n n' above s stands ren leads turns adds =
        let w = node_moved keys nodes mid wide root root' n n' s ren above leads turns in
        let e : eqb n' n' ≡ true = eq-eqb n' n' refl in
        let f : w.0.front_of n' ≡ s.front_of n = w.1 n' ∙ rw e refl in
        placed_node wide root' w.0 n' (f ∙ stands) nodes' adds

    -- the leaf is added at an edge, under a new node
    pub placed_edge : {P : ℕ} → (nodes cut mid new : ℕ → Option Node) (root root' : Option Child) (above : Option (ℕ × ℕ)) (c : Child) (n : ℕ) (prefix : List ℕ) (low high : Edge) (s : Shape P keys nodes root)
        → EdgeFits nodes root s.front_of m depth above c → PastLength s.front_of depth c → CutsAfter P nodes cut s.front_of (take depth m ++ get_or m depth 0 ∷ []) c → Makes cut mid n depth prefix low high
        → prefix ≡ take P (drop (length (edge_front s.front_of above)) (take depth q)) → low.byte < high.byte → HoldBoth low high (get_or q depth 0) i (get_or m depth 0) c → TurnsTo mid new root root' above (Inner n) → Shape P keys' new root'
    placed_edge {P} nodes cut mid new root root' above c n prefix low high s fit past cuts makes prefix_is sorted both turns =
        let t : Bytes = take depth q in
        let d : Departs keys (take depth q) q = departs_at keys nearest depth q good in
        let lt : depth < length q = good.longer in
        let deep : depth ≡ length (take depth q) = sym (length-take-le depth q (omega arith)) in
        let bk : get_or q depth 0 ≡ next_byte (take depth q) q = sym (next_at keys nearest depth q good) in
        let bc : get_or m depth 0 ≡ next_byte (take depth q) good.nearest_key = ap (λ (m : Bytes). get_or m depth 0) nearest_same ∙ sym (nearest_next_at keys nearest depth q good) in
        let both' : HoldBoth low high (next_byte (take depth q) q) i (next_byte (take depth q) good.nearest_key) c = subst (λ (b : ℕ). HoldBoth low high (next_byte (take depth q) q) i b c) bc (subst (λ (b : ℕ). HoldBoth low high b i (get_or m depth 0) c) bk both) in
        let cuts' : CutsAfter P nodes cut s.front_of (take depth q ++ next_byte (take depth q) good.nearest_key ∷ []) c = subst (λ (b : ℕ). CutsAfter P nodes cut s.front_of (take depth q ++ b ∷ []) c) bc (subst (λ (t : Bytes). CutsAfter P nodes cut s.front_of (t ++ get_or m depth 0 ∷ []) c) along_key cuts) in
        edge_split keys keys' nodes cut mid root n i depth prefix low high c (take depth q) q s gains d cuts' makes deep sorted both' above new root' fit.leads turns prefix_is
        (subst (λ (n : ℕ). PastLength s.front_of n c) deep past) (subst (λ (t : Bytes). Begins (edge_front s.front_of above) t) along_key fit.along)
