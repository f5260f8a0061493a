-- A descent by a stored key, to the fork at which another key parts from it.
use Rattle.std.proofs.Common.{◌≡◌, ℕ, ◌+◌, ◌<◌, ◌≤◌, [], ◌∷◌, ◌++◌, length, get_or, take, ap, arith, sym, subst, Option, Some, None, ◌∙◌, length-append}
use Rattle.std.proofs.lemmas.List.{length-take-le}
use Rattle.blart_keys.proofs.Options.{not_some}
use Rattle.art_tree.specs.Begins.{Bytes, Begins, next_byte}
use Rattle.art_kinds.specs.Nodes.{Node}
use Rattle.art_kinds.specs.Edges.{child_at}
use Rattle.art_tree.specs.Invariant.Shape.{Shape, NodeFits}
use Rattle.art_tree.specs.Invariant.EdgesAbove.{LeadsTo, edge_front}
use Rattle.art_tree.specs.Calls.Forks.{EdgeFits}
use Rattle.art_kinds.specs.declared.records.ids.Child.{Child}
use Rattle.art_kinds.specs.declared.records.ids.Child.TheVariants.{Inner}
use Rattle.art_tree.proofs.Invariant.Growing.{covers_led}
use Rattle.art_tree.proofs.BeginsLemmas.{Begins-take, Begins-more, Begins-trans, Begins-linear, Begins-equal}

-- a descent by the nearest key's first `depth` bytes, which has reached a node by the edge above
module _ {P : ℕ} {keys : ℕ → Option Bytes} {nodes : ℕ → Option Node} (nearest : Bytes) (depth : ℕ) {root : Option Child} (s : Shape P keys nodes root) (above : Option (ℕ × ℕ)) where
  module _ {a : Child} {n : ℕ} (named : a ≡ Inner n) (leads : LeadsTo nodes root above a) (along : Begins (edge_front s.front_of above) (take depth nearest)) where
    -- the edge leads to the node
    pub edge_fits : EdgeFits nodes root s.front_of nearest depth above (Inner n)
    edge_fits = record { leads = subst (λ (z : Child). LeadsTo nodes root above z) named leads; along = along }

    module _ (within : depth ≤ length nearest) {i : ℕ} (is : keys i ≡ Some nearest) {x : Node} (at : nodes n ≡ Some x) where
      fits : NodeFits keys nodes s.front_of (s.front_of n) x
      fits = s.node n x at

      -- the nearest key is below the node
      front_nearest : Begins (s.front_of n) nearest
      front_nearest = (covers_led keys nodes root s above named leads).only i nearest is (Begins-trans (edge_front s.front_of above) (take depth nearest) nearest along (Begins-take depth nearest))

      -- the descent passes no more than `depth` bytes
      long : length (take depth nearest) ≡ depth
      long = length-take-le depth nearest within

      -- a node of exactly this depth is at the fork
      pub node_at_depth : x.depth ≡ depth → s.front_of n ≡ take depth nearest
      node_at_depth e =
          let l : length (take depth nearest) ≡ depth = long in
          let d : x.depth ≡ length (s.front_of n) = fits.depth in
          Begins-equal (s.front_of n) (take depth nearest) (Begins-linear (s.front_of n) (take depth nearest) nearest front_nearest (Begins-take depth nearest) (omega arith)) (omega arith)

      -- a deeper node is past it
      pub node_past_depth : depth < x.depth → depth < length (s.front_of n)
      node_past_depth h = let d : x.depth ≡ length (s.front_of n) = fits.depth in omega arith

      -- a node has an edge at the byte of the nearest key
      pub edge_of_nearest : {len : ℕ} → len ≡ x.depth → child_at x.edges (get_or nearest len 0) ≡ None → ⊥
      edge_of_nearest d none =
          not_some (child_at x.edges (next_byte (s.front_of n) nearest)) (ap (λ (z : ℕ). child_at x.edges (get_or nearest z 0)) (sym (d ∙ fits.depth)) ∙ none) (fits.edge i nearest is front_nearest)

      -- the descent continues along it, while the fork is deeper
      pub follow_on : {len : ℕ} → len ≡ x.depth → len < depth → Begins (s.front_of n ++ get_or nearest len 0 ∷ []) (take depth nearest)
      follow_on d h =
          let g : Bytes = s.front_of n in
          let l : length (take depth nearest) ≡ depth = long in
          let m : x.depth ≡ length g = fits.depth in
          let e : length (g ++ next_byte g nearest ∷ []) ≡ length g + 1 = length-append g (next_byte g nearest ∷ []) in
          subst (λ (z : ℕ). Begins (g ++ get_or nearest z 0 ∷ []) (take depth nearest)) (sym (d ∙ fits.depth))
          (Begins-linear (g ++ next_byte g nearest ∷ []) (take depth nearest) nearest (Begins-more g nearest front_nearest (omega arith)) (Begins-take depth nearest) (omega arith))
