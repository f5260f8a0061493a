-- The child beside the gap at which a query parts from the stored keys.
use Rattle.std.proofs.Common.{Bool, not, false, ◌≡◌, ◌≢◌, ℕ, ◌≤◌, true, [], ◌∷◌, ◌++◌, sym, Option, Some, None, arith}
use Rattle.std.specs.Prelude.{ltb}
use Rattle.std.proofs.lemmas.Bool.{ltb-true, ltb-false}
use Rattle.art_tree.specs.Begins.{Bytes}
use Rattle.art_tree.specs.Calls.Stops.{LeavesAtNode, LeavesAtEdge, IsChildBeside, IsNextTo, beside_leaf}
use Rattle.art_tree.specs.Calls.Descents.{IsEndUnder}
use Rattle.art_tree.specs.Gaps.{IsBeside}
use Rattle.art_kinds.specs.Edges.{child_at, IsPrevious, IsNext}
use Rattle.art_kinds.specs.Nodes.{Node}
use Rattle.art_kinds.specs.declared.records.ids.Child.{Child}
use Rattle.art_kinds.specs.declared.records.ids.Edge.{Edge}
use Rattle.art_tree.proofs.Ways.Ends.{first_less, last_greater}
use Rattle.art_tree.proofs.Invariant.Growing.{some_key}
use Rattle.art_tree.proofs.NumberedPairs.Neighbours.{last_at_node, first_at_node, last_beside, first_beside}
use Rattle.art_tree.proofs.Calls.Unlinking.{no_lone_edge}
use Rattle.blart_keys.proofs.Options.{some_of, none_of}

module _ {P : ℕ} (keys : ℕ → Option Bytes) (nodes : ℕ → Option Node) where
  module _ (n b : ℕ) (q : Bytes) (l : LeavesAtNode P keys nodes n b q) (x : Node) (is : nodes n ≡ Some x) where
    -- no key continues with q's byte, so no edge has it
    pub no_edge_there : child_at x.edges b ≡ None
    no_edge_there = none_of (child_at x.edges b) (λ h.
        let c = some_of (child_at x.edges b) h in
        let k = some_key keys nodes l.apart.root l.apart.shape (l.apart.shape.front_of n ++ b ∷ []) c.0 ((l.apart.shape.node n x is).below b c.0 c.1) in
        l.none k.0 k.1 k.2 k.3)

    pub edge_there : (is_after : Bool) (e : Edge) → IsNextTo is_after x.edges b e → child_at x.edges e.byte ≡ Some e.to
    edge_there true e next = next.1
    edge_there false e next = next.1

    pub end_beside : (is_after : Bool) (e : Edge) → IsNextTo is_after x.edges b e → (i : ℕ) → IsEndUnder keys (not is_after) (l.apart.shape.front_of n ++ e.byte ∷ []) i → IsBeside keys q (beside_leaf is_after i)
    end_beside true e next i u = last_at_node keys nodes l.apart.root l.apart.shape q l.apart.alone n x is b l.goes_on e next no_edge_there i u.key u.is u.front (last_greater u)
    end_beside false e next i u = first_at_node keys nodes l.apart.root l.apart.shape q l.apart.alone n x is b l.goes_on e next no_edge_there i u.key u.is u.front (first_less u)

    -- the child of the edge next to q's byte is beside q's gap
    abbrev pub beside_at_node : (is_after : Bool) (e : Edge) → IsNextTo is_after x.edges b e → IsChildBeside P keys nodes q e.to is_after
    beside_at_node is_after e next = record {
      root = l.apart.root;
      shape = l.apart.shape;
      front = l.apart.shape.front_of n ++ e.byte ∷ [];
      covers = (l.apart.shape.node n x is).below e.byte e.to (edge_there is_after e next);
      alone = l.apart.alone;
      beside = end_beside is_after e next;
    }

    -- there is such an edge
    pub no_edge_beside : IsPrevious x.edges b None → IsNext x.edges b None → ⊥
    no_edge_beside prev next = no_lone_edge keys nodes l.apart.root l.apart.shape n b x is next prev

  module _ (c : Child) (a b : ℕ) (q : Bytes) (l : LeavesAtEdge P keys nodes c a b q) where
    pub end_along : (is_after : Bool) → is_after ≡ ltb a b → (i : ℕ) → IsEndUnder keys (not is_after) l.front i → IsBeside keys q (beside_leaf is_after i)
    end_along true e i u = last_beside keys q l.apart.alone l.t b a l.goes_on l.front l.within l.all i u.key u.is u.front (ltb-true a b (sym e)) (last_greater u)
    end_along false e i u =
        let apart : a ≢ b = l.other in
        let le : b ≤ a = ltb-false a b (sym e) in
        first_beside keys q l.apart.alone l.t b a l.goes_on l.front l.within l.all i u.key u.is u.front (omega arith) (first_less u)

    -- the child of an edge along which the keys continue with another byte is beside q's gap
    abbrev pub beside_at_edge : (is_after : Bool) → is_after ≡ ltb a b → IsChildBeside P keys nodes q c is_after
    beside_at_edge is_after e = record { root = l.apart.root; shape = l.apart.shape; front = l.front; covers = l.covers; alone = l.apart.alone; beside = end_along is_after e }
