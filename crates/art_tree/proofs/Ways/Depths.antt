-- How far a descent can go.
use Rattle.std.proofs.Common.{sym, subst, ◌≡◌, ℕ, zero, suc, ◌+◌, ◌-◌, ◌/◌, ◌%◌, ◌<◌, ◌≤◌, List, [], ◌∷◌, ◌++◌, length, max, get_or, refl, ap, Option, Some, None, IsSome, true, false, arith, length-append}
use Rattle.art_tree.specs.Begins.{Bytes}
use Rattle.art_kinds.specs.Edges.{child_at}
use Rattle.art_slots.specs.Store.{slot_at}
use Rattle.art_kinds.specs.Nodes.{Node, Nodes, store_of, at}
use Rattle.art_tree.specs.Invariant.Shape.{Shape, Covers}
use Rattle.art_kinds.specs.declared.records.ids.Child.{Child}
use Rattle.art_kinds.specs.declared.records.ids.Child.TheVariants.{Leaf, Inner}
use Rattle.art_tree.proofs.BeginsLemmas.{Begins-length}

-- the depth of a node, or 0
abbrev pub depth_of : Option Node → ℕ
depth_of None = 0
depth_of (Some x) = x.depth

-- the greatest depth of a node
abbrev pub deepest : List (Option Node) → ℕ
deepest [] = 0
deepest (o ∷ slots) = max (depth_of o) (deepest slots)

-- the greatest depth of a node of any kind
abbrev pub deepest_in : Nodes → ℕ
deepest_in s = max (max (deepest s.fours.slots) (deepest s.sixteens.slots)) (max (deepest s.forty_eights.slots) (deepest s.fulls.slots))

-- the number of further bytes that a descent from a child may pass, at most
abbrev pub rank : Nodes → Child → ℕ
rank s (Leaf i) = 0
rank s (Inner n) = suc (deepest_in s) - depth_of (at s n)

pub depth-at_most : (slots : List (Option Node)) (i : ℕ) → depth_of (get_or slots i None) ≤ deepest slots
depth-at_most [] i = omega arith
depth-at_most (o ∷ slots) zero = omega arith
depth-at_most (o ∷ slots) (suc i) = let h : depth_of (get_or slots i None) ≤ deepest slots = depth-at_most slots i in omega arith

-- no node is deeper
depth-within : (s : Nodes) (k i : ℕ) → depth_of (slot_at (store_of s k) i) ≤ deepest_in s
depth-within s zero i = let h : depth_of (slot_at s.fours i) ≤ deepest s.fours.slots = depth-at_most s.fours.slots i in omega arith
depth-within s (suc zero) i = let h : depth_of (slot_at s.sixteens i) ≤ deepest s.sixteens.slots = depth-at_most s.sixteens.slots i in omega arith
depth-within s (suc (suc zero)) i = let h : depth_of (slot_at s.forty_eights i) ≤ deepest s.forty_eights.slots = depth-at_most s.forty_eights.slots i in omega arith
depth-within s (suc (suc (suc k))) i = let h : depth_of (slot_at s.fulls i) ≤ deepest s.fulls.slots = depth-at_most s.fulls.slots i in omega arith

module _ {P : ℕ} {keys : ℕ → Option Bytes} (nodes : Nodes) {root : Option Child} (s : Shape P keys (at nodes) root) where
  -- the rank falls at each edge of a descent
  pub rank_falls : {a : Child} {n : ℕ} → a ≡ Inner n → (b : ℕ) {x : Node} {c : Child} → at nodes n ≡ Some x → child_at x.edges b ≡ Some c →
      rank nodes c < rank nodes a
  rank_falls {n = n} named b {x} {c} is there = subst (λ (z : Child). rank nodes c < rank nodes z) (sym named) (falls c ((s.node n x is).below b c there))
    where
      own : depth_of (at nodes n) ≡ x.depth
      own = ap depth_of is

      low : depth_of (at nodes n) ≤ deepest_in nodes
      low = depth-within nodes (n % 4) (n / 4)

      falls : (c : Child) → Covers keys (at nodes) s.front_of (s.front_of n ++ b ∷ []) c → rank nodes c < rank nodes (Inner n)
      falls (Leaf i) h = let l : depth_of (at nodes n) ≤ deepest_in nodes = low in omega arith
      falls (Inner m) h = go (at nodes m) refl h.live
        where
          go : (o : Option Node) → at nodes m ≡ o → IsSome o → rank nodes (Inner m) < rank nodes (Inner n)
          go None e k = absurd (let f : false ≡ true = k in cc)
          go (Some y) e k =
              let d : x.depth ≡ length (s.front_of n) = (s.node n x is).depth in
              let d2 : y.depth ≡ length (s.front_of m) = (s.node m y e).depth in
              let l : length (s.front_of n ++ b ∷ []) ≤ length (s.front_of m) = Begins-length (s.front_of n ++ b ∷ []) (s.front_of m) h.front in
              let l2 : length (s.front_of n ++ b ∷ []) ≡ length (s.front_of n) + 1 = length-append (s.front_of n) (b ∷ []) in
              let mine : depth_of (at nodes m) ≡ y.depth = ap depth_of e in
              let o : depth_of (at nodes n) ≡ x.depth = own in
              let w : depth_of (at nodes n) ≤ deepest_in nodes = low in
              let w2 : depth_of (at nodes m) ≤ deepest_in nodes = depth-within nodes (m % 4) (m / 4) in
              omega arith
