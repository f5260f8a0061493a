-- A fork that is known without a descent.
use Rattle.std.proofs.Common.{◌≡◌, ℕ, Bool, true, false, List, ◌+◌, ◌<◌, ◌≤◌, [], ◌∷◌, ◌++◌, length, take, ap, sym, subst, ◌∙◌, Option, Some, None, arith, length-append}
use Rattle.std.proofs.lemmas.List.{length-take-le}
use Rattle.std.specs.Prelude.{not}
use Rattle.art_kinds.specs.Edges.{child_at}
use Rattle.art_tree.specs.Begins.{Bytes, Begins}
use Rattle.art_tree.specs.Calls.Descents.{IsEndUnder}
use Rattle.art_tree.specs.Calls.Stops.{LeavesAtNode, IsNextTo}
use Rattle.art_tree.specs.Invariant.EdgesAbove.{LeadsTo, edge_front}
use Rattle.art_tree.specs.Invariant.Shape.{Shape, Covers, CoversLeaf, CoversNode}
use Rattle.art_tree.specs.Calls.Placing.{IsOverLeaf}
use Rattle.art_tree.specs.Calls.Removing.{EndsBelow, StartsBelow}
use Rattle.art_tree.specs.Calls.Forks.{ForkFits, PastLength}
use Rattle.art_tree.specs.Calls.Stops.{PastDepth, StopsAt, IsStopBelow}
use Rattle.art_tree.specs.declared.tree.stop.Stop.{Stop}
use Rattle.art_tree.specs.declared.tree.stop.Stop.TheVariants as stop
use Rattle.art_kinds.specs.Nodes.{Node}
use Rattle.art_kinds.specs.declared.records.ids.Child.{Child}
use Rattle.art_kinds.specs.declared.records.ids.Child.TheVariants.{Leaf, Inner}
use Rattle.art_kinds.specs.declared.records.ids.Edge.{Edge}
use Rattle.art_tree.specs.declared.tree.descent.Fork.{Fork}
use Rattle.art_tree.specs.declared.tree.descent.Fork.TheVariants as fork
use Rattle.art_tree.specs.declared.tree.point.Gap.{Gap}
use Rattle.art_tree.proofs.BeginsLemmas.{Begins-edge_front, Begins-linear, Begins-take, take_front}
use Rattle.art_tree.proofs.Invariant.Growing.{covers_above}

-- the front of an edge of a node that is less deep is no longer than the depth
pub front_within : {P : ℕ} {keys : ℕ → Option Bytes} {nodes : ℕ → Option Node} {root : Option Child} (s : Shape P keys nodes root) {depth : ℕ} (c : Child) (a : Option (ℕ × ℕ)) → LeadsTo nodes root a c → EndsBelow nodes a depth → length (edge_front s.front_of a) ≤ depth
front_within s c None l e = omega arith
front_within {nodes = nodes} s {depth = depth} c (Some a) l e =
    let x : nodes a.0 ≡ Some e.0 = e.1 in
    let y : nodes a.0 ≡ Some l.0 = l.1 in
    let same : e.0 ≡ l.0 = cc in
    let d : l.0.depth ≡ length (s.front_of a.0) = (s.node a.0 l.0 l.1).depth in
    let d2 : e.0.depth ≡ l.0.depth = ap (λ (z : Node). z.depth) same in
    let lt : e.0.depth < depth = e.2 in
    let k : length (s.front_of a.0 ++ a.1 ∷ []) ≡ length (s.front_of a.0) + 1 = length-append (s.front_of a.0) (a.1 ∷ []) in
    omega arith

module _ {P : ℕ} (keys : ℕ → Option Bytes) (nodes : ℕ → Option Node) (root : Option Child) (s : Shape P keys nodes root) (leaf depth : ℕ) (nearest : Bytes) (is : keys leaf ≡ Some nearest) (above : Option (ℕ × ℕ)) where
  -- an edge that does not begin too deep, and leads past the depth
  pub shown_past : (c : Child) → depth ≤ length nearest → LeadsTo nodes root above c → EndsBelow nodes above depth → Begins (edge_front s.front_of above) nearest → PastDepth nodes depth c → ForkFits nodes root s.front_of nearest depth (fork.Edge above c)
  shown_past c long leads ends front past =
      let w : length (edge_front s.front_of above) ≤ depth = front_within s c above leads ends in
      let l : length (take depth nearest) ≡ depth = length-take-le depth nearest long in
      (record { leads = leads; along = Begins-linear (edge_front s.front_of above) (take depth nearest) nearest front (Begins-take depth nearest) (omega arith) }, go c past)
    where
      go : (c : Child) → PastDepth nodes depth c → PastLength s.front_of depth c
      go (Leaf i) p = tt
      go (Inner m) p = let d : p.0.depth ≡ length (s.front_of m) = (s.node m p.0 p.1).depth in let l : depth < p.0.depth = p.2 in omega arith

  -- an edge that leads to the nearest leaf and does not begin too deep
  pub shown_edge : depth ≤ length nearest → LeadsTo nodes root above (Leaf leaf) → EndsBelow nodes above depth → ForkFits nodes root s.front_of nearest depth (fork.Edge above (Leaf leaf))
  shown_edge long leads ends =
      let c : CoversLeaf keys (edge_front s.front_of above) leaf = covers_above keys nodes root s above (Leaf leaf) leads in
      let own : keys leaf ≡ Some c.key = c.is in
      let same : c.key ≡ nearest = cc in
      let front : Begins (edge_front s.front_of above) nearest = subst (λ (z : Bytes). Begins (edge_front s.front_of above) z) same c.front in
      shown_past (Leaf leaf) long leads ends front tt

  -- a node of this depth whose front is a prefix of the nearest key
  pub shown_front : (n : ℕ) (x : Node) → nodes n ≡ Some x → x.depth ≡ depth → LeadsTo nodes root above (Inner n) → Begins (s.front_of n) nearest → ForkFits nodes root s.front_of nearest depth (fork.Node above n)
  shown_front n x is e leads front =
      let d : x.depth ≡ length (s.front_of n) = (s.node n x is).depth in
      let long : length (s.front_of n) ≡ depth = sym d ∙ e in
      let stands : s.front_of n ≡ take depth nearest = sym (take_front (s.front_of n) nearest front) ∙ ap (λ (z : ℕ). take z nearest) long in
      let v : CoversNode keys nodes s.front_of (edge_front s.front_of above) n = covers_above keys nodes root s above (Inner n) leads in
      (record { leads = leads; along = subst (λ (z : Bytes). Begins (edge_front s.front_of above) z) stands v.front }, stands)

  -- a node of this depth with the nearest leaf at one of its edges
  pub shown_node : (n byte : ℕ) → LeadsTo nodes root above (Inner n) → IsOverLeaf nodes n depth byte leaf → ForkFits nodes root s.front_of nearest depth (fork.Node above n)
  shown_node n byte leads o =
      let x : Node = o.node in
      let c : CoversLeaf keys (s.front_of n ++ byte ∷ []) leaf = (s.node n x o.is).below byte (Leaf leaf) o.there in
      let own : keys leaf ≡ Some c.key = c.is in
      let same : c.key ≡ nearest = cc in
      shown_front n x o.is o.deep leads (Begins-edge_front (s.front_of n) nearest byte (subst (λ (z : Bytes). Begins (s.front_of n ++ byte ∷ []) z) same c.front))

-- the edge above the start of a descent is the edge above its stop
pub stop_below : (nodes : ℕ → Option Node) (root : Option Child) (n : ℕ) (above : Option (ℕ × ℕ)) (start : ℕ) {child own : Child} → child ≡ own → LeadsTo nodes root above child → StartsBelow nodes above start → start ≤ n → (s : Stop) → StopsAt nodes own start s → IsStopBelow nodes root n above s
stop_below nodes root n above start {child} {own} is leads starts within s at = go s at
  where
    ends : (a : Option (ℕ × ℕ)) → StartsBelow nodes a start → (depth : ℕ) → start ≤ depth → EndsBelow nodes a depth
    ends None s depth low = tt
    ends (Some e) s depth low = let one : start ≡ s.0.depth + 1 = s.2 in (s.0, s.1, omega arith)

    to : (c : Child) → own ≡ c → LeadsTo nodes root above c
    to c e = subst (λ (z : Child). LeadsTo nodes root above z) (is ∙ e) leads

    go : (s : Stop) → StopsAt nodes own start s → IsStopBelow nodes root n above s
    go (stop.Same i) at = (to (Leaf i) at, ends above starts n within)
    go (stop.Shorter i) at = tt
    go (stop.Longer c) at = (to c at, ends above starts n within)
    go (stop.AtNode m depth) at = to (Inner m) at
    go (stop.AtEdge c depth byte) at = (to c at.0, ends above starts depth at.1, at.2)

-- the edge next to a byte is an edge of the node
next_there : (is_after : Bool) (es : List Edge) (b : ℕ) (e : Edge) → IsNextTo is_after es b e → child_at es e.byte ≡ Some e.to
next_there true es b e n = n.1
next_there false es b e n = n.1

-- the fork of a gap that was found by a descent is right
module _ {P : ℕ} (keys : ℕ → Option Bytes) (nodes : ℕ → Option Node) (root : Option Child) (s : Shape P keys nodes root) (gap : Gap) (key : Bytes) (is : keys gap.nearest ≡ Some key) (above : Option (ℕ × ℕ)) (depth : ℕ) (deep : gap.depth ≡ depth) where
  under : (g : Bytes) → (is_first : Bool) → IsEndUnder keys is_first g gap.nearest → Begins g key
  under g is_first u = let own : keys gap.nearest ≡ Some u.key = u.is in let same : u.key ≡ key = cc in subst (λ (z : Bytes). Begins g z) same u.front

  -- at a node
  pub shown_at_node : (n : ℕ) → gap.fork ≡ fork.Node above n → LeadsTo nodes root above (Inner n) → (x : Node) → nodes n ≡ Some x → (b : ℕ) (q : Bytes) (l : LeavesAtNode P keys nodes n b q) → depth ≡ length (l.apart.shape.front_of n)
      → (is_after : Bool) (e : Edge) → IsNextTo is_after x.edges b e → ((g : Bytes) → Covers keys nodes s.front_of g e.to → IsEndUnder keys (not is_after) g gap.nearest) → ForkFits nodes root s.front_of key gap.depth gap.fork
  shown_at_node n fork_is leads x x_is b q l d is_after e next end =
      let covers = (s.node n x x_is).below e.byte e.to (next_there is_after x.edges b e next) in
      let own : x.depth ≡ length (l.apart.shape.front_of n) = (l.apart.shape.node n x x_is).depth in
      let front : Begins (s.front_of n) key = Begins-edge_front (s.front_of n) key e.byte (under (s.front_of n ++ e.byte ∷ []) (not is_after) (end (s.front_of n ++ e.byte ∷ []) covers)) in
      subst (λ (z : Fork). ForkFits nodes root s.front_of key gap.depth z) (sym fork_is)
      (shown_front keys nodes root s gap.nearest gap.depth key is above n x x_is (own ∙ sym d ∙ sym deep) leads front)

  -- at an edge
  pub shown_at_edge : gap.depth ≤ length key → (c : Child) → gap.fork ≡ fork.Edge above c → LeadsTo nodes root above c → EndsBelow nodes above depth → PastDepth nodes depth c
      → (is_first : Bool) → ((g : Bytes) → Covers keys nodes s.front_of g c → IsEndUnder keys is_first g gap.nearest) → ForkFits nodes root s.front_of key gap.depth gap.fork
  shown_at_edge long c fork_is leads ends past is_first end =
      let g = edge_front s.front_of above in
      let front : Begins g key = under g is_first (end g (covers_above keys nodes root s above c leads)) in
      let ends' : EndsBelow nodes above gap.depth = subst (λ (d : ℕ). EndsBelow nodes above d) (sym deep) ends in
      let past' : PastDepth nodes gap.depth c = subst (λ (d : ℕ). PastDepth nodes d c) (sym deep) past in
      subst (λ (z : Fork). ForkFits nodes root s.front_of key gap.depth z) (sym fork_is)
      (shown_past keys nodes root s gap.nearest gap.depth key is above c long leads ends' front past')
