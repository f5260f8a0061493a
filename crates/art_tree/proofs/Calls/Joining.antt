-- A leaf is added at a node, or at an edge.
use Rattle.std.proofs.Common.{◌≡◌, ℕ, ◌+◌, ◌%◌, ◌<◌, ◌≤◌, List, [], ◌∷◌, ◌++◌, length, take, slice_range, get_or, refl, ap, arith, sym, subst, Option, Some, None, ◌∙◌, eqb, eq-eqb, true, inl, inr, length-append}
use Rattle.std.specs.Option.{IsSomeAnd}
use Rattle.std.proofs.lemmas.Bool.{cases_eq}
use Rattle.std.proofs.lemmas.List.{length-take-le}
use Rattle.art_tree.specs.Invariant.EdgesAbove.{LeadsTo, TurnsTo, edge_front}
use Rattle.art_tree.specs.Begins.{Bytes, Begins, next_byte}
use Rattle.art_tree.specs.Gaps.{LeavesNearest}
use Rattle.art_tree.specs.Calls.Placing.{MakesNodeOfTwo, DepthWithin, KeepsFrom}
use Rattle.art_tree.specs.Calls.Removing.{StartsBelow, EndsBelow, Cuts, CutsAfter}
use Rattle.art_kinds.specs.Edges.{child_at}
use Rattle.art_kinds.specs.Nodes.{Node, Nodes, at, places, HasPlace, Renames}
use Rattle.art_tree.specs.Invariant.Shape.{Shape, CoversNode}
use Rattle.art_tree.specs.Calls.Forks.{PastLength, EdgeFits}
use Rattle.art_kinds.specs.declared.records.ids.Child.{Child}
use Rattle.art_kinds.specs.declared.records.ids.Child.TheVariants.{Leaf, Inner}
use Rattle.art_kinds.specs.declared.records.ids.Edge.{Edge}
use Rattle.art_tree.proofs.BeginsLemmas.{Begins-length, Begins-take, Begins-trans}
use Rattle.art_tree.proofs.Invariant.Growing.{Departs, Gains, covers_above, no_edge}
use Rattle.art_tree.proofs.NumberedPairs.KeyChanges.{departs_at, next_at}
use Rattle.art_tree.proofs.Invariant.EdgesAbove.{leads_made}
use Rattle.art_tree.proofs.Invariant.Moving.{node_moved}
use Rattle.blart_keys.proofs.Options.{some_of}
use Rattle.art_tree.proofs.Calls.PlacedShapes.{along_key, nearest_long, placed_edge}
use Rattle.art_tree.proofs.Invariant.Prefixes.{start_is, cut_front, cuts_after, cut_leads}

-- a redirected edge leads to its new child
pub leads_turned : (old new : ℕ → Option Node) (root root' : Option Child) (above : Option (ℕ × ℕ)) (c : Child) → TurnsTo old new root root' above c → LeadsTo new root' above c
leads_turned old new root root' None c t = t.1
leads_turned old new root root' (Some e) c t = (t.0.is, t.0.is_is, t.0.now)

module _ {P : ℕ} (keys : ℕ → Option Bytes) (nodes : ℕ → Option Node) (root : Option Child) (s : Shape P keys nodes root) where
  -- a child along a key, past a length, is no deeper than the key is long
  pub within_key : (m : Bytes) (depth : ℕ) (above : Option (ℕ × ℕ)) (c : Child) (leaf : ℕ) → keys leaf ≡ Some m → EdgeFits nodes root s.front_of m depth above c → PastLength s.front_of depth c → DepthWithin nodes c (depth + 1) (length m)
  within_key m depth above (Leaf i) leaf is fits past = tt
  within_key m depth above (Inner n) leaf is fits past =
      let c = covers_above keys nodes root s above (Inner n) fits.leads in
      let x = some_of (nodes n) c.live in
      let d : x.0.depth ≡ length (s.front_of n) = (s.node n x.0 x.1).depth in
      let b : Begins (s.front_of n) m = c.only leaf m is (Begins-trans (edge_front s.front_of above) (take depth m) m fits.along (Begins-take depth m)) in
      let l : length (s.front_of n) ≤ length m = Begins-length (s.front_of n) m b in
      let p : depth < length (s.front_of n) = past in
      (x.0, x.1, omega arith, omega arith)

module _ (keys : ℕ → Option Bytes) (leaf depth : ℕ) (q : Bytes) (good : LeavesNearest keys leaf depth q) (m : Bytes) (m_is : keys leaf ≡ Some m) where
  -- if a key parts from the others at a node, the node has no edge at the key's byte, once moved too
  pub wide_absent : {P : ℕ} → (nodes mid wide : ℕ → Option Node) (root root' : Option Child) (n n' : ℕ) (above : Option (ℕ × ℕ)) (s : Shape P keys nodes root) → s.front_of n ≡ take depth m
      → Renames nodes mid n n' → LeadsTo nodes root above (Inner n) → TurnsTo mid wide root root' above (Inner n') → IsSomeAnd (wide n') (λ x. child_at x.edges (get_or q depth 0) ≡ None)
  wide_absent nodes mid wide root root' n n' above s stands ren leads turns =
      let w = node_moved keys nodes mid wide root root' n n' s ren above leads turns in
      let e : eqb n' n' ≡ true = eq-eqb n' n' refl in
      let f : w.0.front_of n' ≡ s.front_of n = w.1 n' ∙ rw e refl in
      let t : w.0.front_of n' ≡ take depth q = f ∙ stands ∙ along_key keys leaf depth q good m m_is in
      let d : Departs keys (w.0.front_of n') q = subst (λ (t : Bytes). Departs keys t q) (sym t) (departs_at keys leaf depth q good) in
      let b : get_or q depth 0 ≡ next_byte (w.0.front_of n') q = sym (next_at keys leaf depth q good) ∙ ap (λ (t : Bytes). next_byte t q) (sym t) in
      let c = covers_above keys wide root' w.0 above (Inner n') (leads_turned mid wide root root' above (Inner n') turns) in
      let x = some_of (wide n') c.live in
      let P : Option Node → Type 0 = λ o. IsSomeAnd o (λ x. child_at x.edges (get_or q depth 0) ≡ None) in
      subst P (sym x.1) (no_edge keys wide root' w.0 n' (get_or q depth 0) x.0 q x.1 d b)

  module _ {P : ℕ} (nodes : ℕ → Option Node) (root : Option Child) (s : Shape P keys nodes root) (above : Option (ℕ × ℕ)) (c : Child) (fits : EdgeFits nodes root s.front_of m depth above c) (past : PastLength s.front_of depth c) where
    -- the edge's front is no longer than the depth
    edge_within : length (edge_front s.front_of above) ≤ depth
    edge_within =
        let l : length (edge_front s.front_of above) ≤ length (take depth m) = Begins-length (edge_front s.front_of above) (take depth m) fits.along in
        let far : depth < length m = nearest_long keys leaf depth q good m m_is in
        let k : length (take depth m) ≡ depth = length-take-le depth m (omega arith) in
        omega arith

    -- so the node of the edge is less deep
    pub over_edge : (end : ℕ) → depth ≤ end → EndsBelow nodes above end
    over_edge end le = go above fits.leads edge_within
      where
        go : (a : Option (ℕ × ℕ)) → LeadsTo nodes root a c → length (edge_front s.front_of a) ≤ depth → EndsBelow nodes a end
        go None l w = tt
        go (Some e) l w =
            let d : l.0.depth ≡ length (s.front_of e.0) = (s.node e.0 l.0 l.1).depth in
            let k : length (s.front_of e.0 ++ e.1 ∷ []) ≡ length (s.front_of e.0) + 1 = length-append (s.front_of e.0) (e.1 ∷ []) in
            (l.0, l.1, omega arith)

    -- and the bytes below the edge begin within the depth
    pub starts_over : (start : ℕ) → StartsBelow nodes above start → start ≤ depth
    starts_over start h = let e : start ≡ length (edge_front s.front_of above) = start_is keys nodes root s above start h in let w : length (edge_front s.front_of above) ≤ depth = edge_within in omega arith

    -- a node below the edge keeps the bytes that the nearest key has after the edge's front
    pub keeps_from : (start : ℕ) → StartsBelow nodes above start → KeepsFrom P nodes c m start
    keeps_from start h = go c refl
      where
        go : (d : Child) → c ≡ d → KeepsFrom P nodes d m start
        go (Leaf i) e = tt
        go (Inner n) e = λ x is.
            let leads : LeadsTo nodes root above (Inner n) = subst (λ (c : Child). LeadsTo nodes root above c) e fits.leads in
            let v : CoversNode keys nodes s.front_of (edge_front s.front_of above) n = covers_above keys nodes root s above (Inner n) leads in
            let p : depth < length (s.front_of n) = subst (λ (c : Child). PastLength s.front_of depth c) e past in
            let w : x.depth ≡ length (s.front_of n) = (s.node n x is).depth in
            let b : Begins (s.front_of n) m = v.only leaf m m_is (Begins-trans (edge_front s.front_of above) (take depth m) m fits.along (Begins-take depth m)) in
            let at : start ≡ length (edge_front s.front_of above) = start_is keys nodes root s above start h in
            let le : start ≤ depth = starts_over start h in
            s.keeps above n x leads is ∙ sym (cut_front P m (edge_front s.front_of above) (s.front_of n) start x.depth b at w (omega arith))

    module _ (cut : ℕ → Option Node) (cuts : Cuts nodes cut c (λ end. take P (slice_range m (depth + 1) end))) where
      -- the child keeps the bytes that its front has after the new node's edge
      pub cut_child : CutsAfter P nodes cut s.front_of (take depth m ++ get_or m depth 0 ∷ []) c
      cut_child =
          let far : depth < length m = nearest_long keys leaf depth q good m m_is in
          let k : length (take depth m) ≡ depth = length-take-le depth m (omega arith) in
          let d : length (take depth m ++ get_or m depth 0 ∷ []) ≡ length (take depth m) + 1 = length-append (take depth m) (get_or m depth 0 ∷ []) in
          cuts_after P nodes cut s.front_of c m (take depth m ++ get_or m depth 0 ∷ []) (depth + 1) (omega arith)
          (λ n x e is.
          let v : CoversNode keys nodes s.front_of (edge_front s.front_of above) n = covers_above keys nodes root s above (Inner n) (subst (λ (c : Child). LeadsTo nodes root above c) e fits.leads) in
          let p : depth < length (s.front_of n) = subst (λ (c : Child). PastLength s.front_of depth c) e past in
          let w : x.depth ≡ length (s.front_of n) = (s.node n x is).depth in
          (v.only leaf m m_is (Begins-trans (edge_front s.front_of above) (take depth m) m fits.along (Begins-take depth m)), w, omega arith)) cuts

      -- once the node that splits the edge is made, the edge still leads to the child
      pub leads_new : (mid : ℕ → Option Node) (n : ℕ) (prefix : List ℕ) (one other : Edge) → MakesNodeOfTwo cut mid n depth prefix one other → LeadsTo mid root above c
      leads_new mid n prefix one other f = leads_made cut mid root above c n depth prefix f.low f.high (cut_leads P nodes cut s.front_of (take depth m ++ get_or m depth 0 ∷ []) c cut_child root above c fits.leads) f.made

      -- the leaf at an edge, under a new node
      pub edge_gains : (keys' : ℕ → Option Bytes) (i : ℕ) (mid new : ℕ → Option Node) (root' : Option Child) (n start : ℕ) → Gains keys keys' i q → StartsBelow nodes above start
          → MakesNodeOfTwo cut mid n depth (take P (slice_range q start depth)) (record { byte = get_or q depth 0; to = Leaf i }) (record { byte = get_or m depth 0; to = c }) → TurnsTo mid new root root' above (Inner n) → Shape P keys' new root'
      edge_gains keys' i mid new root' n start gains starts f turns =
          let long : depth < length q = good.longer in
          let deep : length (take depth q) ≡ depth = length-take-le depth q (omega arith) in
          placed_edge keys leaf depth q good m m_is keys' i gains nodes cut mid new root root' above c n (take P (slice_range q start depth)) f.low f.high s fits past cut_child f.made
          (cut_front P q (edge_front s.front_of above) (take depth q) start depth (Begins-take depth q) (start_is keys nodes root s above start starts) (sym deep) (starts_over start starts)) f.sorted f.both turns

-- a node with a place for one more edge still has it once the edge above it is redirected
pub place_led : (old new : Nodes) (root root' : Option Child) (above : Option (ℕ × ℕ)) (to : Child) (n : ℕ) → TurnsTo (at old) (at new) root root' above to → HasPlace old n → HasPlace new n
place_led old new root root' None to n turns place x is l = place x (sym (turns.0 n) ∙ is) l
place_led old new root root' (Some e) to n turns place x is l = elim (cases_eq n e.0) [
  | inl p ↦ (
      let r = turns.0 in
      let a : at new e.0 ≡ Some x = subst (λ z. at new z ≡ Some x) p is in
      let b : Some r.is ≡ Some x = sym r.is_is ∙ a in
      let same : r.is ≡ x = cc in
      let w : length r.was.edges < places (n % 4) = place r.was (subst (λ z. at old z ≡ Some r.was) (sym p) r.was_is) l in
      let k : length r.is.edges < places (n % 4) = omega (arith, w, r.same_length) in
      subst (λ (y : Node). length y.edges < places (n % 4)) same k)
  | inr p ↦ place x (sym (turns.0.others n p) ∙ is) l
]
