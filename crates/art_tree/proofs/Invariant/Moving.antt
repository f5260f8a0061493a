-- A node under another number.
use Rattle.std.proofs.Common.{◌≡◌, ◌≢◌, ℕ, [], ◌∷◌, ◌++◌, refl, ap, sym, subst, Option, Some, None, IsSome, ◌∙◌, inl, inr, cond, eqb, eq-eqb, true, false}
use Rattle.std.proofs.lemmas.Bool.{ne_eqb}
use Rattle.std.proofs.lemmas.Bool.Decides.{eqb_tells}
use Rattle.art_tree.specs.Begins.{Bytes, Begins, next_byte}
use Rattle.art_kinds.specs.Nodes.{Node, Renames, Redirects}
use Rattle.art_kinds.specs.Edges.{child_at, Ascends}
use Rattle.art_tree.specs.Invariant.Shape.{Shape, Keeps, Covers, CoversNode, NodeFits, RootFits}
use Rattle.art_tree.specs.Invariant.EdgesAbove.{LeadsTo, TurnsTo, edge_front}
use Rattle.art_kinds.specs.declared.records.ids.Child.{Child}
use Rattle.art_kinds.specs.declared.records.ids.Child.TheVariants.{Leaf, Inner}
use Rattle.blart_keys.proofs.Options.{is_some, some_of}
use Rattle.art_tree.proofs.Invariant.Growing.{covers_above}
use Rattle.art_tree.proofs.Invariant.OneEdge.{not_itself, same_edge, one_above, kept_mid}
use Rattle.art_tree.proofs.Invariant.Prefixes.{keeps_as, live_before}
use Rattle.art_tree.proofs.Invariant.SameShapes.{rooted, rooted-front}

module _ (n m : ℕ) where
  -- the number m in place of n
  abbrev new_number : ℕ → ℕ
  new_number j = cond (eqb j n) m j

  -- the same for a child
  abbrev child_renamed : Child → Child
  child_renamed (Leaf i) = Leaf i
  child_renamed (Inner j) = Inner (new_number j)

  -- and for the child of an edge, if there is one
  abbrev renamed : Option Child → Option Child
  renamed None = None
  renamed (Some c) = Some (child_renamed c)

  -- the node is the same, except for the number n
  record SameNode (x x' : Node) : Type 0 where
    pub depth : x'.depth ≡ x.depth
    pub prefix : x'.prefix ≡ x.prefix
    pub edges : (b : ℕ) → child_at x'.edges b ≡ renamed (child_at x.edges b)
    pub ascends : Ascends x.edges → Ascends x'.edges

  -- the nodes are the old ones, with n's under m, and each edge leads to the same node
  record Moves (old new : ℕ → Option Node) : Type 0 where
    pub live : IsSome (old n)
    pub fresh : m ≢ n → old m ≡ None
    pub to : (j : ℕ) (x : Node) → old j ≡ Some x → (x' : Node) × (new (new_number j) ≡ Some x') × SameNode x x'
    pub back : (k : ℕ) (x' : Node) → new k ≡ Some x' → (j : ℕ) × (x : Node) × (k ≡ new_number j) × (old j ≡ Some x) × SameNode x x'

renamed_some : (n m : ℕ) (o : Option Child) (c' : Child) → renamed n m o ≡ Some c' → (c : Child) × (o ≡ Some c) × (child_renamed n m c ≡ c')
renamed_some n m None c' e = absurd cc
renamed_some n m (Some c) c' e = (c, refl, (let h : child_renamed n m c ≡ c' = cc in h))

-- only a node is renamed to a node
renamed_node : (n m : ℕ) (c : Child) (k : ℕ) → child_renamed n m c ≡ Inner k → (j : ℕ) × (c ≡ Inner j) × (new_number n m j ≡ k)
renamed_node n m (Leaf i) k e = absurd cc
renamed_node n m (Inner j) k e = (j, refl, cc)

renamed_live : (n m : ℕ) (o : Option Child) → IsSome o → IsSome (renamed n m o)
renamed_live n m None h = h
renamed_live n m (Some c) h = refl

module _ {P : ℕ} (keys : ℕ → Option Bytes) (nodes nodes' : ℕ → Option Node) (root : Option Child) (n m : ℕ) (s : Shape P keys nodes root) (mv : Moves n m nodes nodes') where
  abbrev fronts_after : ℕ → Bytes
  fronts_after k = cond (eqb k m) (s.front_of n) (s.front_of k)

  front_kept : (j : ℕ) (x : Node) → nodes j ≡ Some x → fronts_after (new_number n m j) ≡ s.front_of j
  front_kept j x is =
      elim (eqb_tells j n) [
        | inl e ↦ let t : eqb m m ≡ true = eq-eqb m m refl in rw (e.0, t) (ap s.front_of (sym e.1))
        | inr e ↦
            let off : j ≢ m = λ z. (elim (eqb_tells m n) [
              | inl f ↦ e.1 (z ∙ f.1)
              | inr f ↦ (let g : nodes m ≡ None = mv.fresh f.1 in let h : nodes m ≡ Some x = rw (← z) is in let k : Some x ≡ None = sym h ∙ g in absurd cc)
            ]) in
            let t : eqb j m ≡ false = ne_eqb j m off in rw (e.0, t) refl
      ]

  covers_moved : (g : Bytes) (c : Child) → Covers keys nodes s.front_of g c → Covers keys nodes' fronts_after g (child_renamed n m c)
  covers_moved g (Leaf i) c = c
  covers_moved g (Inner j) c =
      let x = some_of (nodes j) c.live in
      let y = mv.to j x.0 x.1 in
      let e : s.front_of j ≡ fronts_after (new_number n m j) = sym (front_kept j x.0 x.1) in
      record {
        live = is_some (nodes' (new_number n m j)) y.0 y.1;
        front = subst (λ (t : Bytes). Begins g t) e c.front;
        only = λ a k is b. subst (λ (t : Bytes). Begins t k) e (c.only a k is b);
      }

  fits_moved : (g : Bytes) (x x' : Node) → SameNode n m x x' → NodeFits keys nodes s.front_of g x → NodeFits keys nodes' fronts_after g x'
  fits_moved g x x' same f = record {
    depth = same.depth ∙ f.depth;
    below = λ b c' e.
        (let r = renamed_some n m (child_at x.edges b) c' (sym (same.edges b) ∙ e) in
        subst (λ (c : Child). Covers keys nodes' fronts_after (g ++ b ∷ []) c) r.2 (covers_moved (g ++ b ∷ []) r.0 (f.below b r.0 r.1)));
    longer = f.longer;
    edge = λ j k is b. (let P : Option Child → Type 0 = λ o. IsSome o in subst P (sym (same.edges (next_byte g k))) (renamed_live n m (child_at x.edges (next_byte g k)) (f.edge j k is b)));
    parts = f.parts;
    ascends = same.ascends f.ascends;
  }

  top_moved : (r : Option Child) → RootFits keys nodes s.front_of r → RootFits keys nodes' fronts_after (renamed n m r)
  top_moved None h = h
  top_moved (Some c) h = covers_moved [] c h

  -- an edge to a node led to the same node by its old number
  edge_was : (a : Option (ℕ × ℕ)) (k : ℕ) → LeadsTo nodes' (renamed n m root) a (Inner k) → (a' : Option (ℕ × ℕ)) × (j : ℕ) × LeadsTo nodes root a' (Inner j) × (new_number n m j ≡ k) × (edge_front fronts_after a ≡ edge_front s.front_of a')
  edge_was None k l =
      let r = renamed_some n m root (Inner k) l in
      let c = renamed_node n m r.0 k r.2 in
      (None, c.0, r.1 ∙ ap (λ (z : Child). Some z) c.1, c.2, refl)
  edge_was (Some (q, b)) k l =
      let w = mv.back q l.0 l.1 in
      let r = renamed_some n m (child_at w.1.edges b) (Inner k) (sym (w.4.edges b) ∙ l.2) in
      let c = renamed_node n m r.0 k r.2 in
      (Some (w.0, b), c.0, (w.1, w.3, r.1 ∙ ap (λ (z : Child). Some z) c.1), c.2, ap (λ (t : Bytes). t ++ b ∷ []) (ap fronts_after w.2 ∙ front_kept w.0 w.1 w.3))

  kept_moved : Keeps P nodes' (renamed n m root) fronts_after
  kept_moved a k x' l is =
      let e = edge_was a k l in
      let cov : CoversNode keys nodes s.front_of (edge_front s.front_of e.0) e.1 = covers_above keys nodes root s e.0 (Inner e.1) e.2 in
      let x = some_of (nodes e.1) cov.live in
      let y = mv.to e.1 x.0 x.1 in
      let there : nodes' k ≡ Some y.0 = ap nodes' (sym e.3) ∙ y.1 in
      let z : y.0 ≡ x' = cc in
      keeps_as P s.front_of fronts_after e.0 a e.1 k x.0 x' (s.keeps e.0 e.1 x.0 e.2 x.1) (ap (λ (w : Node). w.prefix) (sym z) ∙ y.2.prefix) e.4 (ap fronts_after (sym e.3) ∙ front_kept e.1 x.0 x.1)

  -- the tree with a node under another number
  shape_moved : Shape P keys nodes' (renamed n m root)
  shape_moved = record {
    front_of = fronts_after;
    top = top_moved root s.top;
    node = λ k x' is.
        (let r = mv.back k x' is in
        let e : s.front_of r.0 ≡ fronts_after k = sym (front_kept r.0 r.1 r.3) ∙ ap fronts_after (sym r.2) in
        subst (λ (g : Bytes). NodeFits keys nodes' fronts_after g x') e (fits_moved (s.front_of r.0) r.1 x' r.4 (s.node r.0 r.1 r.3)));
    joined = λ i j k l a b off.
        (let r = s.joined i j k l a b off in
        let x = some_of (nodes r.0) r.1 in
        let y = mv.to r.0 x.0 x.1 in
        (new_number n m r.0, is_some (nodes' (new_number n m r.0)) y.0 y.1, front_kept r.0 x.0 x.1 ∙ r.2));
    apart = λ a b la lb e.
        (let x = some_of (nodes' a) la in
        let y = some_of (nodes' b) lb in
        let p = mv.back a x.0 x.1 in
        let q = mv.back b y.0 y.1 in
        let f : s.front_of p.0 ≡ s.front_of q.0 = sym (front_kept p.0 p.1 p.3) ∙ ap fronts_after (sym p.2) ∙ e ∙ ap fronts_after q.2 ∙ front_kept q.0 q.1 q.3 in
        let h : p.0 ≡ q.0 = s.apart p.0 q.0 (is_some (nodes p.0) p.1 p.3) (is_some (nodes q.0) q.1 q.3) f in
        p.2 ∙ ap (new_number n m) h ∙ sym q.2);
    keeps = kept_moved;
  }

  -- the fronts: m has the front of n
  front_of_moved : (k : ℕ) → shape_moved.front_of k ≡ fronts_after k
  unfolding shape_moved
  front_of_moved k = refl

-- ---- the edge above the node is redirected to its new number

-- another child keeps its number
renamed-off : (n m : ℕ) (o : Option Child) → (o ≡ Some (Inner n) → ⊥) → renamed n m o ≡ o
renamed-off n m None h = refl
renamed-off n m (Some (Leaf i)) h = refl
renamed-off n m (Some (Inner j)) h = elim (eqb_tells j n) [ inl e ↦ absurd (h (ap (λ z. Some (Inner z)) e.1)) | inr e ↦ rw e.0 refl ]

module _ {P : ℕ} (keys : ℕ → Option Bytes) (nodes mid new : ℕ → Option Node) (root root' : Option Child) (n m : ℕ) (s : Shape P keys nodes root) (ren : Renames nodes mid n m) where
  number-at : new_number n m n ≡ m
  number-at = let t : eqb n n ≡ true = eq-eqb n n refl in rw t refl

  number-off : (j : ℕ) → j ≢ n → new_number n m j ≡ j
  number-off j h = let t : eqb j n ≡ false = ne_eqb j n h in rw t refl

  -- each node is there under its new number
  moved : (j : ℕ) (x : Node) → nodes j ≡ Some x → mid (new_number n m j) ≡ Some x
  moved j x is =
      elim (eqb_tells j n) [
        | inl e ↦ ap (λ k. mid (new_number n m k)) e.1 ∙ ap mid number-at ∙ ren.is ∙ sym ren.was ∙ ap nodes (sym e.1) ∙ is
        | inr e ↦ ap mid (number-off j e.1) ∙ kept_mid nodes mid n m j x ren is e.1
      ]

  -- and no other node is there
  came : (k : ℕ) (x : Node) → mid k ≡ Some x → (j : ℕ) × (k ≡ new_number n m j) × (nodes j ≡ Some x)
  came k x is =
      elim (eqb_tells k m) [
        | inl e ↦ (n, e.1 ∙ sym number-at, ren.was ∙ sym ren.is ∙ ap mid (sym e.1) ∙ is)
        | inr e ↦
            let off : k ≢ n = λ z. (let f : mid n ≡ Some x = ap mid (sym z) ∙ is in let g : mid n ≡ None = ren.gone (λ h. e.1 (z ∙ sym h)) in cc) in
            (k, sym (number-off k off), sym (ren.others k off e.1) ∙ is)
      ]

  -- a node without the edge to n is unchanged
  other_same : (above : Option (ℕ × ℕ)) → LeadsTo nodes root above (Inner n) → (j : ℕ) (x : Node) → nodes j ≡ Some x → ((b : ℕ) → above ≡ Some (j, b) → ⊥) → SameNode n m x x
  other_same above leads j x is far = record {
    depth = refl;
    prefix = refl;
    edges = λ b. sym (renamed-off n m (child_at x.edges b) (λ e. far b (one_above keys nodes root s n above (Some (j, b)) leads (x, is, e))));
    ascends = λ a. a;
  }

  -- each node after both changes
  changed : (above : Option (ℕ × ℕ)) → LeadsTo nodes root above (Inner n) → TurnsTo mid new root root' above (Inner m) → (j : ℕ) (x : Node) → nodes j ≡ Some x → (x' : Node) × (new (new_number n m j) ≡ Some x') × SameNode n m x x'
  changed None leads turns j x is = (x, turns.0 (new_number n m j) ∙ moved j x is, other_same None leads j x is (λ b e. let f : None ≡ Some (j, b) = e in cc))
  changed (Some (p, b)) leads turns j x is =
      let red : Redirects mid new p b (Inner m) = turns.0 in
      let p_off : p ≢ n = not_itself keys nodes root s p b n leads.0 leads.1 leads.2 in
      elim (eqb_tells j p) [
        | inl e ↦
            let here : nodes p ≡ Some x = ap nodes (sym e.1) ∙ is in
            let a : nodes p ≡ Some leads.0 = leads.1 in
            let x_is : leads.0 ≡ x = cc in
            let f : mid p ≡ Some x = kept_mid nodes mid n m p x ren here p_off in
            let g : mid p ≡ Some red.was = red.was_is in
            let same : red.was ≡ x = cc in
            let low : child_at x.edges b ≡ Some (Inner n) = ap (λ (y : Node). child_at y.edges b) (sym x_is) ∙ leads.2 in (
              red.is,
              ap (λ k. new (new_number n m k)) e.1 ∙ ap new (number-off p p_off) ∙ red.is_is,
              record {
                depth = red.depth ∙ ap (λ (y : Node). y.depth) same;
                prefix = red.prefix ∙ ap (λ (y : Node). y.prefix) same;
                edges = λ c. elim (eqb_tells c b) [
                  | inl h ↦ ap (child_at red.is.edges) h.1 ∙ red.now ∙ sym (ap (λ z. renamed n m (child_at x.edges z)) h.1 ∙ ap (renamed n m) low ∙ ap (λ z. Some (Inner z)) number-at)
                  | inr h ↦ red.rest c h.1 ∙ ap (λ (y : Node). child_at y.edges c) same ∙ sym (renamed-off n m (child_at x.edges c) (λ z. h.1 (sym (same_edge (p, b) (p, c) (one_above keys nodes root s n (Some (p, b)) (Some (p, c)) leads (x, here, z))).1)))
                ];
                ascends = λ a. red.ascends;
              },
            )
        | inr e ↦
            let m_off : m ≢ p = λ z. (let f : nodes p ≡ Some leads.0 = leads.1 in let g : nodes p ≡ None = ap nodes (sym z) ∙ ren.fresh (λ h. p_off (sym z ∙ h)) in cc) in
            let off : new_number n m j ≢ p = λ z. elim (eqb_tells j n) [ inl f ↦ m_off (sym (ap (new_number n m) f.1 ∙ number-at) ∙ z) | inr f ↦ e.1 (sym (number-off j f.1) ∙ z) ] in
            (x, red.others (new_number n m j) off ∙ moved j x is, other_same (Some (p, b)) leads j x is (λ c h. e.1 (sym (same_edge (p, b) (j, c) h).0)))
      ]

  between : (above : Option (ℕ × ℕ)) → TurnsTo mid new root root' above (Inner m) → (k : ℕ) → IsSome (new k) → IsSome (mid k)
  between None turns k h = subst (λ (o : Option Node). IsSome o) (turns.0 k) h
  between (Some (p, b)) turns k h = let red : Redirects mid new p b (Inner m) = turns.0 in live_before mid new p red.was red.is red.was_is red.is_is red.others k h

  moves : (above : Option (ℕ × ℕ)) → LeadsTo nodes root above (Inner n) → TurnsTo mid new root root' above (Inner m) → Moves n m nodes new
  moves above leads turns = record {
    live = is_some (nodes n) ren.node ren.was;
    fresh = ren.fresh;
    to = changed above leads turns;
    back = λ k x' is.
        (let y = some_of (mid k) (between above turns k (is_some (new k) x' is)) in
        let j = came k y.0 y.1 in
        let c = changed above leads turns j.0 y.0 j.2 in
        let f : new k ≡ Some c.0 = ap new j.1 ∙ c.1 in
        let same : c.0 ≡ x' = cc in
        (j.0, y.0, j.1, j.2, subst (λ (z : Node). SameNode n m y.0 z) same c.2));
  }

  root_is : (above : Option (ℕ × ℕ)) → LeadsTo nodes root above (Inner n) → TurnsTo mid new root root' above (Inner m) → renamed n m root ≡ root'
  root_is None leads turns = ap (renamed n m) leads ∙ ap (λ z. Some (Inner z)) number-at ∙ sym turns.1
  root_is (Some (p, b)) leads turns = renamed-off n m root (λ e. let f : Some (p, b) ≡ None = one_above keys nodes root s n (Some (p, b)) None leads e in cc) ∙ sym turns.1

  -- the tree with the node under its new number, and the fronts: m has the front of n
  pub node_moved : (above : Option (ℕ × ℕ)) → LeadsTo nodes root above (Inner n) → TurnsTo mid new root root' above (Inner m) → (s' : Shape P keys new root') × ((k : ℕ) → s'.front_of k ≡ cond (eqb k m) (s.front_of n) (s.front_of k))
  node_moved above leads turns =
      let mv = moves above leads turns in
      let s' = shape_moved keys nodes new root n m s mv in
      let e = root_is above leads turns in
      (rooted s' e, λ k. rooted-front keys new (renamed n m root) root' s' e k ∙ front_of_moved keys nodes new root n m s mv k)
