-- All keys below an edge but one are removed, and the leaf of that key replaces the child.
use Rattle.std.proofs.Common.{◌≡◌, ◌≢◌, ℕ, ◌+◌, ◌≤◌, [], ◌∷◌, ◌++◌, length, refl, arith, sym, subst, Option, Some, None, IsSome, ◌∙◌, inl, inr, length-append}
use Rattle.std.proofs.lemmas.Bool.{cases_lt}
use Rattle.art_tree.specs.Begins.{Bytes, Begins, next_byte}
use Rattle.blart_keys.specs.Bytes.{common}
use Rattle.art_tree.specs.Invariant.EdgesAbove.{LeadsTo, TurnsTo, edge_front}
use Rattle.art_kinds.specs.Nodes.{Node, Redirects}
use Rattle.art_tree.specs.Invariant.Shape.{Shape, Keeps, Covers, CoversLeaf, NodeFits}
use Rattle.art_kinds.specs.declared.records.ids.Child.{Child}
use Rattle.art_kinds.specs.declared.records.ids.Child.TheVariants.{Leaf, Inner}
use Rattle.art_tree.proofs.BeginsLemmas.{Begins-length, Begins-trans, Begins-linear, Begins-equal, Begins-edge_front, Begins-cases, Bytes-cases, next_byte-front, common-left, common-right}
use Rattle.art_tree.specs.Calls.Pruning.{Prunes, FreesSubtree}
use Rattle.art_tree.proofs.Invariant.Growing.{Parts-instead, top_from}
use Rattle.art_tree.proofs.Invariant.Subtrees.{above_leaf, above_node}
use Rattle.art_tree.proofs.Invariant.Prefixes.{turned_prefix}
use Rattle.art_tree.proofs.Invariant.SameShapes.{rooted}
use Rattle.art_tree.proofs.Invariant.SmallShapes.{shape_one}
use Rattle.art_tree.proofs.Invariant.EdgesAbove.{Turns, turned_node, turned_free, leads_live, came_from, turned_fits}
use Rattle.blart_keys.proofs.Options.{is_some, some_of}

-- the nodes whose fronts begin with g are removed, and the edge at g now leads to the leaf i
pub record PrunesNodes (old new : ℕ → Option Node) (front_of : ℕ → Bytes) (g : Bytes) (c : Child) (i : ℕ) : Type 0 where
  pub gone : (m : ℕ) → Begins g (front_of m) → new m ≡ None
  pub others : (m : ℕ) (x : Node) → (Begins g (front_of m) → ⊥) → old m ≡ Some x → (x' : Node) × (new m ≡ Some x') × (Turns x x' (front_of m) g c (Leaf i) × (x'.prefix ≡ x.prefix))
  pub no_more : (m : ℕ) → old m ≡ None → new m ≡ None

module _ {P : ℕ} (keys keys' : ℕ → Option Bytes) (nodes nodes' : ℕ → Option Node) (root : Option Child) (p b i : ℕ) (k : Bytes) (c : Child) (s : Shape P keys nodes root) (live_p : IsSome (nodes p))
    (prunes : Prunes keys keys' (s.front_of p ++ b ∷ []) i k) (cuts : PrunesNodes nodes nodes' s.front_of (s.front_of p ++ b ∷ []) c i) where
  abbrev g : Bytes
  g = s.front_of p ++ b ∷ []

  g_length : length g ≡ length (s.front_of p) + 1
  g_length = length-append (s.front_of p) (b ∷ [])

  live_kept : (m : ℕ) → IsSome (nodes m) → (Begins g (s.front_of m) → ⊥) → IsSome (nodes' m)
  live_kept m live off = let x = some_of (nodes m) live in let y = cuts.others m x.0 off x.1 in is_some (nodes' m) y.0 y.1

  -- a child is unchanged if its front reaches no further along g than the front of p
  cover_kept : (f : Bytes) (e : Child) → ((l : Bytes) → Begins f l → Begins g l → Begins f (s.front_of p)) → Covers keys nodes s.front_of f e → Covers keys' nodes' s.front_of f e
  cover_kept f (Leaf j) far cov =
      let off : Begins g cov.key → ⊥ = λ h. above_leaf keys nodes root s p live_p f j cov (far cov.key cov.front h) in
      record { key = cov.key; is = prunes.kept j cov.key cov.is off; front = cov.front; only = λ j' l e h. cov.only j' l (prunes.stood j' l e) h }
  cover_kept f (Inner n) far cov =
      let off : Begins g (s.front_of n) → ⊥ = λ h. (
      let l1 : length (s.front_of n) ≤ length (s.front_of p) = Begins-length _ _ (above_node keys nodes root s p live_p f n cov (far (s.front_of n) cov.front h)) in
      let l2 : length g ≤ length (s.front_of n) = Begins-length _ _ h in
      let l3 : length g ≡ length (s.front_of p) + 1 = g_length in
      omega arith) in
      record { live = live_kept n cov.live off; front = cov.front; only = λ j l e h. cov.only j l (prunes.stood j l e) h }

  -- another edge of a remaining node reaches no further
  other_edge : (m d : ℕ) → (Begins g (s.front_of m) → ⊥) → s.front_of m ++ d ∷ [] ≢ g → (l : Bytes) → Begins (s.front_of m ++ d ∷ []) l → Begins g l → Begins (s.front_of m ++ d ∷ []) (s.front_of p)
  other_edge m d off other l fl gl =
      let f : Bytes = s.front_of m ++ d ∷ [] in
      let l1 : length f ≡ length (s.front_of m) + 1 = length-append (s.front_of m) (d ∷ []) in
      let l2 : length g ≡ length (s.front_of p) + 1 = g_length in
      elim (cases_lt (length f) (length g)) [
        | inl lt ↦ Begins-linear f (s.front_of p) l fl (Begins-edge_front (s.front_of p) l b gl) (omega arith)
        | inr ge ↦ elim (cases_lt (length g) (length f)) [
          | inl gt ↦ absurd (off (Begins-linear g (s.front_of m) l gl (Begins-edge_front (s.front_of m) l d fl) (omega arith)))
          | inr le ↦ absurd (other (Begins-equal f g (Begins-linear f g l fl gl le) ge))
        ]
      ]

  leaf_now : CoversLeaf keys' g i
  leaf_now = record { key = k; is = prunes.now; front = prunes.front; only = λ j l e h. prunes.only j l e h }

  -- a remaining key with the same next byte
  instead : (m : ℕ) → (Begins g (s.front_of m) → ⊥) → (j : ℕ) (l : Bytes) → keys j ≡ Some l → Begins (s.front_of m) l → (j' : ℕ) × (l' : Bytes) × (keys' j' ≡ Some l') × Begins (s.front_of m) l' × (next_byte (s.front_of m) l' ≡ next_byte (s.front_of m) l)
  instead m off j l e h = elim (Begins-cases g l) [
    | inr far ↦ (j, l, prunes.kept j l e far, h, refl)
    | inl low ↦ elim (cases_lt (length (s.front_of m)) (length g)) [
      | inr ge ↦ absurd (off (Begins-linear g (s.front_of m) l low h ge))
      | inl lt ↦
          let mg : Begins (s.front_of m) g = Begins-linear (s.front_of m) g l h low (omega arith) in
          (i, k, prunes.now, Begins-trans (s.front_of m) g k mg prunes.front, sym (next_byte-front (s.front_of m) g k prunes.front lt) ∙ next_byte-front (s.front_of m) g l low lt)
    ]
  ]

  not_gone : (m : ℕ) (x : Node) → nodes' m ≡ Some x → Begins g (s.front_of m) → ⊥
  not_gone m x is h = let f : nodes' m ≡ None = cuts.gone m h in let z : None ≡ Some x = sym f ∙ is in cc

  -- what a node was
  back : (m : ℕ) (x' : Node) → nodes' m ≡ Some x' → (x : Node) × (nodes m ≡ Some x) × (Turns x x' (s.front_of m) g c (Leaf i) × (x'.prefix ≡ x.prefix))
  back m x' is = came_from (λ x x'. Turns x x' (s.front_of m) g c (Leaf i) × (x'.prefix ≡ x.prefix)) (nodes m) (nodes' m) (λ x e. cuts.others m x (not_gone m x' is) e) (cuts.no_more m) x' is

  node_fits : (m : ℕ) (x' : Node) → nodes' m ≡ Some x' → NodeFits keys' nodes' s.front_of (s.front_of m) x'
  node_fits m x' is =
      let off = not_gone m x' is in
      let w = back m x' is in
      let f : NodeFits keys nodes s.front_of (s.front_of m) w.0 = s.node m w.0 w.1 in
      turned_fits keys keys' nodes nodes' s.front_of s.front_of w.0 x' (s.front_of m) g c (Leaf i) w.2.0 f leaf_now
      (λ d e far a. cover_kept (s.front_of m ++ d ∷ []) e (other_edge m d off far) (f.below d e a))
      (λ j l e h. (f.longer j l (prunes.stood j l e) h, f.edge j l (prunes.stood j l e) h))
      (Parts-instead keys keys' (s.front_of m) (instead m off) f.parts)

  joined_left : (a d : ℕ) (x y : Bytes) → keys' a ≡ Some x → keys' d ≡ Some y → a ≢ d → (m : ℕ) × IsSome (nodes' m) × (s.front_of m ≡ common x y)
  joined_left a d x y ax dy apart =
      let r = s.joined a d x y (prunes.stood a x ax) (prunes.stood d y dy) apart in
      let off : Begins g (s.front_of r.0) → ⊥ = λ h. (
      let z : Begins g (common x y) = subst (λ (t : Bytes). Begins g t) r.2 h in
      let e1 : a ≡ i = prunes.only a x ax (Begins-trans g (common x y) x z (common-left x y)) in
      let e2 : d ≡ i = prunes.only d y dy (Begins-trans g (common x y) y z (common-right x y)) in
      apart (e1 ∙ sym e2)) in
      (r.0, live_kept r.0 r.1 off, r.2)

  led : (a : Option (ℕ × ℕ)) (n : ℕ) → LeadsTo nodes' root a (Inner n) → LeadsTo nodes root a (Inner n)
  led None n l = l
  led (Some (q, d)) n l =
      let w = back q l.0 l.1 in
      elim (Bytes-cases (s.front_of q ++ d ∷ []) g) [
        | inl at ↦ absurd (let e : Some (Leaf i) ≡ Some (Inner n) = sym (w.2.0.now d at) ∙ l.2 in cc)
        | inr far ↦ (w.0, w.1, sym (w.2.0.rest d far) ∙ l.2)
      ]

  kept_prefixes : Keeps P nodes' root s.front_of
  kept_prefixes a n x' l is = let w = back n x' is in w.2.1 ∙ s.keeps a n w.0 (led a n l) w.1

  -- the tree: of the keys below the edge, one leaf is left
  pub shape_pruned : Shape P keys' nodes' root
  shape_pruned = record {
    front_of = s.front_of;
    top = top_from keys keys' nodes nodes' root s s.front_of i k prunes.was (λ e z h. cover_kept [] e (λ l f gl. tt) h);
    node = node_fits;
    joined = joined_left;
    apart = λ a d la ld e.
        let x = some_of (nodes' a) la in
        let w = back a x.0 x.1 in
        let y = some_of (nodes' d) ld in
        let v = back d y.0 y.1 in
        s.apart a d (is_some (nodes a) w.0 w.1) (is_some (nodes d) v.0 v.1) e;
    keeps = kept_prefixes;
  }

module _ {P : ℕ} (keys : ℕ → Option Bytes) (nodes mid : ℕ → Option Node) (root : Option Child) (s : Shape P keys nodes root) (p b : ℕ) (c : Child) (leads : LeadsTo nodes root (Some (p, b)) c) (up : FreesSubtree nodes mid s.front_of (s.front_of p ++ b ∷ [])) where
  -- the edge's node is not below the edge
  off_below : Begins (s.front_of p ++ b ∷ []) (s.front_of p) → ⊥
  off_below h =
      let l1 : length (s.front_of p ++ b ∷ []) ≤ length (s.front_of p) = Begins-length _ _ h in
      let l2 : length (s.front_of p ++ b ∷ []) ≡ length (s.front_of p) + 1 = length-append (s.front_of p) (b ∷ []) in
      omega arith

  -- the edge still leads to the child's number once the nodes below it are removed
  pub leads_still : LeadsTo mid root (Some (p, b)) c
  leads_still = (leads.0, up.kept p off_below ∙ leads.1, leads.2)

  module _ (new : ℕ → Option Node) (i : ℕ) (red : Redirects mid new p b (Leaf i)) where
    -- once redirected, the edge leads to the leaf
    pub cuts_freed : PrunesNodes nodes new s.front_of (s.front_of p ++ b ∷ []) c i
    cuts_freed = record {
      gone = λ m h. red.others m (λ e. off_below (subst (λ (n : ℕ). Begins (s.front_of p ++ b ∷ []) (s.front_of n)) e h)) ∙ up.gone m h;
      others = λ m x off is.
          let there : mid m ≡ Some x = up.kept m off ∙ is in
          let y = turned_node s.front_of mid new root root c (Leaf i) (λ n. IsSome (nodes n)) s.apart (Some (p, b)) leads_still (leads_live nodes root (Some (p, b)) c leads) (red, refl) m x (is_some (nodes m) x is) there in
          (y.0, y.1, (y.2, turned_prefix mid new root root (Some (p, b)) (Leaf i) (red, refl) m x y.0 there y.1));
      no_more = λ m none. turned_free mid new root root (Some (p, b)) (Leaf i) (red, refl) m (elim (Begins-cases (s.front_of p ++ b ∷ []) (s.front_of m)) [ inl h ↦ up.gone m h | inr off ↦ up.kept m off ∙ none ]);
    }

    -- and the tree has the keys that are left
    pub shape_freed : (keys' : ℕ → Option Bytes) (k : Bytes) → Prunes keys keys' (s.front_of p ++ b ∷ []) i k → Shape P keys' new root
    shape_freed keys' k prunes = shape_pruned keys keys' nodes new root p b i k c s (is_some (nodes p) leads.0 leads.1) prunes cuts_freed

module _ {P : ℕ} (keys : ℕ → Option Bytes) (nodes mid : ℕ → Option Node) (root : Option Child) (s : Shape P keys nodes root) (c : Child) where
  -- the same for the edge above, or the root
  pub leads_on : (above : Option (ℕ × ℕ)) → LeadsTo nodes root above c → FreesSubtree nodes mid s.front_of (edge_front s.front_of above) → LeadsTo mid root above c
  leads_on None l up = l
  leads_on (Some (p, b)) l up = leads_still keys nodes mid root s p b c l up

  -- and once that leads to the leaf, the tree has the keys that are left
  pub shape_led : (keys' : ℕ → Option Bytes) (new : ℕ → Option Node) (root' : Option Child) (i : ℕ) (k : Bytes) (above : Option (ℕ × ℕ)) → LeadsTo nodes root above c → FreesSubtree nodes mid s.front_of (edge_front s.front_of above) → TurnsTo mid new root root' above (Leaf i) → Prunes keys keys' (edge_front s.front_of above) i k → Shape P keys' new root'
  shape_led keys' new root' i k None l up t prunes = rooted (shape_one keys' new (λ n. t.0 n ∙ up.gone n tt) i k prunes.now (λ j m e. prunes.only j m e tt)) (sym t.1)
  shape_led keys' new root' i k (Some (p, b)) l up t prunes = rooted (shape_freed keys nodes mid root s p b c l up new i t.0 keys' k prunes) (sym t.1)
