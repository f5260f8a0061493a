-- A leaf is removed: the tree after the changes to the leaf's node and to the edge above.
use Rattle.std.proofs.Common.{ap, refl, zero, suc, append_assoc, ◌≡◌, ◌≢◌, ℕ, ◌<◌, ◌≤◌, List, [], ◌∷◌, ◌++◌, length, take, drop, arith, sym, Option, Some, None, IsSome, ◌∙◌, inl, inr}
use Rattle.std.proofs.lemmas.List.{take-take, take-append-drop, drop-append-le}
use Rattle.std.proofs.lemmas.Bool.{cases_lt}
use Rattle.std.proofs.lemmas.Bool.Decides.{eqb_tells}
use Rattle.art_tree.specs.Invariant.EdgesAbove.{LeadsTo, TurnsTo, edge_front}
use Rattle.art_tree.specs.Begins.{Bytes, Begins, next_byte}
use Rattle.art_kinds.specs.Edges.{child_at}
use Rattle.art_kinds.specs.Nodes.{Node, DropsEdge, Renames}
use Rattle.art_tree.specs.Leaves.{Numbered, leaf_in, Has, keys_in}
use Rattle.art_tree.specs.Calls.Removing.{Loses, IsLeafOf, IsChildBelow, OtherEdge}
use Rattle.art_tree.specs.Invariant.Shape.{Shape}
use Rattle.art_kinds.specs.declared.records.ids.Child.{Child}
use Rattle.art_kinds.specs.declared.records.ids.Edge.{Edge}
use Rattle.art_kinds.specs.declared.records.ids.Child.TheVariants.{Leaf, Inner}
use Rattle.art_tree.proofs.BeginsLemmas.{take_front, Begins-length}
use Rattle.art_tree.proofs.Invariant.Growing.{covers_above}
use Rattle.art_tree.proofs.Invariant.Losing.{shape_dropped}
use Rattle.art_tree.proofs.Invariant.OneEdge.{not_itself, kept_mid}
use Rattle.art_tree.proofs.Invariant.Moving.{node_moved}
use Rattle.blart_keys.proofs.Options.{some_of, not_some}
use Rattle.art_tree.proofs.NumberedPairs.Keys.{key_of_pair}

-- each node has more than one edge
pub no_lone_edge : {P : ℕ} → (keys : ℕ → Option Bytes) (nodes : ℕ → Option Node) (root : Option Child) (s : Shape P keys nodes root) (n b : ℕ) (x : Node) → nodes n ≡ Some x
    → ((c : ℕ) → b < c → child_at x.edges c ≡ None) → ((c : ℕ) → c < b → child_at x.edges c ≡ None) → ⊥
no_lone_edge keys nodes root s n b x is above below =
    let f = s.node n x is in
    let p = f.parts in
    let at_b : (c : ℕ) → IsSome (child_at x.edges c) → c ≡ b = λ c h.
    elim (cases_lt c b) [
      | inl lt ↦ absurd (not_some (child_at x.edges c) (below c lt) h)
      | inr le ↦ elim (cases_lt b c) [
        | inl gt ↦ absurd (not_some (child_at x.edges c) (above c gt) h)
        | inr ge ↦ omega arith
      ]
    ] in
    p.differ (at_b (next_byte (s.front_of n) p.k) (f.edge p.i p.k p.k_is p.k_front) ∙ sym (at_b (next_byte (s.front_of n) p.l) (f.edge p.j p.l p.l_is p.l_front)))

-- ---- a node loses the edge to the leaf

module _ (keys : ℕ → Option Bytes) (nodes mid wide : ℕ → Option Node) (root : Option Child) (above : Option (ℕ × ℕ)) (n m b i : ℕ) (drops : DropsEdge nodes mid n b) (ren : Renames mid wide n m) where
  -- the edge above still leads to the old number
  pub leads_dropped : {P : ℕ} → (above : Option (ℕ × ℕ)) → Shape P keys nodes root → LeadsTo nodes root above (Inner n) → LeadsTo mid root above (Inner n)
  leads_dropped None s l = l
  leads_dropped (Some (p, c)) s l = (l.0, drops.others p (not_itself keys nodes root s p c n l.0 l.1 l.2) ∙ l.1, l.2)

  -- also after the node was moved to another number
  pub leads_narrowed : {P : ℕ} → (above : Option (ℕ × ℕ)) → Shape P keys nodes root → LeadsTo nodes root above (Inner n) → LeadsTo wide root above (Inner n)
  leads_narrowed None s l = l
  leads_narrowed (Some (p, c)) s l =
      let off : p ≢ n = not_itself keys nodes root s p c n l.0 l.1 l.2 in
      (l.0, kept_mid mid wide n m p l.0 ren (drops.others p off ∙ l.1) off, l.2)

  -- the tree without the leaf, if the edge above leads to the node's number
  pub shape_shrunk : {P : ℕ} → (keys' : ℕ → Option Bytes) (new : ℕ → Option Node) (root' : Option Child) (h : IsLeafOf P keys nodes root above n b i) → 2 < length h.node.edges → Loses keys keys' i h.key → TurnsTo wide new root root' above (Inner m) → Shape P keys' new root'
  shape_shrunk keys' new root' h more loses turns =
      let s1 : Shape _ keys' mid root = shape_dropped keys keys' nodes root n i b h.key h.shape loses h.node h.is h.low mid drops more in
      (node_moved keys' mid wide new root root' n m s1 ren above (leads_dropped above h.shape h.leads) turns).0

-- ---- what the steps of a removal require

-- edges at two bytes are two edges
pub two_children : (es : List Edge) (b b1 : ℕ) (c d : Child) → child_at es b ≡ Some c → child_at es b1 ≡ Some d → b ≢ b1 → 2 ≤ length es
two_children [] b b1 c d e f off = absurd cc
two_children (x ∷ []) b b1 c d e f off =
    elim (eqb_tells x.byte b) [
      | inl g ↦ elim (eqb_tells x.byte b1) [
        | inl h ↦ absurd (off (sym g.1 ∙ h.1))
        | inr h ↦ (let z : None ≡ Some d = rw h.0 at f in absurd cc)
      ]
      | inr g ↦ (let z : None ≡ Some c = rw g.0 at e in absurd cc)
    ]
two_children (x ∷ y ∷ es) b b1 c d e f off = omega arith

-- a leaf has only one key to lose
pub loses_same : (old new : ℕ → Option Bytes) (i : ℕ) (k k' : Bytes) → Loses old new i k → old i ≡ Some k' → Loses old new i k'
loses_same old new i k k' l e = record { was = e; gone = l.gone; others = l.others }

module _ {P : ℕ} (keys : ℕ → Option Bytes) (nodes : ℕ → Option Node) (root : Option Child) (s : Shape P keys nodes root) where
  -- the child of another edge is below the edge to the node
  abbrev pub child_below_edge : (above : Option (ℕ × ℕ)) (n b : ℕ) (e : Edge) → LeadsTo nodes root above (Inner n) → OtherEdge nodes n b e → IsChildBelow P keys nodes above n e
  child_below_edge above n b e leads other = record { root = root; shape = s; leads = leads; node = other.node; is = other.is; there = other.there }

-- a leaf's key, its edge, and the edge above
abbrev pub leaf_at_node : {P : ℕ} → {K V : Type 0} (key_bytes : K → Bytes) (pairs : List (Numbered K V)) (nodes : ℕ → Option Node) (root : Option Child) (s : Shape P (keys_in key_bytes pairs) nodes root) (i : ℕ) → Has pairs i
    → (n b : ℕ) → LeadsTo nodes root (Some (n, b)) (Leaf i) → (above : Option (ℕ × ℕ)) → LeadsTo nodes root above (Inner n) → IsLeafOf P (keys_in key_bytes pairs) nodes root above n b i
leaf_at_node key_bytes pairs nodes root s i has n b low above leads =
    let p = some_of (leaf_in pairs i) has in
    record { shape = s; key = key_bytes p.0.0; key_is = key_of_pair key_bytes pairs i p.0 p.1; node = low.0; is = low.1; low = low.2; leads = leads }

-- ---- the prefixes of a node and of its child, joined

-- the first P bytes of the joined prefixes need only the first P bytes of each
take_prepended : (P m : ℕ) (A r : Bytes) (b : ℕ) → P ≤ m → take P (take P A ++ b ∷ take m r) ≡ take P (A ++ b ∷ r)
take_prepended zero m A r b le = refl
take_prepended (suc P) m [] r b le = ap (λ (t : Bytes). b ∷ t) (take-take P m r (omega arith))
take_prepended (suc P) m (a ∷ A) r b le = ap (λ (t : Bytes). a ∷ t) (take_prepended P m A r b (omega arith))

-- the bytes of a longer front after g, if a front between them begins with g and continues with b
drop_prepended : (g f l : Bytes) (b : ℕ) → Begins g f → Begins (f ++ b ∷ []) l → drop (length g) l ≡ drop (length g) f ++ b ∷ drop (length (f ++ b ∷ [])) l
drop_prepended g f l b gf fl =
    let r : Bytes = drop (length (f ++ b ∷ [])) l in
    let whole : l ≡ f ++ b ∷ drop (length (f ++ b ∷ [])) l = sym (take-append-drop (length (f ++ b ∷ [])) l) ∙ ap (λ (t : Bytes). t ++ drop (length (f ++ b ∷ [])) l) (take_front (f ++ b ∷ []) l fl) ∙ append_assoc f (b ∷ []) (drop (length (f ++ b ∷ [])) l) in
    ap (λ (t : Bytes). drop (length g) t) whole ∙ drop-append-le (length g) f (b ∷ drop (length (f ++ b ∷ [])) l) (Begins-length g f gf)

-- with the prefixes joined, a child keeps the bytes that its front has after the edge above
pub prepended_is : {P : ℕ} → (keys : ℕ → Option Bytes) (nodes : ℕ → Option Node) (above : Option (ℕ × ℕ)) (n m b : ℕ) (h : IsChildBelow P keys nodes above n (record { byte = b; to = Inner m })) (y : Node) → nodes m ≡ Some y
    → take P (h.node.prefix ++ b ∷ y.prefix) ≡ take P (drop (length (edge_front h.shape.front_of above)) (h.shape.front_of m))
prepended_is {P} keys nodes above n m b h y is =
    let f = h.shape.front_of in
    let g : Bytes = edge_front f above in
    let up : h.node.prefix ≡ take P (drop (length g) (f n)) = h.shape.keeps above n h.node h.leads h.is in
    let low : y.prefix ≡ take P (drop (length (f n ++ b ∷ [])) (f m)) = h.shape.keeps (Some (n, b)) m y (h.node, h.is, h.there) is in
    let a : Begins g (f n) = (covers_above keys nodes h.root h.shape above (Inner n) h.leads).front in
    let c : Begins (f n ++ b ∷ []) (f m) = ((h.shape.node n h.node h.is).below b (Inner m) h.there).front in
    ap (λ (t : Bytes). take P (t ++ b ∷ y.prefix)) up ∙ ap (λ (t : Bytes). take P (take P (drop (length g) (f n)) ++ b ∷ t)) low
    ∙ take_prepended P P (drop (length g) (f n)) (drop (length (f n ++ b ∷ [])) (f m)) b (omega arith)
    ∙ ap (λ (t : Bytes). take P t) (sym (drop_prepended g (f n) (f m) b a c))
