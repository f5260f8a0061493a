-- A node made of loose edges, and of the child of the first bytes of the last key.
use Rattle.std.proofs.Common.{◌≡◌, ◌≢◌, ℕ, max, ◌+◌, ◌<◌, ◌≤◌, List, [], ◌∷◌, ◌++◌, length, take, drop, get_or, slice_range, refl, ap, arith, sym, subst, Option, Some, None, IsSome, ◌∙◌, ◌⊎◌, inl, inr, true, cond, eqb, eq-eqb, Contains, length-append}
use Rattle.std.proofs.lemmas.Bool.Decides.{eqb_tells}
use Rattle.std.proofs.lemmas.List.{length-take-le, length-drop, take-append-drop, take_more}
use Rattle.std.proofs.Math.Seq.{take-length}
use Rattle.blart_keys.specs.Bytes.{less}
use Rattle.blart_keys.proofs.Options.{some_of, is_some}
use Rattle.blart_keys.proofs.RankLemmas.{Member, Contains-from_Member, Member-from_Contains, Member-append_left, Member-append_right, Member-append_cases}
use Rattle.art_tree.specs.Begins.{Bytes, Begins, next_byte}
use Rattle.art_kinds.specs.Edges.{child_at, Ascends, AscendsAbove}
use Rattle.art_kinds.specs.Nodes.{Node}
use Rattle.art_tree.specs.Invariant.Shape.{Covers, NodeFits, Parts}
use Rattle.art_kinds.specs.declared.records.ids.Child.{Child}
use Rattle.art_kinds.specs.declared.records.ids.Child.TheVariants.{Leaf, Inner}
use Rattle.art_kinds.specs.declared.records.ids.Edge.{Edge}
use Rattle.art_tree.specs.declared.tree.build.LooseEdge.{LooseEdge}
use Rattle.art_tree.specs.Calls.Building.{last_depth, start_after, loose_front, RiseAbove, Rise, edges_of, MakesNode, KeepsAfter, StandsFor, AreMade, IsLoose, IsPart, IsTurn}
use Rattle.art_tree.proofs.BeginsLemmas.{Begins-take, Begins-trans, Begins-linear, Begins-length, Begins-next, Begins-edge_front, Begins-itself}
use Rattle.art_tree.proofs.Invariant.Growing.{key_below}
use Rattle.art_tree.proofs.Invariant.Prefixes.{apart_more, cut_front}

-- fewer bytes of a key are a prefix of more of them
pub take_less : (k : Bytes) (m n : ℕ) → m ≤ n → n ≤ length k → Begins (take m k) (take n k)
take_less k m n le within =
    let a : length (take m k) ≡ m = length-take-le m k (omega arith) in
    let b : length (take n k) ≡ n = length-take-le n k within in
    Begins-linear (take m k) (take n k) k (Begins-take m k) (Begins-take n k) (omega arith)

-- a list that begins with more bytes of a key begins with fewer
pub begins_less : (k l : Bytes) (m n : ℕ) → m ≤ n → n ≤ length k → Begins (take n k) l → Begins (take m k) l
begins_less k l m n le within b = Begins-trans (take m k) (take n k) l (take_less k m n le within) b

-- a list below a loose edge leaves the key there
pub leaves_key : (k l : Bytes) (e : LooseEdge) (m : ℕ) → e.depth < m → m ≤ length k → e.edge.byte < get_or k e.depth 0 → Begins (loose_front k e) l → Begins (take m k) l → ⊥
leaves_key k l e m lt within before below along =
    let a : next_byte (take e.depth k) l ≡ e.edge.byte = Begins-next (take e.depth k) l e.edge.byte below in
    let far : Begins (take (e.depth + 1) k) l = begins_less k l (e.depth + 1) m (omega arith) within along in
    let b : next_byte (take e.depth k) l ≡ get_or k e.depth 0 = Begins-next (take e.depth k) l (get_or k e.depth 0) (subst (λ (z : Bytes). Begins z l) (take_more k e.depth 0 (omega arith)) far) in
    omega arith

module _ {P : ℕ} (keys : ℕ → Option Bytes) (nodes : ℕ → Option Node) (k : Bytes) where
  -- a leaf also covers fewer bytes of its key, if no other key shares these
  pub part_shortened : (es : List LooseEdge) (i least s : ℕ) → IsPart P keys nodes k es (length k) (Leaf i) → IsTurn keys i k least → s ≤ length k → least ≤ s → ((e : LooseEdge) → Contains es e → e.depth < s) → IsPart P keys nodes k es s (Leaf i)
  part_shortened es i least s p t within over deeper =
      let whole : take (length k) k ≡ k = take-length k in
      let long : (l : Bytes) → Begins (take (length k) k) l → Begins k l = λ l b. subst (λ (z : Bytes). Begins z l) whole b in
      let short : (l : Bytes) → Begins (take (length k) k) l → Begins (take s k) l = λ l b. begins_less k l s (length k) within (omega arith) b in
      record {
        front_of = p.front_of;
        made = p.made;
        loose = p.loose;
        deeper = deeper;
        rise = p.rise;
        within = within;
        child = record {
          covers = record {
            key = k;
            is = t.is;
            front = Begins-take s k;
            only = λ j l is b. elim (p.below j l is) [
              | inl far ↦ t.only j l is (long l far)
              | inr (inl e) ↦ absurd (leaves_key k l e.0 s (deeper e.0 e.1) within (p.loose e.0 e.1).before e.2 b)
              | inr (inr more) ↦ absurd (t.turns j l is more (begins_less k l least s over within b))
            ];
          };
          keeps = tt;
        };
        under = λ n live. elim (p.under n live) [ inl b ↦ inl (short (p.front_of n) b) | inr e ↦ inr e ];
        below = λ j l is. elim (p.below j l is) [ inl b ↦ inl (short l b) | inr e ↦ inr e ];
      }

-- ---- the edges of the node

-- the edge that leads to a child
edge_of : (es : List Edge) (b : ℕ) (c : Child) → child_at es b ≡ Some c → (e : Edge) × Member e es × (e.byte ≡ b) × (e.to ≡ c)
edge_of [] b c h = cc
edge_of (e ∷ es) b c h =
    elim (eqb_tells e.byte b) [
      | inl q ↦
          let f : cond (eqb e.byte b) (Some e.to) (child_at es b) ≡ Some c = h in
          let g : Some e.to ≡ Some c = (let r : eqb e.byte b ≡ true = q.0 in let w : cond true (Some e.to) (child_at es b) ≡ Some c = subst (λ t. cond t (Some e.to) (child_at es b) ≡ Some c) r f in w) in
          (e, inl refl, q.1, cc)
      | inr q ↦
          let f : cond (eqb e.byte b) (Some e.to) (child_at es b) ≡ Some c = h in
          let g : child_at es b ≡ Some c = subst (λ t. cond t (Some e.to) (child_at es b) ≡ Some c) q.0 f in
          let r = edge_of es b c g in
          (r.0, inr r.1, r.2, r.3)
    ]

-- a byte of the edges has a child
has_edge : (es : List Edge) (e : Edge) → Member e es → IsSome (child_at es e.byte)
has_edge [] e m = absurd m
has_edge (f ∷ es) e m =
    elim (eqb_tells f.byte e.byte) [
      | inl q ↦ is_some (child_at (f ∷ es) e.byte) f.to (subst (λ t. cond t (Some f.to) (child_at es e.byte) ≡ Some f.to) (sym q.0) refl)
      | inr q ↦
          subst (λ t. IsSome (cond t (Some f.to) (child_at es e.byte))) (sym q.0)
          (elim m [ inl s ↦ absurd (q.1 (ap (λ (x : Edge). x.byte) s)) | inr n ↦ has_edge es e n ])
    ]

-- the loose edge of an edge
loose_of : (g : List LooseEdge) (e : Edge) → Member e (edges_of g) → (f : LooseEdge) × Member f g × (f.edge ≡ e)
loose_of [] e m = absurd m
loose_of (f ∷ g) e (inl s) = (f, inl refl, s)
loose_of (f ∷ g) e (inr m) = let r = loose_of g e m in (r.0, inr r.1, r.2)

edge_member : (g : List LooseEdge) (f : LooseEdge) → Member f g → Member f.edge (edges_of g)
edge_member [] f m = absurd m
edge_member (x ∷ g) f (inl s) = inl (ap (λ (y : LooseEdge). y.edge) s)
edge_member (x ∷ g) f (inr m) = inr (edge_member g f m)

-- the first of some rising loose edges rise too
rise_above_left : (depth byte : ℕ) (es g : List LooseEdge) → RiseAbove depth byte (es ++ g) → RiseAbove depth byte es
rise_above_left depth byte [] g r = tt
rise_above_left depth byte (e ∷ es) g r = (r.0, rise_above_left e.depth e.edge.byte es g r.1)

pub rise_left : (es g : List LooseEdge) → Rise (es ++ g) → Rise es
rise_left [] g r = tt
rise_left (e ∷ es) g r = rise_above_left e.depth e.edge.byte es g r

-- loose edges that rise above a depth and a byte rise
rise_of_above : (depth byte : ℕ) (g : List LooseEdge) → RiseAbove depth byte g → Rise g
rise_of_above depth byte [] r = tt
rise_of_above depth byte (e ∷ g) r = r.1

rise_above_right : (depth byte : ℕ) (es g : List LooseEdge) → RiseAbove depth byte (es ++ g) → Rise g
rise_above_right depth byte [] g r = rise_of_above depth byte g r
rise_above_right depth byte (e ∷ es) g r = rise_above_right e.depth e.edge.byte es g r.1

pub rise_right : (es g : List LooseEdge) → Rise (es ++ g) → Rise g
rise_right [] g r = r
rise_right (e ∷ es) g r = rise_above_right e.depth e.edge.byte es g r

-- the edges of one node ascend, with an edge of a greater byte after them
group_above : (d b : ℕ) (own : Edge) (g : List LooseEdge) → ((f : LooseEdge) → Member f g → f.depth ≡ d) → ((f : LooseEdge) → Member f g → f.edge.byte < own.byte) → b < own.byte → RiseAbove d b g → AscendsAbove b (edges_of g ++ own ∷ [])
group_above d b own [] same less lt r = (lt, tt)
group_above d b own (f ∷ g) same less lt r =
    let e : f.depth ≡ d = same f (inl refl) in
    let up : b < f.edge.byte = elim r.0 [ inl l ↦ omega arith | inr q ↦ q.1 ] in
    (up, group_above f.depth f.edge.byte own g (λ h m. same h (inr m) ∙ sym e) (λ h m. less h (inr m)) (less f (inl refl)) r.1)

pub group_ascends : (d : ℕ) (own : Edge) (g : List LooseEdge) → ((f : LooseEdge) → Member f g → f.depth ≡ d) → ((f : LooseEdge) → Member f g → f.edge.byte < own.byte) → Rise g → Ascends (edges_of g ++ own ∷ [])
group_ascends d own [] same less r = tt
group_ascends d own (f ∷ g) same less r = group_above f.depth f.edge.byte own g (λ h m. same h (inr m) ∙ sym (same f (inl refl))) (λ h m. less h (inr m)) (less f (inl refl)) r

module _ {P : ℕ} (keys : ℕ → Option Bytes) (nodes nodes' : ℕ → Option Node) (k : Bytes) (es g : List LooseEdge) (d start least leaf n : ℕ) (prefix : List ℕ) (c : Child) (p : IsPart P keys nodes k (es ++ g) (d + 1) c) (t : IsTurn keys leaf k least)
    (own : Edge) (own_byte : own.byte ≡ get_or k d 0) (own_to : own.to ≡ c) (made : MakesNode nodes nodes' n d prefix (edges_of g ++ own ∷ [])) (prefix_is : prefix ≡ take P (slice_range k start d)) (some : 0 < length g) (same : (e : LooseEdge) → Member e g → e.depth ≡ d) (upper : (e : LooseEdge) → Member e es → e.depth < start) (over : least ≤ start) (start_le : start ≤ d) where
  -- the node, and its front
  abbrev node : Node
  node = record { depth = d; prefix = prefix; edges = edges_of g ++ own ∷ [] }

  front : ℕ → Bytes
  front j = cond (eqb j n) (take d k) (p.front_of j)

  deep : d < length k
  deep = let w = p.within in omega arith

  front_new : front n ≡ take d k
  unfolding front
  front_new = let e : eqb n n ≡ true = eq-eqb n n refl in subst (λ z. cond z (take d k) (p.front_of n) ≡ take d k) (sym e) refl

  front_old : (j : ℕ) → j ≢ n → front j ≡ p.front_of j
  unfolding front
  front_old j ne = elim (eqb_tells j n) [ inl q ↦ absurd (ne q.1) | inr q ↦ subst (λ z. cond z (take d k) (p.front_of j) ≡ p.front_of j) (sym q.0) refl ]

  -- a node that was live is not the new node
  live_other : (j : ℕ) (x : Node) → nodes j ≡ Some x → j ≢ n
  live_other j x is e = let a : nodes n ≡ Some x = subst (λ z. nodes z ≡ Some x) e is in let b : nodes n ≡ None = made.fresh in cc

  node_kept : (j : ℕ) (x : Node) → nodes j ≡ Some x → nodes' j ≡ Some x
  node_kept j x is = made.others j (live_other j x is) ∙ is

  -- a node is the new one, or was there before
  node_cases : (j : ℕ) (x : Node) → nodes' j ≡ Some x → ((j ≡ n) × (x ≡ node)) ⊎ ((j ≢ n) × (nodes j ≡ Some x))
  node_cases j x is =
      elim (eqb_tells j n) [
        | inl q ↦ inl (q.1, (let a : nodes' n ≡ Some x = subst (λ z. nodes' z ≡ Some x) q.1 is in let b : nodes' n ≡ Some node = made.is in cc))
        | inr q ↦ inr (q.1, sym (made.others j q.1) ∙ is)
      ]

  live_cases : (j : ℕ) → IsSome (nodes' j) → (j ≡ n) ⊎ ((j ≢ n) × IsSome (nodes j))
  live_cases j live =
      let x = some_of (nodes' j) live in
      elim (node_cases j x.0 x.1) [ inl q ↦ inl q.0 | inr q ↦ inr (q.0, is_some (nodes j) x.0 q.1) ]

  -- a child that covered some keys still covers them
  covers_kept : (f : Bytes) (z : Child) → Covers keys nodes p.front_of f z → Covers keys nodes' front f z
  covers_kept f (Leaf i) h = h
  covers_kept f (Inner m) h =
      let x = some_of (nodes m) h.live in
      let e : front m ≡ p.front_of m = front_old m (live_other m x.0 x.1) in
      record {
        live = is_some (nodes' m) x.0 (node_kept m x.0 x.1);
        front = subst (λ z. Begins f z) (sym e) h.front;
        only = λ j l is b. subst (λ z. Begins z l) (sym e) (h.only j l is b);
      }

  keeps_kept : (f : Bytes) (h : Bytes) (z : Child) → Covers keys nodes p.front_of h z → KeepsAfter P nodes p.front_of f z → KeepsAfter P nodes' front f z
  keeps_kept f h (Leaf i) v q = tt
  keeps_kept f h (Inner m) v q = λ x is.
      let y = some_of (nodes m) v.live in
      let e : front m ≡ p.front_of m = front_old m (live_other m y.0 y.1) in
      let was : nodes m ≡ Some x = sym (made.others m (live_other m y.0 y.1)) ∙ is in
      q x was ∙ ap (λ (z : Bytes). take P (drop (length f) z)) (sym e)

  stands_kept : (f : Bytes) (z : Child) → StandsFor P keys nodes p.front_of f z → StandsFor P keys nodes' front f z
  stands_kept f z s = record { covers = covers_kept f z s.covers; keeps = keeps_kept f f z s.covers s.keeps }

  -- loose edges of the list
  in_g : (e : LooseEdge) → Member e g → IsLoose P keys nodes p.front_of k e
  in_g e m = p.loose e (Contains-from_Member e (es ++ g) (Member-append_right e es g m))

  in_es : (e : LooseEdge) → Member e es → IsLoose P keys nodes p.front_of k e
  in_es e m = p.loose e (Contains-from_Member e (es ++ g) (Member-append_left e es g m))

  split : (e : LooseEdge) → Contains (es ++ g) e → Member e es ⊎ Member e g
  split e m = Member-append_cases e es g (Member-from_Contains e (es ++ g) m)

  -- the front of a loose edge of the node
  group_front : (e : LooseEdge) → Member e g → loose_front k e ≡ take d k ++ e.edge.byte ∷ []
  group_front e m = ap (λ (z : ℕ). take z k ++ e.edge.byte ∷ []) (same e m)

  -- a list below a loose edge of the node continues from the node's front with the edge's byte
  beyond : (l : Bytes) (e : LooseEdge) → Member e g → Begins (loose_front k e) l → Begins (take d k ++ e.edge.byte ∷ []) l
  beyond l e m b = subst (λ z. Begins z l) (group_front e m) b

  goes : (l : Bytes) → Begins (take (d + 1) k) l → Begins (take d k ++ own.byte ∷ []) l
  goes l b = subst (λ (z : ℕ). Begins (take d k ++ z ∷ []) l) (sym own_byte) (subst (λ (z : Bytes). Begins z l) (take_more k d 0 deep) b)

  -- a key that shares m bytes with the last one is below the child, or a loose edge of the node
  key_cases : (m : ℕ) → start ≤ m → m ≤ d → (j : ℕ) (l : Bytes) → keys j ≡ Some l → Begins (take m k) l → Begins (take (d + 1) k) l ⊎ ((e : LooseEdge) × Member e g × Begins (take d k ++ e.edge.byte ∷ []) l)
  key_cases m from upto j l is b =
      elim (p.below j l is) [
        | inl far ↦ inl far
        | inr (inl e) ↦ elim (split e.0 e.1) [
          | inl a ↦ let u : e.0.depth < start = upper e.0 a in absurd (leaves_key k l e.0 m (omega arith) (let w = deep in omega arith) (in_es e.0 a).before e.2 b)
          | inr a ↦ inr (e.0, a, beyond l e.0 a e.2)
        ]
        | inr (inr more) ↦ absurd (t.turns j l is more (begins_less k l least m (omega arith) (let w = deep in omega arith) b))
      ]

  -- and so is a node, or below an earlier loose edge
  node_front_cases : (j : ℕ) → IsSome (nodes j) → Begins (take (d + 1) k) (p.front_of j) ⊎ (((e : LooseEdge) × Member e g × Begins (take d k ++ e.edge.byte ∷ []) (p.front_of j)) ⊎ ((e : LooseEdge) × Member e es × Begins (loose_front k e) (p.front_of j)))
  node_front_cases j live =
      elim (p.under j live) [
        | inl far ↦ inl far
        | inr e ↦ elim (split e.0 e.1) [ inl a ↦ inr (inr (e.0, a, e.2)) | inr a ↦ inr (inl (e.0, a, beyond (p.front_of j) e.0 a e.2)) ]
      ]

  length_front : length (take d k) ≡ d
  length_front = length-take-le d k (let w = deep in omega arith)

  -- the child below an edge of the node
  child_below : (b : ℕ) (z : Child) → child_at (edges_of g ++ own ∷ []) b ≡ Some z → StandsFor P keys nodes p.front_of (take d k ++ b ∷ []) z
  child_below b z h =
      let e = edge_of (edges_of g ++ own ∷ []) b z h in
      elim (Member-append_cases e.0 (edges_of g) (own ∷ []) e.1) [
        | inl m ↦
            let f = loose_of g e.0 m in
            let byte : f.0.edge.byte ≡ b = ap (λ (x : Edge). x.byte) f.2 ∙ e.2 in
            let to : f.0.edge.to ≡ z = ap (λ (x : Edge). x.to) f.2 ∙ e.3 in
            let a : StandsFor P keys nodes p.front_of (take d k ++ f.0.edge.byte ∷ []) f.0.edge.to = subst (λ q. StandsFor P keys nodes p.front_of q f.0.edge.to) (group_front f.0 f.1) (in_g f.0 f.1).stands in
            subst (λ (q : Child). StandsFor P keys nodes p.front_of (take d k ++ b ∷ []) q) to (subst (λ (q : ℕ). StandsFor P keys nodes p.front_of (take d k ++ q ∷ []) f.0.edge.to) byte a)
        | inr m ↦ elim m [
          | inl s ↦
              let byte : get_or k d 0 ≡ b = sym own_byte ∙ ap (λ (x : Edge). x.byte) s ∙ e.2 in
              let to : c ≡ z = sym own_to ∙ ap (λ (x : Edge). x.to) s ∙ e.3 in
              let a : StandsFor P keys nodes p.front_of (take d k ++ get_or k d 0 ∷ []) c = subst (λ q. StandsFor P keys nodes p.front_of q c) (take_more k d 0 deep) p.child in
              subst (λ (q : Child). StandsFor P keys nodes p.front_of (take d k ++ b ∷ []) q) to (subst (λ (q : ℕ). StandsFor P keys nodes p.front_of (take d k ++ q ∷ []) c) byte a)
          | inr z ↦ absurd z
        ]
      ]

  -- a list below an edge of the node continues with the edge's byte
  next_here : (l : Bytes) (b : ℕ) → Begins (take d k ++ b ∷ []) l → next_byte (take d k) l ≡ b
  next_here l b h = Begins-next (take d k) l b h

  -- it is longer than the node's front
  longer_here : (l : Bytes) (b : ℕ) → Begins (take d k ++ b ∷ []) l → d < length l
  longer_here l b h = omega (arith, Begins-length (take d k ++ b ∷ []) l h, length-append (take d k) (b ∷ []), length_front)

  edge_here : (l : Bytes) (b : ℕ) (e : Edge) → Member e (edges_of g ++ own ∷ []) → e.byte ≡ b → Begins (take d k ++ b ∷ []) l → IsSome (child_at (edges_of g ++ own ∷ []) (next_byte (take d k) l))
  edge_here l b e m q h = subst (λ (z : ℕ). IsSome (child_at (edges_of g ++ own ∷ []) z)) (q ∙ sym (next_here l b h)) (has_edge (edges_of g ++ own ∷ []) e m)

  own_member : Member own (edges_of g ++ own ∷ [])
  own_member = Member-append_right own (edges_of g) (own ∷ []) (inl refl)

  group_member : (e : LooseEdge) → Member e g → Member e.edge (edges_of g ++ own ∷ [])
  group_member e m = Member-append_left e.edge (edges_of g) (own ∷ []) (edge_member g e m)

  -- two keys part at the node: the last one, and a key below its first loose edge
  first_of : (xs : List LooseEdge) → 0 < length xs → (e : LooseEdge) × Member e xs
  first_of [] h = absurd (omega arith)
  first_of (e ∷ xs) h = (e, inl refl)

  parts_here : Parts keys (take d k)
  parts_here =
      let e = first_of g some in
      let h = in_g e.0 e.1 in
      let l = key_below keys nodes p.front_of p.made.node (loose_front k e.0) e.0.edge.to h.stands.covers in
      let b = beyond l.1 e.0 e.1 l.3 in
      let own_next : next_byte (take d k) k ≡ get_or k d 0 = ap (λ (z : ℕ). get_or k z 0) length_front in
      let its_next : next_byte (take d k) l.1 ≡ e.0.edge.byte = next_here l.1 e.0.edge.byte b in
      let lt : e.0.edge.byte < get_or k e.0.depth 0 = h.before in
      let at : get_or k e.0.depth 0 ≡ get_or k d 0 = ap (λ (z : ℕ). get_or k z 0) (same e.0 e.1) in
      record {
        i = leaf;
        j = l.0;
        k = k;
        l = l.1;
        k_is = t.is;
        l_is = l.2;
        k_front = Begins-take d k;
        l_front = Begins-edge_front (take d k) l.1 e.0.edge.byte b;
        differ = λ q. (let r : get_or k d 0 ≡ e.0.edge.byte = sym own_next ∙ q ∙ its_next in omega arith);
      }

  node_fits : NodeFits keys nodes' front (take d k) node
  node_fits = record {
    depth = sym length_front;
    below = λ b z h. covers_kept (take d k ++ b ∷ []) z (child_below b z h).covers;
    longer = λ j l is b. elim (key_cases d start_le (omega arith) j l is b) [
      | inl far ↦ omega (arith, longer_here l own.byte (goes l far), length_front)
      | inr e ↦ omega (arith, longer_here l e.0.edge.byte e.2, length_front)
    ];
    edge = λ j l is b. elim (key_cases d start_le (omega arith) j l is b) [
      | inl far ↦ edge_here l own.byte own own_member refl (goes l far)
      | inr e ↦ edge_here l e.0.edge.byte e.0.edge (group_member e.0 e.1) refl e.2
    ];
    parts = parts_here;
    ascends = group_ascends d own g same (λ f m. (let lt : f.edge.byte < get_or k f.depth 0 = (in_g f m).before in let at : get_or k f.depth 0 ≡ get_or k d 0 = ap (λ (z : ℕ). get_or k z 0) (same f m) in omega (arith, own_byte))) (rise_right es g p.rise);
  }

  -- the other nodes fit as before
  node_fits_kept : (j : ℕ) (x : Node) → j ≢ n → nodes j ≡ Some x → NodeFits keys nodes' front (front j) x
  node_fits_kept j x ne is =
      let f = p.made.node j x is in
      subst (λ (z : Bytes). NodeFits keys nodes' front z x) (sym (front_old j ne)) (record {
        depth = f.depth;
        below = λ b z h. covers_kept (p.front_of j ++ b ∷ []) z (f.below b z h);
        longer = f.longer;
        edge = f.edge;
        parts = f.parts;
        ascends = f.ascends;
      })

  -- no other node has the front
  front_apart : (j : ℕ) → IsSome (nodes j) → p.front_of j ≡ take d k → ⊥
  front_apart j live e =
      elim (node_front_cases j live) [
        | inl far ↦ (let a = longer_here (p.front_of j) own.byte (goes (p.front_of j) far) in let b : length (p.front_of j) ≡ length (take d k) = ap (λ (z : Bytes). length z) e in omega (arith, length_front))
        | inr (inl h) ↦ (let a = longer_here (p.front_of j) h.0.edge.byte h.2 in let b : length (p.front_of j) ≡ length (take d k) = ap (λ (z : Bytes). length z) e in omega (arith, length_front))
        | inr (inr h) ↦ (let u : h.0.depth < start = upper h.0 h.1 in leaves_key k (p.front_of j) h.0 d (omega arith) (let w = deep in omega arith) (in_es h.0 h.1).before h.2 (subst (λ (z : Bytes). Begins (take d k) z) (sym e) (Begins-itself (take d k))))
      ]

  all_made : AreMade P keys nodes' front
  all_made = record {
    node = λ j x is. elim (node_cases j x is) [
      | inl q ↦ subst (λ (z : ℕ). NodeFits keys nodes' front (front z) x) (sym q.0) (subst (λ (z : Node). NodeFits keys nodes' front (front n) z) (sym q.1) (subst (λ (z : Bytes). NodeFits keys nodes' front z node) (sym front_new) node_fits))
      | inr q ↦ node_fits_kept j x q.0 q.1
    ];
    keeps = λ j b x z is h. elim (node_cases j x is) [
      | inl q ↦
          let h2 : child_at (edges_of g ++ own ∷ []) b ≡ Some z = subst (λ (y : Node). child_at y.edges b ≡ Some z) q.1 h in
          let s = child_below b z h2 in
          subst (λ (y : ℕ). KeepsAfter P nodes' front (front y ++ b ∷ []) z) (sym q.0) (subst (λ (y : Bytes). KeepsAfter P nodes' front (y ++ b ∷ []) z) (sym front_new) (keeps_kept (take d k ++ b ∷ []) (take d k ++ b ∷ []) z s.covers s.keeps))
      | inr q ↦ subst (λ (y : Bytes). KeepsAfter P nodes' front (y ++ b ∷ []) z) (sym (front_old j q.0)) (keeps_kept (p.front_of j ++ b ∷ []) (p.front_of j ++ b ∷ []) z ((p.made.node j x q.1).below b z h) (p.made.keeps j b x z q.1 h))
    ];
    apart = apart_more nodes nodes' p.front_of front n p.made.apart (λ m off live. elim (live_cases m live) [ inl q ↦ absurd (off q) | inr q ↦ q.1 ]) front_old (λ m live e. front_apart m live (e ∙ front_new));
  }

  -- a list that begins with d + 1 bytes of k begins with `start` of them
  short_less : (l : Bytes) → Begins (take (d + 1) k) l → Begins (take start k) l
  short_less l b = begins_less k l start (d + 1) (omega arith) (let w = deep in omega arith) b

  short_group : (l : Bytes) (b : ℕ) → Begins (take d k ++ b ∷ []) l → Begins (take start k) l
  short_group l b h = begins_less k l start d start_le (let w = deep in omega arith) (Begins-edge_front (take d k) l b h)

  along : (l : Bytes) → Begins (take (d + 1) k) l → Begins (take d k) l
  along l b = begins_less k l d (d + 1) (omega arith) (let w = deep in omega arith) b

  -- a node is made of the deepest loose edges, and of the child of the first bytes of the last key
  pub part_closed : IsPart P keys nodes' k es start (Inner n)
  part_closed = record {
    front_of = front;
    made = all_made;
    loose = λ e m. (let h = in_es e (Member-from_Contains e es m) in record { within = h.within; before = h.before; stands = stands_kept (loose_front k e) e.edge.to h.stands });
    deeper = λ e m. upper e (Member-from_Contains e es m);
    rise = rise_left es g p.rise;
    within = let w = deep in omega arith;
    child = record {
      covers = record {
        live = is_some (nodes' n) node made.is;
        front = subst (λ (z : Bytes). Begins (take start k) z) (sym front_new) (take_less k start d start_le (let w = deep in omega arith));
        only = λ j l is b. subst (λ (z : Bytes). Begins z l) (sym front_new) (elim (key_cases start (omega arith) start_le j l is b) [ inl far ↦ along l far | inr e ↦ Begins-edge_front (take d k) l e.0.edge.byte e.2 ]);
      };
      keeps = λ x is.
          let a : nodes' n ≡ Some node = made.is in
          let b : x ≡ node = cc in
          let e : x.prefix ≡ prefix = ap (λ (z : Node). z.prefix) b in
          let s : start ≡ length (take start k) = sym (length-take-le start k (let w = deep in omega arith)) in
          e ∙ prefix_is ∙ cut_front P k (take start k) (take d k) start d (Begins-take d k) s (sym length_front) start_le ∙ ap (λ (z : Bytes). take P (drop (length (take start k)) z)) (sym front_new);
    };
    under = λ j live. elim (live_cases j live) [
      | inl q ↦ inl (subst (λ (z : ℕ). Begins (take start k) (front z)) (sym q) (subst (λ (z : Bytes). Begins (take start k) z) (sym front_new) (take_less k start d start_le (let w = deep in omega arith))))
      | inr q ↦ elim (node_front_cases j q.1) [
        | inl far ↦ inl (subst (λ (z : Bytes). Begins (take start k) z) (sym (front_old j q.0)) (short_less (p.front_of j) far))
        | inr (inl e) ↦ inl (subst (λ (z : Bytes). Begins (take start k) z) (sym (front_old j q.0)) (short_group (p.front_of j) e.0.edge.byte e.2))
        | inr (inr e) ↦ inr (e.0, Contains-from_Member e.0 es e.1, subst (λ (z : Bytes). Begins (loose_front k e.0) z) (sym (front_old j q.0)) e.2)
      ]
    ];
    below = λ j l is. elim (p.below j l is) [
      | inl far ↦ inl (short_less l far)
      | inr (inl e) ↦ elim (split e.0 e.1) [
        | inl a ↦ inr (inl (e.0, Contains-from_Member e.0 es a, e.2))
        | inr a ↦ inl (short_group l e.0.edge.byte (beyond l e.0 a e.2))
      ]
      | inr (inr more) ↦ inr (inr more)
    ];
  }

-- ---- which loose edges are the deepest

-- loose edges that rise above a depth are no less deep
rise_over : (depth byte : ℕ) (es : List LooseEdge) → RiseAbove depth byte es → (e : LooseEdge) → Member e es → depth ≤ e.depth
rise_over depth byte [] r e m = absurd m
rise_over depth byte (f ∷ es) r e m =
    let up : depth ≤ f.depth = elim r.0 [ inl l ↦ omega arith | inr q ↦ (let s : depth ≡ f.depth = q.0 in omega arith) ] in
    elim m [
      | inl s ↦ (let t : f.depth ≡ e.depth = ap (λ (x : LooseEdge). x.depth) s in omega arith)
      | inr n ↦ omega (arith, rise_over f.depth f.edge.byte es r.1 e n)
    ]

-- earlier loose edges are no deeper than later ones
above_split : (depth byte : ℕ) (es g : List LooseEdge) → RiseAbove depth byte (es ++ g) → (e f : LooseEdge) → Member e es → Member f g → e.depth ≤ f.depth
above_split depth byte [] g r e f m n = absurd m
above_split depth byte (x ∷ es) g r e f (inl s) n = (let a = rise_over x.depth x.edge.byte (es ++ g) r.1 f (Member-append_right f es g n) in let t : x.depth ≡ e.depth = ap (λ (y : LooseEdge). y.depth) s in omega arith)
above_split depth byte (x ∷ es) g r e f (inr m) n = above_split x.depth x.edge.byte es g r.1 e f m n

rise_split : (es g : List LooseEdge) → Rise (es ++ g) → (e f : LooseEdge) → Member e es → Member f g → e.depth ≤ f.depth
rise_split [] g r e f m n = absurd m
rise_split (x ∷ es) g r e f (inl s) n = (let a = rise_over x.depth x.edge.byte (es ++ g) r f (Member-append_right f es g n) in let t : x.depth ≡ e.depth = ap (λ (y : LooseEdge). y.depth) s in omega arith)
rise_split (x ∷ es) g r e f (inr m) n = above_split x.depth x.edge.byte es g r e f m n

-- no loose edge is deeper than the last
last_over : (es : List LooseEdge) → Rise es → (d : ℕ) → last_depth es ≡ Some d → (e : LooseEdge) → Member e es → e.depth ≤ d
last_over [] r d is e m = absurd m
last_over (x ∷ []) r d is e (inl s) = (let t : x.depth ≡ e.depth = ap (λ (y : LooseEdge). y.depth) s in let q : Some x.depth ≡ Some d = is in let u : x.depth ≡ d = cc in omega arith)
last_over (x ∷ []) r d is e (inr m) = absurd m
last_over (x ∷ y ∷ es) r d is e (inl s) = (let a = last_over (y ∷ es) r.1 d is y (inl refl) in let b = rise_over x.depth x.edge.byte (y ∷ es) r y (inl refl) in let t : x.depth ≡ e.depth = ap (λ (z : LooseEdge). z.depth) s in omega arith)
last_over (x ∷ y ∷ es) r d is e (inr m) = last_over (y ∷ es) r.1 d is e m

-- a list with a loose edge has a last one
last_some : (es : List LooseEdge) (e : LooseEdge) → Member e es → (d : ℕ) × (last_depth es ≡ Some d)
last_some [] e m = absurd m
last_some (x ∷ []) e m = (x.depth, refl)
last_some (x ∷ y ∷ es) e m = last_some (y ∷ es) y (inl refl)

last_member : (es : List LooseEdge) (d : ℕ) → last_depth es ≡ Some d → (e : LooseEdge) × Member e es × (e.depth ≡ d)
last_member [] d is = cc
last_member (x ∷ []) d is = (x, inl refl, (let q : Some x.depth ≡ Some d = is in cc))
last_member (x ∷ y ∷ es) d is = let r = last_member (y ∷ es) d is in (r.0, inr r.1, r.2)

-- each loose edge is less deep than the start after the last one
pub start_over : (es : List LooseEdge) (least : ℕ) → Rise es → (e : LooseEdge) → Member e es → e.depth < start_after least (last_depth es)
start_over es least r e m =
    let d = last_some es e m in
    let a : e.depth ≤ d.0 = last_over es r d.0 d.1 e m in
    subst (λ (o : Option ℕ). e.depth < start_after least o) (sym d.1) (let b : e.depth < max least (d.0 + 1) = omega arith in b)

-- the start is no less than `least`
pub least_over : (least : ℕ) (o : Option ℕ) → least ≤ start_after least o
least_over least None = omega arith
least_over least (Some d) = let b : least ≤ max least (d + 1) = omega arith in b

-- the start after the edges before a group is no deeper than the group
pub start_under : (es g : List LooseEdge) (least d : ℕ) → Rise (es ++ g) → 0 < length g → ((f : LooseEdge) → Member f g → f.depth ≡ d) → (last_depth es ≡ Some d → ⊥) → least ≤ d → (o : Option ℕ) → last_depth es ≡ o → start_after least o ≤ d
start_under es g least d r some same other le None is = le
start_under es [] least d r some same other le (Some x) is = absurd (omega arith)
start_under es (f ∷ g) least d r some same other le (Some x) is =
    let m = last_member es x is in
    let a : m.0.depth ≤ f.depth = rise_split es (f ∷ g) r m.0 f m.1 (inl refl) in
    let b : f.depth ≡ d = same f (inl refl) in
    let c : m.0.depth ≡ x = m.2 in
    let ne : x ≢ d = λ q. other (is ∙ ap Some q) in
    let e : max least (x + 1) ≤ d = omega arith in
    e

-- if the last edge is at depth `least` or deeper, the next prefix starts after it
pub start_last : (least d : ℕ) → least ≤ d → start_after least (Some d) ≡ d + 1
start_last least d le = let e : max least (d + 1) ≡ d + 1 = omega arith in e

-- if no edge is as deep as `least`, the next prefix starts at `least`
pub start_least : (least : ℕ) (o : Option ℕ) → ((d : ℕ) → o ≡ Some d → d < least) → start_after least o ≡ least
start_least least None h = refl
start_least least (Some d) h = let lt : d < least = h d refl in let e : max least (d + 1) ≡ least = omega arith in e

-- at the last key, a leaf covers the bytes up to the start after the last loose edge
pub part_opened : {P : ℕ} → (keys : ℕ → Option Bytes) (nodes : ℕ → Option Node) (k : Bytes) (es : List LooseEdge) (i least : ℕ) → IsPart P keys nodes k es (length k) (Leaf i) → IsTurn keys i k least → IsPart P keys nodes k es (start_after least (last_depth es)) (Leaf i)
part_opened keys nodes k es i least p t =
    part_shortened keys nodes k es i least (start_after least (last_depth es)) p t (start_within (last_depth es) refl) (least_over least (last_depth es)) (λ e m. start_over es least p.rise e (Member-from_Contains e es m))
  where
    start_within : (o : Option ℕ) → last_depth es ≡ o → start_after least o ≤ length k
    start_within None is = t.within
    start_within (Some d) is =
        let m = last_member es d is in
        let a : m.0.depth < length k = (p.loose m.0 (Contains-from_Member m.0 es m.1)).within in
        let b : m.0.depth ≡ d = m.2 in
        let w = t.within in
        let e : max least (d + 1) ≤ length k = omega arith in
        e

-- ---- the deepest loose edges, as a part of the list

module _ {P : ℕ} (keys : ℕ → Option Bytes) (nodes : ℕ → Option Node) (k : Bytes) (es : List LooseEdge) (n d least : ℕ) (c : Child) (p : IsPart P keys nodes k es (d + 1) c)
    (group : (e : LooseEdge) → Member e (drop n es) → e.depth ≡ d) (other : last_depth (take n es) ≡ Some d → ⊥) (fewer : n < length es) (deep : least ≤ d) where
  parted : IsPart P keys nodes k (take n es ++ drop n es) (d + 1) c
  parted = subst (λ (z : List LooseEdge). IsPart P keys nodes k z (d + 1) c) (sym (take-append-drop n es)) p

  -- the group is not empty
  pub group_some : 0 < length (drop n es)
  group_some = omega (arith, length-drop n es)

  -- the prefix of their node starts no deeper than the node is
  pub group_start : start_after least (last_depth (take n es)) ≤ d
  group_start = start_under (take n es) (drop n es) least d parted.rise group_some group other deep (last_depth (take n es)) refl

  -- the edges before the group are less deep than that start
  group_upper : (e : LooseEdge) → Member e (take n es) → e.depth < start_after least (last_depth (take n es))
  group_upper e m = start_over (take n es) least (rise_left (take n es) (drop n es) parted.rise) e m

  -- the last of these is less deep than the group
  pub upper_last : (x : ℕ) → last_depth (take n es) ≡ Some x → x < d
  upper_last x is = (let m = last_member (take n es) x is in let a = group_upper m.0 m.1 in let b : m.0.depth ≡ x = m.2 in let s = group_start in omega arith)

  -- the last key is longer than the node's front
  pub group_deep : d < length k
  group_deep = let w = p.within in omega arith

  group_less : (f : LooseEdge) → Member f (drop n es) → f.edge.byte < get_or k d 0
  group_less f m =
      let lt : f.edge.byte < get_or k f.depth 0 = (parted.loose f (Contains-from_Member f (take n es ++ drop n es) (Member-append_right f (take n es) (drop n es) m))).before in
      let at : get_or k f.depth 0 ≡ get_or k d 0 = ap (λ (z : ℕ). get_or k z 0) (group f m) in
      omega arith

  module _ (own : Edge) (own_byte : own.byte ≡ get_or k d 0) where
    -- the edges of the node ascend
    pub group_rise : Ascends (edges_of (drop n es) ++ own ∷ [])
    group_rise = group_ascends d own (drop n es) group (λ f m. omega (arith, group_less f m, own_byte)) (rise_right (take n es) (drop n es) parted.rise)

    -- the node covers the keys that its edges and the child covered
    pub group_closed : (leaf m : ℕ) (nodes' : ℕ → Option Node) → own.to ≡ c → IsTurn keys leaf k least → MakesNode nodes nodes' m d (take P (slice_range k (start_after least (last_depth (take n es))) d)) (edges_of (drop n es) ++ own ∷ [])
        → IsPart P keys nodes' k (take n es) (start_after least (last_depth (take n es))) (Inner m)
    group_closed leaf m nodes' own_to t made =
        part_closed keys nodes nodes' k (take n es) (drop n es) d (start_after least (last_depth (take n es))) least leaf m (take P (slice_range k (start_after least (last_depth (take n es))) d)) c parted t own own_byte own_to made refl group_some group group_upper (least_over least (last_depth (take n es))) group_start
