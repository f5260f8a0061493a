-- The first bytes of their compressed prefixes, which nodes keep.
use Rattle.std.proofs.Common.{◌≡◌, ◌≢◌, ℕ, ◌+◌, ◌-◌, ◌<◌, ◌≤◌, min, List, subst, take, drop, length, slice_range, slice_get, get_or, ap, refl, sym, Option, Some, None, IsSome, ◌∙◌, inl, inr, ◌++◌, [], ◌∷◌, arith, length-append}
use Rattle.std.proofs.lemmas.Bool.Decides.{eqb_tells}
use Rattle.std.proofs.Math.Nat.{min-le_left}
use Rattle.std.proofs.lemmas.List.{drop-take, drop-drop, take_all, length-take, length-drop, get_or-take, get_or-drop}
use Rattle.std.proofs.lemmas.Option.{get_or_from_slice_get, slice_get_within}
use Rattle.art_tree.specs.Invariant.EdgesAbove.{LeadsTo, TurnsTo, edge_front}
use Rattle.art_tree.specs.Begins.{Bytes, Begins}
use Rattle.art_kinds.specs.Edges.{child_at}
use Rattle.art_kinds.specs.Nodes.{Node, Reprefixes}
use Rattle.art_tree.specs.Calls.Removing.{StartsBelow, Cuts, CutsAfter}
use Rattle.art_tree.specs.Invariant.Shape.{Shape, Keeps, kept_prefix}
use Rattle.art_kinds.specs.declared.records.ids.Child.{Child}
use Rattle.art_kinds.specs.declared.records.ids.Child.TheVariants.{Leaf, Inner}
use Rattle.blart_keys.proofs.Options.{is_some, same_some}
use Rattle.art_tree.proofs.BeginsLemmas.{take_front}

module _ (old new : ℕ → Option Node) (n : ℕ) (was is : Node) (was_is : old n ≡ Some was) (is_is : new n ≡ Some is) (others : (j : ℕ) → j ≢ n → new j ≡ old j) where
  -- if only the node n changed, the same numbers have nodes
  pub live_after : (m : ℕ) → IsSome (old m) → IsSome (new m)
  live_after m h = elim (eqb_tells m n) [ inl e ↦ is_some (new m) is (ap new e.1 ∙ is_is) | inr e ↦ same_some (old m) (new m) (sym (others m e.1)) h ]

  pub live_before : (m : ℕ) → IsSome (new m) → IsSome (old m)
  live_before m h = elim (eqb_tells m n) [ inl e ↦ is_some (old m) was (ap old e.1 ∙ was_is) | inr e ↦ same_some (new m) (old m) (others m e.1) h ]

-- the fronts still differ if there is one node more, with a front that no other has
pub apart_more : (old new : ℕ → Option Node) (f f' : ℕ → Bytes) (n : ℕ) → ((a b : ℕ) → IsSome (old a) → IsSome (old b) → f a ≡ f b → a ≡ b) → ((m : ℕ) → m ≢ n → IsSome (new m) → IsSome (old m)) → ((m : ℕ) → m ≢ n → f' m ≡ f m) → ((m : ℕ) → IsSome (old m) → f m ≡ f' n → ⊥)
    → (a b : ℕ) → IsSome (new a) → IsSome (new b) → f' a ≡ f' b → a ≡ b
apart_more old new f f' n apart was same alone a b la lb e =
    elim (eqb_tells a n) [
      | inl p ↦ elim (eqb_tells b n) [
        | inl q ↦ p.1 ∙ sym q.1
        | inr q ↦ absurd (alone b (was b q.1 lb) (sym (same b q.1) ∙ sym e ∙ ap f' p.1))
      ]
      | inr p ↦ elim (eqb_tells b n) [
        | inl q ↦ absurd (alone a (was a p.1 la) (sym (same a p.1) ∙ e ∙ ap f' q.1))
        | inr q ↦ apart a b (was a p.1 la) (was b q.1 lb) (sym (same a p.1) ∙ e ∙ same b q.1)
      ]
    ]

-- a prefix remains right if the edge and the node have the same fronts
pub keeps_as : (P : ℕ) (f f' : ℕ → Bytes) (a a' : Option (ℕ × ℕ)) (n n' : ℕ) (x x' : Node) → x.prefix ≡ kept_prefix P f a n → x'.prefix ≡ x.prefix → edge_front f' a' ≡ edge_front f a → f' n' ≡ f n → x'.prefix ≡ kept_prefix P f' a' n'
keeps_as P f f' a a' n n' x x' kept e edge front =
    e ∙ kept ∙ ap (λ (t : Bytes). take P (drop (length (edge_front f a)) t)) (sym front) ∙ ap (λ (g : Bytes). take P (drop (length g) (f' n'))) (sym edge)

module _ (old new : ℕ → Option Node) (root : Option Child) (n : ℕ) (was is : Node) (was_is : old n ≡ Some was) (is_is : new n ≡ Some is) (others : (j : ℕ) → j ≢ n → new j ≡ old j)
    (prefix : is.prefix ≡ was.prefix) (edges : (b k : ℕ) → child_at is.edges b ≡ Some (Inner k) → child_at was.edges b ≡ Some (Inner k)) where
  node_was : (k : ℕ) (x' : Node) → new k ≡ Some x' → (x : Node) × (old k ≡ Some x) × (x'.prefix ≡ x.prefix)
  node_was k x' e =
      elim (eqb_tells k n) [
        | inl s ↦ (let g : new n ≡ Some x' = ap new (sym s.1) ∙ e in let z : x' ≡ is = cc in (was, ap old s.1 ∙ was_is, ap (λ (x : Node). x.prefix) z ∙ prefix))
        | inr s ↦ (x', sym (others k s.1) ∙ e, refl)
      ]

  led : (a : Option (ℕ × ℕ)) (k : ℕ) → LeadsTo new root a (Inner k) → LeadsTo old root a (Inner k)
  led None k l = l
  led (Some (q, b)) k l =
      elim (eqb_tells q n) [
        | inl s ↦ (let g : new n ≡ Some l.0 = ap new (sym s.1) ∙ l.1 in let z : l.0 ≡ is = cc in (was, ap old s.1 ∙ was_is, edges b k (ap (λ (x : Node). child_at x.edges b) (sym z) ∙ l.2)))
        | inr s ↦ (l.0, sym (others q s.1) ∙ l.1, l.2)
      ]

  -- the nodes keep their prefixes if one node gets other edges to leaves
  pub keeps_changed : (P : ℕ) (f : ℕ → Bytes) → Keeps P old root f → Keeps P new root f
  keeps_changed P f kept a k x' l e = let w = node_was k x' e in w.2 ∙ kept a k w.0 (led a k l) w.1

-- ---- prefixes that are cut from a key

-- the bytes from a to b are those after a, of the first b
range_is : (P : ℕ) (xs : Bytes) (a b : ℕ) → a ≤ b → take P (slice_range xs a b) ≡ take P (drop a (take b xs))
range_is P xs a b le =
    let e : a + (b - a) ≡ b = omega arith in
    ap (λ (t : Bytes). take P t) (sym (drop-take a (b - a) xs) ∙ ap (λ (z : ℕ). drop a (take z xs)) e)

-- the bytes of a key from the length of g to that of its prefix f are those of f after that length
pub cut_front : (P : ℕ) (k g f : Bytes) (start end : ℕ) → Begins f k → start ≡ length g → end ≡ length f → start ≤ end → take P (slice_range k start end) ≡ take P (drop (length g) f)
cut_front P k g f start end b s e le =
    range_is P k start end le ∙ ap (λ (z : ℕ). take P (drop z (take end k))) s ∙ ap (λ (z : ℕ). take P (drop (length g) (take z k))) e ∙ ap (λ (t : Bytes). take P (drop (length g) t)) (take_front f k b)

-- if P bytes reach from `from` to `end`, they contain the bytes from each `start` between
pub cut_kept : (P : ℕ) (k : Bytes) (from start end : ℕ) → from ≤ start → start ≤ end → end - from ≤ P → take P (drop (start - from) (take P (slice_range k from end))) ≡ take P (slice_range k start end)
cut_kept P k from start end a b few =
    let t : Bytes = take end k in
    let l : length (drop from t) ≡ length t - from = length-drop from t in
    let m : min end (length k) ≤ end = min-le_left end (length k) in
    let n : length t ≡ min end (length k) = length-take end k in
    let short : length (drop from t) ≤ P = omega (arith, l, m, n) in
    let whole : take P (slice_range k from end) ≡ drop from t = range_is P k from end (omega arith) ∙ take_all P (drop from t) short in
    let e : from + (start - from) ≡ start = omega arith in
    ap (λ (z : Bytes). take P (drop (start - from) z)) whole ∙ ap (λ (z : Bytes). take P z) (drop-drop (start - from) from t) ∙ ap (λ (z : ℕ). take P (drop z t)) e ∙ sym (range_is P k start end b)

-- a kept byte is a byte of the key
pub kept_byte : (P : ℕ) (k : Bytes) (from depth end b : ℕ) → from ≤ depth → depth < end → slice_get (take P (slice_range k from end)) (depth - from) ≡ Some b → b ≡ get_or k depth 0
kept_byte P k from depth end b a lt is =
    let ys : Bytes = slice_range k from end in
    let i : ℕ = depth - from in
    let here : i < length (take P ys) = slice_get_within (take P ys) i b is in
    let m : min P (length ys) ≤ P = min-le_left P (length ys) in
    let n : length (take P ys) ≡ min P (length ys) = length-take P ys in
    let few : i < P = omega (arith, here, m, n) in
    let within : i < end - from = omega arith in
    let e : from + (depth - from) ≡ depth = omega arith in
    sym (get_or_from_slice_get (take P ys) i b 0 is) ∙ get_or-take P ys i 0 few ∙ get_or-take (end - from) (drop from k) i 0 within ∙ get_or-drop from k i 0 ∙ ap (λ (z : ℕ). get_or k z 0) e

-- the bytes below an edge begin at the length of its front
pub start_is : {P : ℕ} → (keys : ℕ → Option Bytes) (nodes : ℕ → Option Node) (root : Option Child) (s : Shape P keys nodes root) (above : Option (ℕ × ℕ)) (start : ℕ) → StartsBelow nodes above start → start ≡ length (edge_front s.front_of above)
start_is keys nodes root s None start r = r
start_is keys nodes root s (Some e) start r =
    let d : r.0.depth ≡ length (s.front_of e.0) = (s.node e.0 r.0 r.1).depth in
    let k : length (s.front_of e.0 ++ e.1 ∷ []) ≡ length (s.front_of e.0) + 1 = length-append (s.front_of e.0) (e.1 ∷ []) in
    let h : start ≡ r.0.depth + 1 = r.2 in
    omega arith

-- ---- a child whose prefix is cut again

-- a node is unchanged except that the child's prefix is now the bytes that its front has after g
pub record IsCut (P : ℕ) (front_of : ℕ → Bytes) (g : Bytes) (child : Child) (m : ℕ) (x x' : Node) : Type 0 where
  pub depth : x'.depth ≡ x.depth
  pub edges : x'.edges ≡ x.edges
  pub other : child ≢ Inner m → x'.prefix ≡ x.prefix
  pub own : child ≡ Inner m → x'.prefix ≡ take P (drop (length g) (front_of m))

module _ (P : ℕ) (old new : ℕ → Option Node) (front_of : ℕ → Bytes) (g : Bytes) where
  -- each node is so
  pub cut_node : (c : Child) → CutsAfter P old new front_of g c → (m : ℕ) (x : Node) → old m ≡ Some x → (x' : Node) × (new m ≡ Some x') × IsCut P front_of g c m x x'
  cut_node (Leaf i) h m x is = (x, h m ∙ is, record { depth = refl; edges = refl; other = λ z. refl; own = λ z. absurd cc })
  cut_node (Inner n) h m x is =
      elim (eqb_tells m n) [
        | inl e ↦
            let f : old n ≡ Some x = ap old (sym e.1) ∙ is in
            let k : old n ≡ Some h.was = h.was_is in
            let z : h.was ≡ x = cc in (
              record h.was { prefix = take P (drop (length g) (front_of n)) },
              ap new e.1 ∙ h.is_is,
              record {
                depth = ap (λ (y : Node). y.depth) z;
                edges = ap (λ (y : Node). y.edges) z;
                other = λ off. absurd (off (ap (λ (j : ℕ). Inner j) (sym e.1)));
                own = λ same. ap (λ (j : ℕ). take P (drop (length g) (front_of j))) (sym e.1);
              },
            )
        | inr e ↦ (x, h.others m e.1 ∙ is, record { depth = refl; edges = refl; other = λ z. refl; own = λ z. absurd (e.1 (let y : n ≡ m = cc in sym y)) })
      ]

  -- and no node is new
  pub cut_was : (c : Child) → CutsAfter P old new front_of g c → (m : ℕ) → old m ≡ None → new m ≡ None
  cut_was (Leaf i) h m is = h m ∙ is
  cut_was (Inner n) h m is =
      elim (eqb_tells m n) [
        | inl e ↦ (let f : old n ≡ None = ap old (sym e.1) ∙ is in let k : old n ≡ Some h.was = h.was_is in absurd cc)
        | inr e ↦ h.others m e.1 ∙ is
      ]

  -- a number that is free now was free before
  pub cut_free : (c : Child) → CutsAfter P old new front_of g c → (m : ℕ) → new m ≡ None → old m ≡ None
  cut_free c h m is = go (old m) refl
    where
      go : (o : Option Node) → old m ≡ o → old m ≡ None
      go None e = e
      go (Some x) e = (let y = cut_node c h m x e in let f : new m ≡ Some y.0 = y.1 in absurd cc)

  -- each edge leads to the same child
  pub cut_leads : (c : Child) → CutsAfter P old new front_of g c → (root : Option Child) (above : Option (ℕ × ℕ)) (d : Child) → LeadsTo old root above d → LeadsTo new root above d
  cut_leads c h root None d l = l
  cut_leads c h root (Some e) d l = let y = cut_node c h e.0 l.0 l.1 in (y.0, y.1, ap (λ es. child_at es e.1) y.2.edges ∙ l.2)

-- each node keeps its prefix if an edge is redirected
pub turned_prefix : (old new : ℕ → Option Node) (root root' : Option Child) (above : Option (ℕ × ℕ)) (to : Child) → TurnsTo old new root root' above to → (m : ℕ) (x x' : Node) → old m ≡ Some x → new m ≡ Some x' → x'.prefix ≡ x.prefix
turned_prefix old new root root' None to t m x x' was is =
    let e : new m ≡ old m = t.0 m in
    let z : x' ≡ x = cc in
    ap (λ (y : Node). y.prefix) z
turned_prefix old new root root' (Some (p, b)) to t m x x' was is =
    elim (eqb_tells m p) [
      | inl e ↦
          let f : old p ≡ Some x = ap old (sym e.1) ∙ was in
          let g : new p ≡ Some x' = ap new (sym e.1) ∙ is in
          let h : old p ≡ Some t.0.was = t.0.was_is in
          let k : new p ≡ Some t.0.is = t.0.is_is in
          let y : t.0.was ≡ x = cc in
          let z : x' ≡ t.0.is = cc in
          ap (λ (y : Node). y.prefix) z ∙ t.0.prefix ∙ ap (λ (y : Node). y.prefix) y
      | inr e ↦
          let f : new m ≡ old m = t.0.others m e.1 in
          let z : x' ≡ x = cc in
          ap (λ (y : Node). y.prefix) z
    ]

-- each old node keeps its prefix, but the child keeps the bytes that its front has after g
pub record Recut (P : ℕ) (old new : ℕ → Option Node) (front_of : ℕ → Bytes) (g : Bytes) (child : Child) : Type 0 where
  pub others : (m : ℕ) (x x' : Node) → old m ≡ Some x → new m ≡ Some x' → child ≢ Inner m → x'.prefix ≡ x.prefix
  pub own : (m : ℕ) (x x' : Node) → old m ≡ Some x → new m ≡ Some x' → child ≡ Inner m → x'.prefix ≡ take P (drop (length g) (front_of m))

-- so after a cut, if the other changes keep the prefixes
pub recut_by : (P : ℕ) (old cut new : ℕ → Option Node) (front_of : ℕ → Bytes) (g : Bytes) (c : Child) → CutsAfter P old cut front_of g c → ((m : ℕ) (x x' : Node) → cut m ≡ Some x → new m ≡ Some x' → x'.prefix ≡ x.prefix) → Recut P old new front_of g c
recut_by P old cut new front_of g c cuts same = record {
  others = λ m x x' was is off. (let y = cut_node P old cut front_of g c cuts m x was in same m y.0 x' y.1 is ∙ y.2.other off);
  own = λ m x x' was is at. (let y = cut_node P old cut front_of g c cuts m x was in same m y.0 x' y.1 is ∙ y.2.own at);
}

-- a prefix cut from a key is the bytes that the child's front has after g
pub cuts_after : (P : ℕ) (old new : ℕ → Option Node) (front_of : ℕ → Bytes) (c : Child) (k g : Bytes) (start : ℕ) → start ≡ length g → ((n : ℕ) (x : Node) → c ≡ Inner n → old n ≡ Some x → Begins (front_of n) k × (x.depth ≡ length (front_of n)) × (start ≤ x.depth))
    → Cuts old new c (λ end. take P (slice_range k start end)) → CutsAfter P old new front_of g c
cuts_after P old new front_of (Leaf i) k g start e below h = h
cuts_after P old new front_of (Inner n) k g start e below h =
    let w = below n h.0 refl h.1 in
    subst (λ (p : List ℕ). Reprefixes old new n p) (cut_front P k g (front_of n) start h.0.depth w.0 e w.1 w.2) h.2
