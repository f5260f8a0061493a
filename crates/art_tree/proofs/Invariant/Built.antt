-- The tree of leaves in ascending order, made of the parts that are made along the way.
use Rattle.std.proofs.Common.{◌≡◌, ◌≢◌, ℕ, zero, suc, ◌+◌, ◌<◌, ◌≤◌, ◌⊎◌, List, [], ◌∷◌, ◌++◌, length, take, get_or, Contains, refl, sym, ap, ◌∙◌, subst, arith, Option, Some, None, IsSome, inl, inr, true, length-append}
use Rattle.std.proofs.lemmas.Bool.{cases_lt}
use Rattle.std.proofs.lemmas.Bool.Decides.{eqb_tells}
use Rattle.std.proofs.lemmas.List.{get_or-take, take_more}
use Rattle.std.proofs.lemmas.List.Elements.{Contains-append_left, Contains-append_cases, Contains-push}
use Rattle.blart_keys.specs.Bytes.{common, less}
use Rattle.blart_keys.proofs.Options.{some_of, not_some}
use Rattle.blart_keys.proofs.RankLemmas.{Contains-from_Member, Member-from_Contains}
use Rattle.art_kinds.specs.Nodes.{Node}
use Rattle.art_kinds.specs.declared.records.ids.Child.{Child}
use Rattle.art_kinds.specs.declared.records.ids.Child.TheVariants.{Leaf, Inner}
use Rattle.art_tree.specs.Begins.{Bytes, Begins, next_byte}
use Rattle.art_tree.specs.Calls.Building.{AreMade, IsPart, IsLoose, StandsFor, KeepsAfter, Rise, RiseAbove, loose_front}
use Rattle.art_tree.specs.Invariant.Shape.{Shape, Covers, Keeps}
use Rattle.art_tree.specs.declared.tree.build.LooseEdge.{LooseEdge}
use Rattle.art_tree.proofs.BeginsLemmas.{Begins-length, Begins-more, Begins-next, Begins-itself, Begins-take, common-left, common-right, common_at, take_front}

module _ (P : ℕ) (keys : ℕ → Option Bytes) (nodes : ℕ → Option Node) (front_of : ℕ → Bytes) (made : AreMade P keys nodes front_of) where
  module _ (i j : ℕ) (k l : Bytes) (k_is : keys i ≡ Some k) (l_is : keys j ≡ Some l) (off : i ≢ j) where
    -- below a child that covers two keys, there is a node at which they part
    pub joined_below : (m : ℕ) (g : Bytes) (c : Child) → length k ≤ length g + m → Covers keys nodes front_of g c → Begins g k → Begins g l → (n : ℕ) × IsSome (nodes n) × (front_of n ≡ common k l)
    joined_below m g (Leaf a) h cov gk gl = absurd (off (cov.only i k k_is gk ∙ sym (cov.only j l l_is gl)))
    joined_below zero g (Inner n) h cov gk gl =
        let x = some_of (nodes n) cov.live in
        let fk : Begins (front_of n) k = cov.only i k k_is gk in
        let long : length (front_of n) < length k = (made.node n x.0 x.1).longer i k k_is fk in
        let gf : length g ≤ length (front_of n) = Begins-length g (front_of n) cov.front in
        absurd (omega arith)
    joined_below (suc m) g (Inner n) h cov gk gl =
        let f = front_of n in
        let x = some_of (nodes n) cov.live in
        let fits = made.node n x.0 x.1 in
        let fk : Begins f k = cov.only i k k_is gk in
        let fl : Begins f l = cov.only j l l_is gl in
        let k_long : length f < length k = fits.longer i k k_is fk in
        let l_long : length f < length l = fits.longer j l l_is fl in
        let gf : length g ≤ length f = Begins-length g f cov.front in
        elim (eqb_tells (next_byte f l) (next_byte f k)) [
          | inl e ↦
              let d = some_of _ (fits.edge i k k_is fk) in
              let fb : Begins (f ++ next_byte f k ∷ []) l = subst (λ (b : ℕ). Begins (f ++ b ∷ []) l) e.1 (Begins-more f l fl l_long) in
              joined_below m (f ++ next_byte f k ∷ []) d.0 (omega (arith, length-append f (next_byte f k ∷ []))) (fits.below (next_byte f k) d.0 d.1) (Begins-more f k fk k_long) fb
          | inr e ↦ (n, cov.live, sym (common_at f k l fk k_long fl (λ b. e.1 (Begins-next f l (next_byte f k) b))))
        ]

  -- each node keeps the bytes that its front has after the front of the edge to it
  keeps_made : (c : Child) → KeepsAfter P nodes front_of [] c → Keeps P nodes (Some c) front_of
  keeps_made c keeps None n x leads is =
      let same : c ≡ Inner n = cc in
      let h : KeepsAfter P nodes front_of [] (Inner n) = subst (λ (c : Child). KeepsAfter P nodes front_of [] c) same keeps in
      h x is
  keeps_made c keeps (Some (p, b)) n x leads is = made.keeps p b leads.0 (Inner n) leads.1 leads.2 x is

-- once all is made, the child that covers all keys is the root of the tree
pub shape_built : {P : ℕ} → (keys : ℕ → Option Bytes) (nodes : ℕ → Option Node) (k : Bytes) (c : Child) → IsPart P keys nodes k [] 0 c → Shape P keys nodes (Some c)
shape_built {P} keys nodes k c part = record {
  front_of = part.front_of;
  top = part.child.covers;
  node = part.made.node;
  joined = λ i j a b a_is b_is off. joined_below P keys nodes part.front_of part.made i j a b a_is b_is off (length a) [] c (omega arith) part.child.covers tt tt;
  apart = part.made.apart;
  keeps = keeps_made P keys nodes part.front_of part.made c part.child.keeps;
}

-- ---- the bytes that a front shares

-- a key has the first bytes of its prefix
take_front_of : (n : ℕ) (f k : Bytes) → Begins f k → n ≤ length f → take n k ≡ take n f
take_front_of zero f k b l = refl
take_front_of (suc n) [] k b l = absurd (omega arith)
take_front_of (suc n) (x ∷ f) [] b l = absurd b
take_front_of (suc n) (x ∷ f) (y ∷ k) b l = let h : take n k ≡ take n f = take_front_of n f k b.1 (omega arith) in let e : x ≡ y = b.0 in cc

-- two keys have the same bytes up to the length of their common prefix
pub take_shared : (n : ℕ) (k q : Bytes) → n ≤ length (common k q) → take n k ≡ take n q
take_shared n k q l = take_front_of n (common k q) k (common-left k q) l ∙ sym (take_front_of n (common k q) q (common-right k q) l)

-- and at each index before that the same byte
pub get_shared : (n : ℕ) (k q : Bytes) → n < length (common k q) → get_or k n 0 ≡ get_or q n 0
get_shared n k q l = sym (get_or-take (n + 1) k n 0 (omega arith)) ∙ ap (λ (t : Bytes). get_or t n 0) (take_shared (n + 1) k q (omega arith)) ∙ get_or-take (n + 1) q n 0 (omega arith)

-- ---- one more loose edge

RiseAbove-append : (d b : ℕ) (es : List LooseEdge) (e : LooseEdge) → RiseAbove d b es → ((d < e.depth) ⊎ ((d ≡ e.depth) × (b < e.edge.byte))) → ((f : LooseEdge) → Contains es f → (f.depth < e.depth) ⊎ ((f.depth ≡ e.depth) × (f.edge.byte < e.edge.byte))) → RiseAbove d b (es ++ e ∷ [])
RiseAbove-append d b [] e r h all = (h, tt)
RiseAbove-append d b (f ∷ es) e r h all = (r.0, RiseAbove-append f.depth f.edge.byte es e r.1 (all f (Contains-from_Member f (f ∷ es) (inl refl))) (λ g m. all g (Contains-from_Member g (f ∷ es) (inr (Member-from_Contains g es m)))))

-- loose edges with a last one that is deeper than each other, or as deep with a greater byte, rise
pub Rise-append : (es : List LooseEdge) (e : LooseEdge) → Rise es → ((f : LooseEdge) → Contains es f → (f.depth < e.depth) ⊎ ((f.depth ≡ e.depth) × (f.edge.byte < e.edge.byte))) → Rise (es ++ e ∷ [])
Rise-append [] e r all = tt
Rise-append (f ∷ es) e r all = RiseAbove-append f.depth f.edge.byte es e r (all f (Contains-from_Member f (f ∷ es) (inl refl))) (λ g m. all g (Contains-from_Member g (f ∷ es) (inr (Member-from_Contains g es m))))

-- ---- a leaf that covers its key

module _ (P : ℕ) (keys : ℕ → Option Bytes) (nodes : ℕ → Option Node) (front_of : ℕ → Bytes) (unrelated : (i j : ℕ) (k l : Bytes) → keys i ≡ Some k → keys j ≡ Some l → i ≢ j → Begins k l → ⊥) where
  leaf_whole : (i : ℕ) (k : Bytes) → keys i ≡ Some k → StandsFor P keys nodes front_of k (Leaf i)
  leaf_whole i k is = record {
    covers = record {
      key = k;
      is = is;
      front = Begins-itself k;
      only = λ j l e b. elim (eqb_tells j i) [ inl t ↦ t.1 | inr t ↦ absurd (unrelated i j k l is e (λ s. t.1 (sym s)) b) ];
    };
    keeps = tt;
  }

  -- the leaf covers all bytes of its key
  pub leaf_stands : (i : ℕ) (k : Bytes) → keys i ≡ Some k → StandsFor P keys nodes front_of (take (length k) k) (Leaf i)
  leaf_stands i k is = subst (λ (g : Bytes). StandsFor P keys nodes front_of g (Leaf i)) (sym (take_front k k (Begins-itself k))) (leaf_whole i k is)

-- a part up to the key of a leaf, by the key that was read
pub part_at : {P : ℕ} → (keys : ℕ → Option Bytes) (nodes : ℕ → Option Node) (es : List LooseEdge) (leaf : ℕ) (key : Bytes) → (k : Bytes) × (keys leaf ≡ Some k) × IsPart P keys nodes k es (length k) (Leaf leaf) → keys leaf ≡ Some key → IsPart P keys nodes key es (length key) (Leaf leaf)
part_at {P} keys nodes es leaf key p is =
    let a : keys leaf ≡ Some p.0 = p.1 in
    let same : p.0 ≡ key = cc in
    subst (λ (z : Bytes). IsPart P keys nodes z es (length z) (Leaf leaf)) same p.2

-- a key begins with all its bytes
whole_key : (i j : ℕ) (keys : ℕ → Option Bytes) (k l : Bytes) → keys i ≡ Some k → keys j ≡ Some l → j ≡ i → Begins (take (length k) k) l
whole_key i j keys k l is e s =
    let h : keys i ≡ Some l = rw (← s) e in
    let z : k ≡ l = cc in
    subst (λ (l : Bytes). Begins (take (length k) k) l) z (Begins-take (length k) k)

module _ {P : ℕ} (keys : ℕ → Option Bytes) (nodes : ℕ → Option Node) (k : Bytes) (unrelated : (i j : ℕ) (k l : Bytes) → keys i ≡ Some k → keys j ≡ Some l → i ≢ j → Begins k l → ⊥) where
  -- at the first key, with no nodes, its leaf is a part
  pub part_first : (i : ℕ) → keys i ≡ Some k → ((n : ℕ) → nodes n ≡ None) → ((j : ℕ) (l : Bytes) → keys j ≡ Some l → (j ≡ i) ⊎ (less k l ≡ true)) → IsPart P keys nodes k [] (length k) (Leaf i)
  part_first i is bare least = record {
    front_of = λ n. [];
    made = record {
      node = λ n x e. (let f : nodes n ≡ None = bare n in absurd cc);
      keeps = λ n b x c e h. (let f : nodes n ≡ None = bare n in absurd cc);
      apart = λ n m a b e. absurd (not_some (nodes n) (bare n) a);
    };
    loose = λ e m. absurd (Member-from_Contains e [] m);
    deeper = λ e m. absurd (Member-from_Contains e [] m);
    rise = tt;
    within = omega arith;
    child = leaf_stands P keys nodes (λ n. []) unrelated i k is;
    under = λ n a. absurd (not_some (nodes n) (bare n) a);
    below = λ j l e. elim (least j l e) [ inl s ↦ inl (whole_key i j keys k l is e s) | inr s ↦ inr (inr s) ];
  }

  module _ (es : List LooseEdge) (c : ℕ) (child : Child) (part : IsPart P keys nodes k es (c + 1) child) (q : Bytes) (i : ℕ) (is : keys i ≡ Some q) (c_is : c ≡ length (common k q)) (in_k : c < length k) (in_q : c < length q) (rises : get_or k c 0 < get_or q c 0) where
    -- the edge at which the next key parts from the last one
    abbrev left : LooseEdge
    left = record { depth = c; edge = record { byte = get_or k c 0; to = child } }

    left_front : take (c + 1) k ≡ loose_front q left
    left_front = take_more k c 0 in_k ∙ ap (λ (t : Bytes). t ++ get_or k c 0 ∷ []) (take_shared c k q (omega arith))

    old_front : (e : LooseEdge) → Contains es e → loose_front k e ≡ loose_front q e
    old_front e m = let d : e.depth < c + 1 = part.deeper e m in ap (λ (t : Bytes). t ++ e.edge.byte ∷ []) (take_shared e.depth k q (omega arith))

    old_byte : (e : LooseEdge) → Contains es e → e.edge.byte < get_or q e.depth 0
    old_byte e m =
        let d : e.depth < c + 1 = part.deeper e m in
        let b : e.edge.byte < get_or k e.depth 0 = (part.loose e m).before in
        elim (cases_lt e.depth c) [
          | inl lt ↦ omega (arith, get_shared e.depth k q (omega arith))
          | inr le ↦
              let s : c ≡ e.depth = omega arith in
              let r : get_or k e.depth 0 < get_or q e.depth 0 = subst (λ (n : ℕ). get_or k n 0 < get_or q n 0) s rises in
              omega arith
        ]

    -- below it are the keys that begin with the shared bytes and the last key's next byte
    left_loose : IsLoose P keys nodes part.front_of q left
    left_loose = record {
      within = in_q;
      before = rises;
      stands = subst (λ (g : Bytes). StandsFor P keys nodes part.front_of g child) left_front part.child;
    }

    old_loose : (e : LooseEdge) → Contains es e → IsLoose P keys nodes part.front_of q e
    old_loose e m = record {
      within = (let d : e.depth < c + 1 = part.deeper e m in omega arith);
      before = old_byte e m;
      stands = subst (λ (g : Bytes). StandsFor P keys nodes part.front_of g e.edge.to) (old_front e m) (part.loose e m).stands;
    }

    each : (Q : LooseEdge → Type 0) → ((e : LooseEdge) → Contains es e → Q e) → Q left → (e : LooseEdge) → Contains (es ++ left ∷ []) e → Q e
    each Q old new e m = elim (Contains-append_cases es (left ∷ []) e m) [
      | inl n ↦ old e n
      | inr n ↦ elim (Member-from_Contains e (left ∷ []) n) [ inl s ↦ subst Q s new | inr z ↦ absurd z ]
    ]

    old_rise : (e : LooseEdge) → Contains es e → (e.depth < c) ⊎ ((e.depth ≡ c) × (e.edge.byte < get_or k c 0))
    old_rise e m =
        let d : e.depth < c + 1 = part.deeper e m in
        elim (cases_lt e.depth c) [
          | inl lt ↦ inl lt
          | inr le ↦ let s : e.depth ≡ c = omega arith in inr (s, subst (λ (n : ℕ). e.edge.byte < get_or k n 0) s (part.loose e m).before)
        ]

    -- a list that was below the child or a loose edge is below a loose edge
    goes : (l : Bytes) → (Begins (take (c + 1) k) l ⊎ ((e : LooseEdge) × Contains es e × Begins (loose_front k e) l)) → (e : LooseEdge) × Contains (es ++ left ∷ []) e × Begins (loose_front q e) l
    goes l (inl b) = (left, Contains-push es left, subst (λ (g : Bytes). Begins g l) left_front b)
    goes l (inr t) = (t.0, Contains-append_left es (left ∷ []) t.0 t.1, subst (λ (g : Bytes). Begins g l) (old_front t.0 t.1) t.2)

    -- at the next key, the child of the last key becomes a loose edge
    pub part_next : ((j : ℕ) (l : Bytes) → keys j ≡ Some l → less k l ≡ true → (j ≡ i) ⊎ (less q l ≡ true)) → IsPart P keys nodes q (es ++ left ∷ []) (length q) (Leaf i)
    part_next next = record {
      front_of = part.front_of;
      made = part.made;
      loose = each (IsLoose P keys nodes part.front_of q) old_loose left_loose;
      deeper = each (λ e. e.depth < length q) (λ e m. let d : e.depth < c + 1 = part.deeper e m in omega arith) in_q;
      rise = Rise-append es left part.rise old_rise;
      within = omega arith;
      child = leaf_stands P keys nodes part.front_of unrelated i q is;
      under = λ n a. inr (goes (part.front_of n) (part.under n a));
      below = λ j l e. elim (part.below j l e) [
        | inl b ↦ inr (inl (goes l (inl b)))
        | inr t ↦ elim t [
          | inl u ↦ inr (inl (goes l (inr u)))
          | inr u ↦ elim (next j l e u) [ inl s ↦ inl (whole_key i j keys q l is e s) | inr s ↦ inr (inr s) ]
        ]
      ];
    }

-- at the end, no edge is loose
none_loose : {P : ℕ} → (keys : ℕ → Option Bytes) (nodes : ℕ → Option Node) (k : Bytes) (c : Child) (es : List LooseEdge) → IsPart P keys nodes k es 0 c → es ≡ []
none_loose keys nodes k c [] p = refl
none_loose keys nodes k c (e ∷ es) p = absurd (let a = p.deeper e (Contains-from_Member e (e ∷ es) (inl refl)) in omega arith)

-- and the child is the root of a tree
pub shape_closed : {P : ℕ} → (keys : ℕ → Option Bytes) (nodes : ℕ → Option Node) (k : Bytes) (c : Child) (es : List LooseEdge) → IsPart P keys nodes k es 0 c → Shape P keys nodes (Some c)
shape_closed {P} keys nodes k c es p = shape_built keys nodes k c (subst (λ (z : List LooseEdge). IsPart P keys nodes k z 0 c) (none_loose keys nodes k c es p) p)
