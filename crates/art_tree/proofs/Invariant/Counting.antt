-- The number of nodes, and the number of edges of a node.
use Rattle.std.proofs.Common.{◌≡◌, ◌≢◌, ℕ, zero, suc, ◌+◌, ◌*◌, ◌/◌, ◌%◌, ◌<◌, ◌≤◌, true, false, List, [], ◌∷◌, ◌++◌, length, map, refl, ap, arith, sym, subst, Option, Some, None, IsSome, is_some, count_by, cond, get_or, ◌∙◌, inl, inr, eq-eqb, nat_cmp, filter_map, slice_get}
use Rattle.std.proofs.lemmas.Bool.{cases_eq, cases_order, false_from_ne_true, cond-false}
use Rattle.std.proofs.lemmas.Bool.Decides.{eqb_tells}
use Rattle.std.proofs.lemmas.List.{length-append, length-map}
use Rattle.std.proofs.lemmas.List.Sums.{sum_by-cons}
use Rattle.std.specs.Cmp.{nat_cmp_total, both_ways}
use Rattle.std.specs.Cmp.Lexicographic.{nat_list_cmp_total}
use Rattle.std.proofs.lemmas.Map.Lookups.{exact_bytes, exact_unsigned}
use Rattle.std.specs.FinSet as set
use Rattle.blart_keys.specs.Content.{IsContent, under}
use Rattle.blart_keys.specs.Fronts.{commons, fronts, parts}
use Rattle.blart_keys.proofs.PartLemmas.{Branch}
use Rattle.blart_keys.proofs.RankLemmas.{Member, Member-append_left, Member-append_right, Member-append_cases}
use Rattle.blart_keys.proofs.FrontLemmas.{Branches, branches_at_front, front_at_branches}
use Rattle.blart_keys.proofs.FrontSizes.{member_of_set, set_has_member, Distinct, same_members, len_of_distinct, parts_has, parts_of}
use Rattle.art_tree.specs.Begins.{Bytes, Begins, next_byte}
use Rattle.art_kinds.specs.Edges.{child_at, AscendsAbove, Ascends}
use Rattle.art_tree.specs.Leaves.{Numbered, AreDistinct, bytes, keys_in}
use Rattle.art_slots.specs.Store.{slot_at, used_count}
use Rattle.art_kinds.specs.Nodes.{Node, Nodes, store_of, at, live}
use Rattle.art_kinds.proofs.CallerLemmas.{at_is}
use Rattle.art_tree.specs.Invariant.Shape.{Shape, NodeFits}
use Rattle.art_kinds.specs.declared.records.ids.Child.{Child}
use Rattle.art_kinds.specs.declared.records.ids.Edge.{Edge}
use Rattle.blart_keys.proofs.Options.{is_some as is_there, some_of, same_some, not_some}
use Rattle.art_tree.proofs.BeginsLemmas.{Begins-from_begins, begins-from_Begins, Begins-more, Begins-next, Begins-edge_front}
use Rattle.art_tree.proofs.Invariant.Growing.{some_key}
use Rattle.art_tree.proofs.NumberedPairs.Keys.{key_of_member, member_of_key}
use Rattle.art_tree.proofs.Invariant.SmallShapes.{node_at}

-- ---- the records in slots

module _ {A B : Type 0} where
  -- the values of f at the numbers that have a record
  abbrev pub at_live : (ℕ → A) → List (Option B) → List A
  at_live f [] = []
  at_live f (None ∷ os) = at_live (λ n. f (suc n)) os
  at_live f (Some x ∷ os) = f zero ∷ at_live (λ n. f (suc n)) os

  length-at_live : (f : ℕ → A) (os : List (Option B)) → length (at_live f os) ≡ count_by is_some os
  length-at_live f [] = refl
  length-at_live f (None ∷ os) = none (length-at_live (λ n. f (suc n)) os) ∙ sym (sum_by-cons (λ (o : Option B). cond (is_some o) 1 0) None os)
    where
      none : {n m : ℕ} → n ≡ m → n ≡ 0 + m
      none e = omega arith
  length-at_live f (Some x ∷ os) = next (length-at_live (λ n. f (suc n)) os) ∙ sym (sum_by-cons (λ (o : Option B). cond (is_some o) 1 0) (Some x) os)
    where
      next : {n m : ℕ} → n ≡ m → suc n ≡ 1 + m
      next e = omega arith

  of_live : (f : ℕ → A) (os : List (Option B)) (a : A) → Member a (at_live f os) → (m : ℕ) × IsSome (get_or os m None) × (f m ≡ a)
  of_live f [] a m = absurd m
  of_live f (None ∷ os) a m = let r = of_live (λ n. f (suc n)) os a m in (suc r.0, r.1, r.2)
  of_live f (Some x ∷ os) a (inl e) = (zero, refl, e)
  of_live f (Some x ∷ os) a (inr m) = let r = of_live (λ n. f (suc n)) os a m in (suc r.0, r.1, r.2)

  live_there : (f : ℕ → A) (os : List (Option B)) (m : ℕ) → IsSome (get_or os m None) → Member (f m) (at_live f os)
  live_there f [] m h = absurd (not_some {X = B} None refl h)
  live_there f (None ∷ os) zero h = absurd (not_some {X = B} None refl h)
  live_there f (None ∷ os) (suc m) h = live_there (λ n. f (suc n)) os m h
  live_there f (Some x ∷ os) zero h = inl refl
  live_there f (Some x ∷ os) (suc m) h = inr (live_there (λ n. f (suc n)) os m h)

distinct_live : {B : Type 0} (f : ℕ → Bytes) (os : List (Option B)) → ((n m : ℕ) → IsSome (get_or os n None) → IsSome (get_or os m None) → f n ≡ f m → n ≡ m) → Distinct nat_list_cmp_total exact_bytes (at_live f os)
distinct_live f [] h = tt
distinct_live f (None ∷ os) h = distinct_live (λ n. f (suc n)) os (λ n m a b e. (let s : suc n ≡ suc m = h (suc n) (suc m) a b e in omega arith))
distinct_live f (Some x ∷ os) h = (
  (λ k. let r = of_live (λ n. f (suc n)) os (f zero) k in let s : suc r.0 ≡ zero = h (suc r.0) zero r.1 refl r.2 in omega arith),
  distinct_live (λ n. f (suc n)) os (λ n m a b e. (let s : suc n ≡ suc m = h (suc n) (suc m) a b e in omega arith)),
)

-- two lists of distinct items with no common item are distinct together
distinct_append : (xs ys : List Bytes) → Distinct nat_list_cmp_total exact_bytes xs → Distinct nat_list_cmp_total exact_bytes ys → ((a : Bytes) → Member a xs → Member a ys → ⊥) → Distinct nat_list_cmp_total exact_bytes (xs ++ ys)
distinct_append [] ys d e off = e
distinct_append (x ∷ xs) ys d e off = (
  (λ m. elim (Member-append_cases x xs ys m) [ inl p ↦ d.0 p | inr p ↦ off x (inl refl) p ]),
  distinct_append xs ys d.1 e (λ a p q. off a (inr p) q),
)

-- ---- the records in the stores of the four kinds

module _ (f : ℕ → Bytes) (s : Nodes) where
  -- the values of f at the numbers that have a node, of this many kinds from this kind on
  abbrev pub at_kinds : ℕ → ℕ → List Bytes
  at_kinds k zero = []
  at_kinds k (suc n) = at_live (λ i. f (4 * i + k)) (store_of s k).slots ++ at_kinds (suc k) n

  length-at_kinds : length (at_kinds 0 4) ≡ live s
  length-at_kinds =
      let a : length (at_live (λ i. f (4 * i + 0)) s.fours.slots) ≡ used_count s.fours = length-at_live (λ i. f (4 * i + 0)) s.fours.slots in
      let b : length (at_live (λ i. f (4 * i + 1)) s.sixteens.slots) ≡ used_count s.sixteens = length-at_live (λ i. f (4 * i + 1)) s.sixteens.slots in
      let c : length (at_live (λ i. f (4 * i + 2)) s.forty_eights.slots) ≡ used_count s.forty_eights = length-at_live (λ i. f (4 * i + 2)) s.forty_eights.slots in
      let d : length (at_live (λ i. f (4 * i + 3)) s.fulls.slots) ≡ used_count s.fulls = length-at_live (λ i. f (4 * i + 3)) s.fulls.slots in
      omega (arith, a, b, c, d, length-append (at_live (λ i. f (4 * i + 0)) s.fours.slots) (at_kinds 1 3), length-append (at_live (λ i. f (4 * i + 1)) s.sixteens.slots) (at_kinds 2 2), length-append (at_live (λ i. f (4 * i + 2)) s.forty_eights.slots) (at_kinds 3 1), length-append (at_live (λ i. f (4 * i + 3)) s.fulls.slots) (at_kinds 4 0))

  of_kinds : (k n : ℕ) → k + n ≤ 4 → (a : Bytes) → Member a (at_kinds k n) → (m : ℕ) × (k ≤ m % 4) × IsSome (at s m) × (f m ≡ a)
  of_kinds k zero l a h = absurd h
  of_kinds k (suc n) l a h = elim (Member-append_cases a (at_live (λ i. f (4 * i + k)) (store_of s k).slots) (at_kinds (suc k) n) h) [
    | inl p ↦ (
        let r = of_live (λ i. f (4 * i + k)) (store_of s k).slots a p in
        (4 * r.0 + k, omega arith, same_some (slot_at (store_of s k) r.0) (at s (4 * r.0 + k)) (sym (at_is s (4 * r.0 + k) k r.0 (omega arith) (omega arith))) r.1, r.2))
    | inr p ↦ (let r = of_kinds (suc k) n (omega arith) a p in let lo : suc k ≤ r.0 % 4 = r.1 in (r.0, omega arith, r.2, r.3))
  ]

  kinds_there : (k n m : ℕ) → k ≤ m % 4 → m % 4 < k + n → IsSome (at s m) → Member (f m) (at_kinds k n)
  kinds_there k zero m l h some = absurd (omega arith)
  kinds_there k (suc n) m l h some = elim (cases_eq (m % 4) k) [
    | inl p ↦ (
        let e : 4 * (m / 4) + k ≡ m = omega arith in
        let t : Member (f (4 * (m / 4) + k)) (at_live (λ i. f (4 * i + k)) (store_of s k).slots) = live_there (λ i. f (4 * i + k)) (store_of s k).slots (m / 4) (same_some (at s m) (slot_at (store_of s k) (m / 4)) (at_is s m k (m / 4) p refl) some) in
        Member-append_left (f m) (at_live (λ i. f (4 * i + k)) (store_of s k).slots) (at_kinds (suc k) n) (subst (λ z. Member (f z) (at_live (λ i. f (4 * i + k)) (store_of s k).slots)) e t))
    | inr p ↦ Member-append_right (f m) (at_live (λ i. f (4 * i + k)) (store_of s k).slots) (at_kinds (suc k) n) (kinds_there (suc k) n m (omega arith) (omega arith) some)
  ]

  module _ (apart : (n m : ℕ) → IsSome (at s n) → IsSome (at s m) → f n ≡ f m → n ≡ m) where
    live_apart : (k : ℕ) → k < 4 → (n m : ℕ) → IsSome (slot_at (store_of s k) n) → IsSome (slot_at (store_of s k) m) → f (4 * n + k) ≡ f (4 * m + k) → n ≡ m
    live_apart k l n m a b e =
        let there : (i : ℕ) → IsSome (slot_at (store_of s k) i) → IsSome (at s (4 * i + k)) = λ i h. same_some (slot_at (store_of s k) i) (at s (4 * i + k)) (sym (at_is s (4 * i + k) k i (omega arith) (omega arith))) h in
        let q : 4 * n + k ≡ 4 * m + k = apart (4 * n + k) (4 * m + k) (there n a) (there m b) e in
        omega arith

    distinct_kinds : (k n : ℕ) → k + n ≤ 4 → Distinct nat_list_cmp_total exact_bytes (at_kinds k n)
    distinct_kinds k zero l = tt
    distinct_kinds k (suc n) l =
        distinct_append (at_live (λ i. f (4 * i + k)) (store_of s k).slots) (at_kinds (suc k) n) (distinct_live (λ i. f (4 * i + k)) (store_of s k).slots (live_apart k (omega arith))) (distinct_kinds (suc k) n (omega arith)) (λ a p q.
        let r = of_live (λ i. f (4 * i + k)) (store_of s k).slots a p in
        let t = of_kinds (suc k) n (omega arith) a q in
        let here : IsSome (at s (4 * r.0 + k)) = same_some (slot_at (store_of s k) r.0) (at s (4 * r.0 + k)) (sym (at_is s (4 * r.0 + k) k r.0 (omega arith) (omega arith))) r.1 in
        let e : 4 * r.0 + k ≡ t.0 = apart (4 * r.0 + k) t.0 here t.2 (r.2 ∙ sym t.3) in
        let lo : suc k ≤ t.0 % 4 = t.1 in
        omega arith)

-- ---- the bytes of edges

byte_has_kid : (es : List Edge) (b : ℕ) → Member b (map (λ (e : Edge). e.byte) es) → IsSome (child_at es b)
byte_has_kid [] b m = absurd m
byte_has_kid (e ∷ es) b (inl h) = rw (eq-eqb e.byte b h) refl
byte_has_kid (e ∷ es) b (inr m) = elim (eqb_tells e.byte b) [ inl h ↦ rw h.0 refl | inr h ↦ rw h.0 (byte_has_kid es b m) ]

kid_has_byte : (es : List Edge) (b : ℕ) → IsSome (child_at es b) → Member b (map (λ (e : Edge). e.byte) es)
kid_has_byte [] b h = absurd (not_some {X = Child} None refl h)
kid_has_byte (e ∷ es) b h = elim (eqb_tells e.byte b) [ inl p ↦ inl p.1 | inr p ↦ inr (kid_has_byte es b (rw p.0 at h)) ]

above_all : (es : List Edge) (b c : ℕ) → AscendsAbove b es → Member c (map (λ (e : Edge). e.byte) es) → b < c
above_all [] b c a m = absurd m
above_all (e ∷ es) b c a (inl h) = let l : b < e.byte = a.0 in omega arith
above_all (e ∷ es) b c a (inr m) = let l : b < e.byte = a.0 in let k : e.byte < c = above_all es e.byte c a.1 m in omega arith

ascends_rest : (e : Edge) (es : List Edge) → Ascends (e ∷ es) → Ascends es
ascends_rest e [] a = tt
ascends_rest e (d ∷ es) a = a.1

distinct_bytes : (es : List Edge) → Ascends es → Distinct nat_cmp_total exact_unsigned (map (λ (e : Edge). e.byte) es)
distinct_bytes [] a = tt
distinct_bytes (e ∷ es) a = ((λ m. let l : e.byte < e.byte = above_all es e.byte e.byte a m in omega arith), distinct_bytes es (ascends_rest e es a))

-- ---- nodes and fronts

module _ {P : ℕ} {K V : Type 0} (key_bytes : K → Bytes) (pairs : List (Numbered K V)) (content : IsContent (bytes key_bytes) pairs) (distinct : AreDistinct pairs) (nodes : ℕ → Option Node) (root : Option Child) (s : Shape P (keys_in key_bytes pairs) nodes root) where
  -- two keys that part at f, the lesser first
  branch_of : (f a b : Bytes) → Begins f a → Begins f b → length f < length a → length f < length b → next_byte f a < next_byte f b → Branch f a b
  branch_of f a b fa fb la lb l = record {
    low = next_byte f a;
    high = next_byte f b;
    below = l;
    first = begins-from_Begins (f ++ next_byte f a ∷ []) a (Begins-more f a fa la);
    second = begins-from_Begins (f ++ next_byte f b ∷ []) b (Begins-more f b fb lb);
  }

  branches_at_node : (n : ℕ) (x : Node) → nodes n ≡ Some x → Branches (bytes key_bytes) pairs (s.front_of n)
  branches_at_node n x is =
      let f : Bytes = s.front_of n in
      let t = s.node n x is in
      let p = t.parts in
      let u = member_of_key key_bytes pairs p.i p.k p.k_is in
      let v = member_of_key key_bytes pairs p.j p.l p.l_is in
      let lk : length f < length p.k = t.longer p.i p.k p.k_is p.k_front in
      let ll : length f < length p.l = t.longer p.j p.l p.l_is p.l_front in
      elim (cases_order (next_byte f p.k) (next_byte f p.l)) [
        | inl e ↦ absurd (p.differ e)
        | inr (inl l) ↦ record { x = u.0; y = v.0; x_there = u.1; y_there = v.1; branch = rw (u.3, v.3) (branch_of f p.k p.l p.k_front p.l_front lk ll l) }
        | inr (inr l) ↦ record { x = v.0; y = u.0; x_there = v.1; y_there = u.1; branch = rw (u.3, v.3) (branch_of f p.l p.k p.l_front p.k_front ll lk l) }
      ]

  -- each node's front is among the fronts of the pairs
  pub front_at_node : (n : ℕ) → IsSome (nodes n) → set.contains (fronts (bytes key_bytes) pairs) (s.front_of n) ≡ true
  front_at_node n h = let x = some_of (nodes n) h in front_at_branches (bytes key_bytes) pairs (s.front_of n) content (branches_at_node n x.0 x.1)

  -- and each of these is the front of a node
  pub node_at_front : (f : Bytes) → set.contains (fronts (bytes key_bytes) pairs) f ≡ true → (n : ℕ) × IsSome (nodes n) × (s.front_of n ≡ f)
  node_at_front f h =
      let b = branches_at_front (bytes key_bytes) pairs f content h in
      let low : Begins (f ++ b.branch.low ∷ []) (bytes key_bytes b.x) = Begins-from_begins (f ++ b.branch.low ∷ []) (bytes key_bytes b.x) b.branch.first in
      let high : Begins (f ++ b.branch.high ∷ []) (bytes key_bytes b.y) = Begins-from_begins (f ++ b.branch.high ∷ []) (bytes key_bytes b.y) b.branch.second in
      node_at (keys_in key_bytes pairs) nodes root s f (record {
        i = b.x.0;
        j = b.y.0;
        k = bytes key_bytes b.x;
        l = bytes key_bytes b.y;
        k_is = key_of_member key_bytes pairs b.x distinct b.x_there;
        l_is = key_of_member key_bytes pairs b.y distinct b.y_there;
        k_front = Begins-edge_front f (bytes key_bytes b.x) b.branch.low low;
        l_front = Begins-edge_front f (bytes key_bytes b.y) b.branch.high high;
        differ = λ e. (let z : b.branch.low ≡ b.branch.high = sym (Begins-next f (bytes key_bytes b.x) b.branch.low low) ∙ e ∙ Begins-next f (bytes key_bytes b.y) b.branch.high high in let l : b.branch.low < b.branch.high = b.branch.below in omega arith);
      })

  -- bytes that are no node's front are not among the fronts
  pub no_front : (f : Bytes) → ((n : ℕ) → IsSome (nodes n) → s.front_of n ≢ f) → set.contains (fronts (bytes key_bytes) pairs) f ≡ false
  no_front f h = false_from_ne_true _ (λ t. let r = node_at_front f t in h r.0 r.1 r.2)

  -- and they have no parts
  pub no_parts : (f : Bytes) → ((n : ℕ) → IsSome (nodes n) → s.front_of n ≢ f) → set.len (parts (bytes key_bytes) pairs f) ≡ 0
  no_parts f h =
      ap (λ (p : set.FinSet nat_cmp). set.len p) (cond-false (set.contains (fronts (bytes key_bytes) pairs) f) (set.from_list {R = nat_cmp} (filter_map (λ x. slice_get (bytes key_bytes x) (length f)) (under (bytes key_bytes) pairs f))) set.empty (no_front f h))
      ∙ set.len-empty nat_cmp

  -- the bytes of a node's edges are the parts at its front
  parts_are : (n : ℕ) (x : Node) → nodes n ≡ Some x → parts (bytes key_bytes) pairs (s.front_of n) ≡ set.from_list (map (λ (e : Edge). e.byte) x.edges)
  parts_are n x is = set.same_set nat_cmp_total exact_unsigned (parts (bytes key_bytes) pairs f) (set.from_list (map (λ (e : Edge). e.byte) x.edges)) (λ b. both_ways (set.contains (parts (bytes key_bytes) pairs f) b) (set.contains (set.from_list {R = nat_cmp} (map (λ (e : Edge). e.byte) x.edges)) b) (there b) (back b))
    where
      f : Bytes
      f = s.front_of n

      t : NodeFits (keys_in key_bytes pairs) nodes s.front_of (s.front_of n) x
      t = s.node n x is

      here : set.contains (fronts (bytes key_bytes) pairs) f ≡ true
      here = front_at_node n (is_there (nodes n) x is)

      there : (b : ℕ) → set.contains (parts (bytes key_bytes) pairs f) b ≡ true → set.contains (set.from_list {R = nat_cmp} (map (λ (e : Edge). e.byte) x.edges)) b ≡ true
      there b h =
          let r = parts_of (bytes key_bytes) pairs f b here h in
          let k : Bytes = bytes key_bytes r.0 in
          let fb : Begins (f ++ b ∷ []) k = Begins-from_begins (f ++ b ∷ []) k r.2 in
          let e : IsSome (child_at x.edges (next_byte f k)) = t.edge r.0.0 k (key_of_member key_bytes pairs r.0 distinct r.1) (Begins-edge_front f k b fb) in
          set_has_member nat_cmp_total exact_unsigned (map (λ (e : Edge). e.byte) x.edges) b (kid_has_byte x.edges b (same_some (child_at x.edges (next_byte f k)) (child_at x.edges b) (ap (child_at x.edges) (Begins-next f k b fb)) e))

      back : (b : ℕ) → set.contains (set.from_list {R = nat_cmp} (map (λ (e : Edge). e.byte) x.edges)) b ≡ true → set.contains (parts (bytes key_bytes) pairs f) b ≡ true
      back b h =
          let c = some_of (child_at x.edges b) (byte_has_kid x.edges b (member_of_set nat_cmp_total exact_unsigned (map (λ (e : Edge). e.byte) x.edges) b h)) in
          let r = some_key (keys_in key_bytes pairs) nodes root s (f ++ b ∷ []) c.0 (t.below b c.0 c.1) in
          let u = member_of_key key_bytes pairs r.0 r.1 r.2 in
          parts_has (bytes key_bytes) pairs f b u.0 here u.1 (rw u.3 (begins-from_Begins (f ++ b ∷ []) r.1 r.3))

  -- a node has as many edges as there are parts at its front
  pub edges_are_parts : (n : ℕ) (x : Node) → nodes n ≡ Some x → length x.edges ≡ set.len (parts (bytes key_bytes) pairs (s.front_of n))
  edges_are_parts n x is =
      sym (ap (λ (p : set.FinSet nat_cmp). set.len p) (parts_are n x is) ∙ len_of_distinct nat_cmp_total exact_unsigned (map (λ (e : Edge). e.byte) x.edges) (distinct_bytes x.edges (s.node n x is).ascends) ∙ length-map x.edges (λ (e : Edge). e.byte))

-- there are as many nodes as fronts
pub nodes_are_fronts : {P : ℕ} → {K V : Type 0} (key_bytes : K → Bytes) (pairs : List (Numbered K V)) (st : Nodes) (root : Option Child) → IsContent (bytes key_bytes) pairs → AreDistinct pairs → Shape P (keys_in key_bytes pairs) (at st) root
    → live st ≡ set.len (fronts (bytes key_bytes) pairs)
nodes_are_fronts key_bytes pairs st root content distinct s =
    sym (ap (λ (p : set.FinSet _). set.len p) same ∙ len_of_distinct nat_list_cmp_total exact_bytes (at_kinds s.front_of st 0 4) (distinct_kinds s.front_of st (λ n m a b e. s.apart n m a b e) 0 4 (omega arith)) ∙ length-at_kinds s.front_of st)
  where
    same : fronts (bytes key_bytes) pairs ≡ set.from_list (at_kinds s.front_of st 0 4)
    same = same_members nat_list_cmp_total exact_bytes (commons (bytes key_bytes) pairs) (at_kinds s.front_of st 0 4)
        (λ f m.
        let r = node_at_front key_bytes pairs content distinct (at st) root s f (set_has_member nat_list_cmp_total exact_bytes (commons (bytes key_bytes) pairs) f m) in
        subst (λ (g : Bytes). Member g (at_kinds s.front_of st 0 4)) r.2 (kinds_there s.front_of st 0 4 r.0 (omega arith) (omega arith) r.1))
        (λ f m.
        let r = of_kinds s.front_of st 0 4 (omega arith) f m in
        subst (λ (g : Bytes). Member g (commons (bytes key_bytes) pairs)) r.3 (member_of_set nat_list_cmp_total exact_bytes (commons (bytes key_bytes) pairs) (s.front_of r.0) (front_at_node key_bytes pairs content distinct (at st) root s r.0 r.2)))
