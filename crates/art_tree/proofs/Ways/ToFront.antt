-- A descent to the node at a front.
use Rattle.std.proofs.Common.{◌≡◌, ◌≢◌, ℕ, ◌+◌, ◌<◌, ◌≤◌, [], ◌∷◌, ◌++◌, length, get_or, ap, sym, subst, ◌∙◌, Option, Some, None, IsSome, true, arith, length-append}
use Rattle.art_tree.specs.Begins.{Bytes, Begins, next_byte}
use Rattle.art_kinds.specs.Edges.{child_at, IsEnd}
use Rattle.art_kinds.specs.Nodes.{Node}
use Rattle.art_tree.specs.Invariant.Shape.{Shape, CoversNode, NodeFits, Parts}
use Rattle.art_tree.specs.Calls.Descents.{IsEndUnder, FindsNone, FindsNode}
use Rattle.art_kinds.specs.declared.records.ids.Child.{Child}
use Rattle.art_kinds.specs.declared.records.ids.Child.TheVariants.{Leaf, Inner}
use Rattle.art_kinds.specs.declared.records.ids.Edge.{Edge}
use Rattle.art_tree.proofs.BeginsLemmas.{Begins-length, Begins-trans, Begins-linear, Begins-equal, Begins-next, Begins-more, Begins-itself, next_byte-front}
use Rattle.art_tree.proofs.Invariant.Growing.{some_key, Parts-two}
use Rattle.blart_keys.proofs.Options.{some_of, not_some}
use Rattle.art_tree.proofs.Ways.Ends.{end_step}
use Rattle.art_tree.proofs.Ways.WaysDown.{WayDown, way_here}

module _ (keys : ℕ → Option Bytes) (nodes : ℕ → Option Node) (f : Bytes) where
  -- if a node has the front f, f begins with this prefix
  abbrev pub HoldsNode : (ℕ → Bytes) → Bytes → Type 0
  HoldsNode front_of front = (m : ℕ) → IsSome (nodes m) → front_of m ≡ f → Begins front f

  -- the descent to a node with the front f has reached a child
  abbrev pub Heads : (ℕ → Bytes) → Child → ℕ → ℕ → Type 0
  Heads front_of = WayDown keys nodes front_of (HoldsNode front_of) []

module _ {P : ℕ} {keys : ℕ → Option Bytes} {nodes : ℕ → Option Node} (f : Bytes) where
  module _ {root : Option Child} (s : Shape P keys nodes root) where
    -- two keys part at a node with the front f
    parting : (m : ℕ) → IsSome (nodes m) → s.front_of m ≡ f → Parts keys f
    parting m live e = let x = some_of (nodes m) live in subst (Parts keys) e (s.node m x.0 x.1).parts

    module _ {old now new : ℕ} where
      -- no node has the front f, and a stored key bounds the number of reads
      no_node : (c : Child) (h : Heads keys nodes f s.front_of c old now) → new ≤ now + 1 → ((m : ℕ) → IsSome (nodes m) → s.front_of m ≢ f) → FindsNone keys nodes s.front_of f old new
      no_node c h reads none =
          let k = some_key keys nodes root s h.front c h.covers in
          let l : length h.front ≤ length k.1 = Begins-length h.front k.1 k.3 in
          let few : now + 0 ≤ old + length h.front = h.few in
          record { none = none; leaf = k.0; key = k.1; is = k.2; few = omega arith }

      pub heads_leaf : {i : ℕ} → Heads keys nodes f s.front_of (Leaf i) old now → new ≤ now + 1 → FindsNone keys nodes s.front_of f old new
      heads_leaf {i} h reads = no_node (Leaf i) h reads (λ m live e.
          let p = parting m live e in
          let g = h.holds m live e in
          Parts-two keys f p i (h.covers.only p.i p.k p.k_is (Begins-trans h.front f p.k g p.k_front)) (h.covers.only p.j p.l p.l_is (Begins-trans h.front f p.l g p.l_front)))

    module _ {n old now : ℕ} {x : Node} (is : nodes n ≡ Some x) (h : Heads keys nodes f s.front_of (Inner n) old now) where
      fits : NodeFits keys nodes s.front_of (s.front_of n) x
      fits = s.node n x is

      -- the keys that part at f begin with the node's front
      first_under : (m : ℕ) (live : IsSome (nodes m)) (e : s.front_of m ≡ f) → Begins (s.front_of n) (parting m live e).k
      first_under m live e = let p = parting m live e in h.covers.only p.i p.k p.k_is (Begins-trans h.front f p.k (h.holds m live e) p.k_front)

      second_under : (m : ℕ) (live : IsSome (nodes m)) (e : s.front_of m ≡ f) → Begins (s.front_of n) (parting m live e).l
      second_under m live e = let p = parting m live e in h.covers.only p.j p.l p.l_is (Begins-trans h.front f p.l (h.holds m live e) p.l_front)

      pub heads_past : {new : ℕ} → length f < x.depth → new ≤ now + 1 → FindsNone keys nodes s.front_of f old new
      heads_past long reads = no_node (Inner n) h reads (λ m live e.
          let p = parting m live e in
          let d : x.depth ≡ length (s.front_of n) = fits.depth in
          let l : length f < length (s.front_of n) = omega arith in
          let a : next_byte f (s.front_of n) ≡ next_byte f p.k = next_byte-front f (s.front_of n) p.k (first_under m live e) l in
          let b : next_byte f (s.front_of n) ≡ next_byte f p.l = next_byte-front f (s.front_of n) p.l (second_under m live e) l in
          p.differ (sym a ∙ b))

      -- if a node has the front f, f continues from this node's front with its next byte
      goes_on : (m : ℕ) (live : IsSome (nodes m)) (e : s.front_of m ≡ f) → x.depth < length f → Begins (s.front_of n ++ next_byte (s.front_of n) f ∷ []) f
      goes_on m live e short =
          let p = parting m live e in
          let d : x.depth ≡ length (s.front_of n) = fits.depth in
          let under : Begins (s.front_of n) f = Begins-linear (s.front_of n) f p.k (first_under m live e) p.k_front (omega arith) in
          Begins-more (s.front_of n) f under (omega arith)

      pub heads_none : {len : ℕ} → len ≡ x.depth → len < length f → child_at x.edges (get_or f len 0) ≡ None → {new : ℕ} → new ≤ now + 1 →
          FindsNone keys nodes s.front_of f old new
      heads_none len_is below none reads = no_node (Inner n) h reads (λ m live e.
          let p = parting m live e in
          let short : x.depth < length f = omega arith in
          let d : x.depth ≡ length (s.front_of n) = fits.depth in
          let b : next_byte (s.front_of n) p.k ≡ next_byte (s.front_of n) f = Begins-next (s.front_of n) p.k (next_byte (s.front_of n) f) (Begins-trans (s.front_of n ++ next_byte (s.front_of n) f ∷ []) f p.k (goes_on m live e short) p.k_front) in
          not_some (child_at x.edges (next_byte (s.front_of n) p.k)) (ap (λ (z : ℕ). child_at x.edges z) (b ∙ ap (λ (z : ℕ). get_or f z 0) (sym (len_is ∙ d))) ∙ none) (fits.edge p.i p.k p.k_is (first_under m live e)))

      pub heads_on : {len : ℕ} → len ≡ x.depth → len < length f → HoldsNode keys nodes f s.front_of (s.front_of n ++ get_or f len 0 ∷ [])
      heads_on len_is below = λ m live e.
          subst (λ (z : ℕ). Begins (s.front_of n ++ get_or f z 0 ∷ []) f) (sym (len_is ∙ fits.depth)) (goes_on m live e (omega arith))

      -- the node's front is as long as f
      pub heads_at : {new count leaf : ℕ} (e : Edge) → x.depth ≡ length f → count ≡ length x.edges → IsEnd true x.edges e → IsEndUnder keys true (s.front_of n ++ e.byte ∷ []) leaf → ((key : Bytes) → keys leaf ≡ Some key → new + length (s.front_of n ++ e.byte ∷ []) ≤ now + 1 + length key) → FindsNode keys nodes s.front_of f old new count leaf
      heads_at {new = new} {leaf = leaf} e same counted least u reads =
          let d : x.depth ≡ length (s.front_of n) = fits.depth in
          let own : CoversNode keys nodes s.front_of (s.front_of n) n = record { live = h.covers.live; front = Begins-itself (s.front_of n); only = λ j k k_is b. b } in
          let few : now + 0 ≤ old + length (s.front_of n) = way_here s is h in
          let w = end_step keys nodes root s true (s.front_of n) n x is own e least leaf u in
          let r : new + length (s.front_of n ++ e.byte ∷ []) ≤ now + 1 + length w.key = reads w.key w.is in
          let z : length (s.front_of n ++ e.byte ∷ []) ≡ length (s.front_of n) + 1 = length-append (s.front_of n) (e.byte ∷ []) in
          record {
            number = n;
            node = x;
            is = is;
            as_long = sym d ∙ same;
            counted = counted;
            first = w;
            only = λ m live at_f.
                let p = parting m live at_f in
                Begins-equal (s.front_of n) f (Begins-linear (s.front_of n) f p.k (first_under m live at_f) p.k_front (omega arith)) (omega arith);
            few = omega arith;
          }
