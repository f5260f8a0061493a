-- The nodes whose fronts begin with the front of an edge are below the node that the edge leads to.
use Rattle.std.proofs.Common.{◌≡◌, ◌≢◌, ℕ, zero, suc, ◌+◌, ◌<◌, ◌≤◌, [], ◌∷◌, ◌++◌, length, Bool, true, false, not, ◌&&◌, refl, ap, arith, sym, subst, Option, Some, None, IsSome, ◌∙◌, inl, inr, eqb, length-append}
use Rattle.std.proofs.lemmas.Bool.{false_from_ne_true, cases_lt}
use Rattle.std.proofs.lemmas.Bool.Decides.{eqb_tells}
use Rattle.blart_keys.specs.Bytes.{begins}
use Rattle.art_tree.specs.Begins.{Bytes, Begins, next_byte}
use Rattle.art_kinds.specs.Nodes.{Node}
use Rattle.art_kinds.specs.Edges.{child_at}
use Rattle.art_kinds.specs.declared.records.ids.Child.{Child}
use Rattle.art_kinds.specs.declared.records.ids.Child.TheVariants.{Leaf, Inner}
use Rattle.art_tree.specs.Invariant.EdgesAbove.{LeadsTo, edge_front}
use Rattle.art_tree.specs.Invariant.Shape.{Shape, CoversLeaf, CoversNode}
use Rattle.art_tree.proofs.BeginsLemmas.{Begins-from_begins, begins-from_Begins, Begins-length, Begins-trans, Begins-equal, Begins-edge_front, Begins-more, next_byte-front}
use Rattle.art_tree.proofs.Invariant.Growing.{covers_above, Parts-within, Parts-two}
use Rattle.art_tree.proofs.Invariant.OneEdge.{one_edge}
use Rattle.art_tree.specs.Calls.Pruning.{Loose, LeadsIn, FreesSubtree}
use Rattle.art_tree.proofs.Ways.WaysDown.{edges_some}
use Rattle.blart_keys.proofs.Options.{is_some, some_of, none_of}

module _ {P : ℕ} (keys : ℕ → Option Bytes) (nodes : ℕ → Option Node) (root : Option Child) (s : Shape P keys nodes root) where
  -- no node's front begins with a prefix that a leaf covers
  pub above_leaf : (m : ℕ) → IsSome (nodes m) → (h : Bytes) (j : ℕ) → CoversLeaf keys h j → Begins h (s.front_of m) → ⊥
  above_leaf m live h j cov fm =
      let x = some_of (nodes m) live in
      let q = (s.node m x.0 x.1).parts in
      Parts-two keys (s.front_of m) q j (cov.only q.i q.k q.k_is (Begins-trans h (s.front_of m) q.k fm q.k_front)) (cov.only q.j q.l q.l_is (Begins-trans h (s.front_of m) q.l fm q.l_front))

  -- if a node covers a prefix of another node's front, its own front is a prefix of that front
  pub above_node : (m : ℕ) → IsSome (nodes m) → (h : Bytes) (n : ℕ) → CoversNode keys nodes s.front_of h n → Begins h (s.front_of m) → Begins (s.front_of n) (s.front_of m)
  above_node m live h n cov fm =
      let x = some_of (nodes m) live in
      let q = (s.node m x.0 x.1).parts in
      Parts-within keys (s.front_of m) (s.front_of n) q (cov.only q.i q.k q.k_is (Begins-trans h (s.front_of m) q.k fm q.k_front)) (cov.only q.j q.l q.l_is (Begins-trans h (s.front_of m) q.l fm q.l_front))

module _ {P : ℕ} (keys : ℕ → Option Bytes) (nodes : ℕ → Option Node) (root : Option Child) (s : Shape P keys nodes root) (g : Bytes) (top : ℕ) (covers : CoversNode keys nodes s.front_of g top) where
  abbrev f : ℕ → Bytes
  f n = s.front_of n

  -- whether a front begins with that of the edge
  abbrev pub goes : ℕ → Bool
  goes n = begins g (f n)

  abbrev fresh : ℕ → Bool
  fresh n = goes n && not (eqb n top)

  below : (m b x : ℕ) → LeadsIn nodes m b x → CoversNode keys nodes s.front_of (f m ++ b ∷ []) x
  below m b x l = (s.node m l.0 l.1).below b (Inner x) l.2

  longer : (m b x : ℕ) → LeadsIn nodes m b x → length (f m) < length (f x)
  longer m b x l =
      let a : length (f m ++ b ∷ []) ≤ length (f x) = Begins-length _ _ (below m b x l).front in
      let e : length (f m ++ b ∷ []) ≡ length (f m) + 1 = length-append (f m) (b ∷ []) in
      omega arith

  goes_on : (m b x : ℕ) → goes m ≡ true → LeadsIn nodes m b x → goes x ≡ true
  goes_on m b x h l = begins-from_Begins g (f x) (Begins-trans g (f m) (f x) (Begins-from_begins g (f m) h) (Begins-edge_front (f m) (f x) b (below m b x l).front))

  not_top : (m b : ℕ) → goes m ≡ true → LeadsIn nodes m b top → ⊥
  not_top m b h l =
      let a : length (f top) ≤ length (f m) = Begins-length _ _ (above_node keys nodes root s m (is_some (nodes m) l.0 l.1) g top covers (Begins-from_begins g (f m) h)) in
      let lt : length (f m) < length (f top) = longer m b top l in
      omega arith

  -- below a node, an edge leads to each other node below it
  edge_to : (r m n : ℕ) (x : Node) → nodes m ≡ Some x → goes m ≡ true → IsSome (nodes n) → Begins (f m) (f n) → n ≢ m → length (f n) ≤ length (f m) + r → (p : ℕ) × (b : ℕ) × (goes p ≡ true) × LeadsIn nodes p b n
  edge_to zero m n x is h live under off le =
      absurd (off (sym (s.apart m n (is_some (nodes m) x is) live (Begins-equal (f m) (f n) under (omega arith)))))
  edge_to (suc r) m n x is h live under off le =
      let t : Bytes = f m ++ next_byte (f m) (f n) ∷ [] in
      elim (cases_lt (length (f m)) (length (f n))) [
        | inr ge ↦ absurd (off (sym (s.apart m n (is_some (nodes m) x is) live (Begins-equal (f m) (f n) under ge))))
        | inl lt ↦
            let y = some_of (nodes n) live in
            let q = (s.node n y.0 y.1).parts in
            let mk : Begins (f m) q.k = Begins-trans (f m) (f n) q.k under q.k_front in
            let e : next_byte (f m) (f n) ≡ next_byte (f m) q.k = next_byte-front (f m) (f n) q.k q.k_front lt in
            let c = some_of (child_at x.edges (next_byte (f m) (f n))) (subst (λ (z : ℕ). IsSome (child_at x.edges z)) (sym e) ((s.node m x is).edge q.i q.k q.k_is mk)) in
            go r m n x c.0 is h live (Begins-more (f m) (f n) under lt) c.1 le (λ w y i k o u d. edge_to r w n y i k live o u d)
      ]
    where
      go : (r m n : ℕ) (x : Node) (c : Child) → nodes m ≡ Some x → goes m ≡ true → IsSome (nodes n) → Begins (f m ++ next_byte (f m) (f n) ∷ []) (f n) → child_at x.edges (next_byte (f m) (f n)) ≡ Some c → length (f n) ≤ length (f m) + suc r → ((w : ℕ) (y : Node) → nodes w ≡ Some y → goes w ≡ true → Begins (f w) (f n) → n ≢ w → length (f n) ≤ length (f w) + r → (p : ℕ) × (b : ℕ) × (goes p ≡ true) × LeadsIn nodes p b n) → (p : ℕ) × (b : ℕ) × (goes p ≡ true) × LeadsIn nodes p b n
      go r m n x (Leaf j) is h live under there le on = absurd (above_leaf keys nodes root s n live (f m ++ next_byte (f m) (f n) ∷ []) j ((s.node m x is).below (next_byte (f m) (f n)) (Leaf j) there) under)
      go r m n x (Inner w) is h live under there le on =
          let l : LeadsIn nodes m (next_byte (f m) (f n)) w = (x, is, there) in
          let cov = below m (next_byte (f m) (f n)) w l in
          let lt : length (f m) < length (f w) = longer m (next_byte (f m) (f n)) w l in
          elim (eqb_tells n w) [
            | inl e ↦ (m, next_byte (f m) (f n), h, subst (λ (z : ℕ). LeadsIn nodes m (next_byte (f m) (f n)) z) (sym e.1) l)
            | inr e ↦
                let y = some_of (nodes w) cov.live in
                on w y.0 y.1 (goes_on m (next_byte (f m) (f n)) w h l) (above_node keys nodes root s n live (f m ++ next_byte (f m) (f n) ∷ []) w cov under) e.1 (omega arith)
          ]

  pub loose_below : Loose goes nodes nodes top
  loose_below = record {
    fresh = fresh;
    rank = λ n. length (f n);
    kept = λ j h. refl;
    live = covers.live;
    own = begins-from_Begins g (f top) covers.front;
    some = λ m y is h.
        let q = (s.node m y is).parts in
        edges_some y.edges (next_byte (f m) q.k) ((s.node m y is).edge q.i q.k q.k_is q.k_front);
    down = λ m b x h l. ((below m b x l).live, goes_on m b x h l, longer m b x l);
    once = λ m b n d x h k l q. (let e = one_edge keys nodes root s n d m b x q.0 l.0 q.1 l.1 q.2 l.2 in e);
    headless = not_top;
    covered = λ n live h. elim (eqb_tells n top) [
      | inl e ↦ inl e.1
      | inr e ↦ let x = some_of (nodes top) covers.live in inr (edge_to (length (f n)) top n x.0 x.1 (begins-from_Begins g (f top) covers.front) live (above_node keys nodes root s n live g top covers (Begins-from_begins g (f n) h)) e.1 (omega arith))
    ];
    deeper = λ m b x y z h is there xz way.
        let l : LeadsIn nodes m b x = (y, is, there) in
        let lt : length (f m) < length (f x) = longer m b x l in
        let e1 : y.depth ≡ length (f m) = (s.node m y is).depth in
        let e2 : z.depth ≡ length (f x) = (s.node x z xz).depth in
        (fresh_is x (goes_on m b x h l) (λ e. not_top m b h (subst (λ (n : ℕ). LeadsIn nodes m b n) e l)), omega arith);
  }
    where
      fresh_is : (x : ℕ) → goes x ≡ true → x ≢ top → fresh x ≡ true
      fresh_is x h off = elim (eqb_tells x top) [ inl e ↦ absurd (off e.1) | inr e ↦ ap (λ t. goes x && not t) e.0 ∙ ap (λ t. t && true) h ]

module _ {P : ℕ} (keys : ℕ → Option Bytes) (nodes : ℕ → Option Node) (root : Option Child) (s : Shape P keys nodes root) where
  -- below an edge to a leaf there is no node
  pub frees_below_leaf : (above : Option (ℕ × ℕ)) (i : ℕ) → LeadsTo nodes root above (Leaf i) → FreesSubtree nodes nodes s.front_of (edge_front s.front_of above)
  frees_below_leaf above i leads = record {
    gone = λ m b. none_of (nodes m) (λ live. above_leaf keys nodes root s m live (edge_front s.front_of above) i (covers_above keys nodes root s above (Leaf i) leads) b);
    kept = λ m off. refl;
  }

  -- below an edge to a node are that node and those below it
  pub loose_under : (above : Option (ℕ × ℕ)) (top : ℕ) → LeadsTo nodes root above (Inner top) → Loose (λ n. begins (edge_front s.front_of above) (s.front_of n)) nodes nodes top
  loose_under above top leads = loose_below keys nodes root s (edge_front s.front_of above) top (covers_above keys nodes root s above (Inner top) leads)

  -- and once they are removed, the subtree is removed
  pub frees_below_node : (nodes' : ℕ → Option Node) (g : Bytes) → ((j : ℕ) → (begins g (s.front_of j) ≡ true → nodes' j ≡ None) × (begins g (s.front_of j) ≡ false → nodes' j ≡ nodes j)) → FreesSubtree nodes nodes' s.front_of g
  frees_below_node nodes' g h = record {
    gone = λ m b. (h m).0 (begins-from_Begins g (s.front_of m) b);
    kept = λ m off. (h m).1 (false_from_ne_true (begins g (s.front_of m)) (λ t. off (Begins-from_begins g (s.front_of m) t)));
  }
