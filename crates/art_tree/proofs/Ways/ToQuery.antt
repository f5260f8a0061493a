-- A descent by a query's bytes: the prefix that it has reached, and what is known then.
use Rattle.std.proofs.Common.{◌≡◌, ◌≢◌, ℕ, ◌+◌, ◌<◌, ◌≤◌, [], ◌∷◌, ◌++◌, length, get_or, ap, arith, sym, subst, Option, Some, None, IsSome, ◌∙◌, length-append}
use Rattle.art_tree.specs.Begins.{Bytes, Begins, next_byte}
use Rattle.art_kinds.specs.Nodes.{Node}
use Rattle.art_kinds.specs.Edges.{child_at}
use Rattle.art_tree.specs.Invariant.Shape.{Shape, CoversNode, NodeFits, RootFits}
use Rattle.art_tree.specs.Calls.Descents.{NoFront, IsOnlyFront}
use Rattle.art_kinds.specs.declared.records.ids.Child.{Child}
use Rattle.blart_keys.proofs.Options.{not_some, same_some}
use Rattle.art_tree.proofs.BeginsLemmas.{Begins-length, Begins-itself, Begins-more, Begins-next, next_byte-front}

module _ (keys : ℕ → Option Bytes) (q : Bytes) where
  -- each key that is a prefix of q begins with the front, which is no longer than q
  pub record HoldsFronts (front : Bytes) : Type 0 where
    pub holds : (j : ℕ) (k : Bytes) → keys j ≡ Some k → Begins k q → Begins front k
    pub short : length front ≤ length q

  -- this holds for the empty front
  pub fronts_start : HoldsFronts []
  fronts_start = record { holds = λ j k e b. tt; short = omega arith }

  -- no key has the bytes q
  abbrev pub IsAbsent : Type 0
  IsAbsent = (j : ℕ) → keys j ≡ Some q → ⊥

  -- if no key is a prefix of q, no key has its bytes
  pub absent : NoFront keys q → IsAbsent
  absent h j e = h j q e (Begins-itself q)

  module _ {P : ℕ} (nodes : ℕ → Option Node) (root : Option Child) (s : Shape P keys nodes root) where
    -- if there is no root, there is no key
    pub root_none : root ≡ None → NoFront keys q
    root_none is j k e b =
        let h : RootFits keys nodes s.front_of None = subst (λ (r : Option Child). RootFits keys nodes s.front_of r) is s.top in
        let f : keys j ≡ None = h j in
        cc

module _ {P : ℕ} {keys : ℕ → Option Bytes} (q : Bytes) {nodes : ℕ → Option Node} where
  module _ {root : Option Child} (s : Shape P keys nodes root) where
    module _ {n : ℕ} {x : Node} (is : nodes n ≡ Some x) {front : Bytes} (covers : CoversNode keys nodes s.front_of front n) (h : HoldsFronts keys q front) where
      fits : NodeFits keys nodes s.front_of (s.front_of n) x
      fits = s.node n x is

      in_node : (j : ℕ) (k : Bytes) → keys j ≡ Some k → Begins k q → Begins (s.front_of n) k
      in_node j k e b = covers.only j k e (h.holds j k e b)

      -- a key that is a prefix of q continues from the node with q's byte
      goes_on : (j : ℕ) (k : Bytes) → keys j ≡ Some k → Begins k q → Begins (s.front_of n ++ next_byte (s.front_of n) q ∷ []) k
      goes_on j k e b =
          let f : Bytes = s.front_of n in
          let fk : Begins f k = in_node j k e b in
          let l : length f < length k = fits.longer j k e fk in
          subst (λ (c : ℕ). Begins (f ++ c ∷ []) k) (next_byte-front f k q b l) (Begins-more f k fk l)

      -- if the node is at least as deep as q is long, no key is a prefix of q
      pub fronts_short : length q ≤ x.depth → NoFront keys q
      fronts_short h2 j k e b =
          let l : length (s.front_of n) < length k = fits.longer j k e (in_node j k e b) in
          let d : x.depth ≡ length (s.front_of n) = fits.depth in
          let m : length k ≤ length q = Begins-length k q b in
          omega arith

      -- nor if the node has no edge at q's byte
      pub fronts_none : {len : ℕ} → len ≡ x.depth → child_at x.edges (get_or q len 0) ≡ None → NoFront keys q
      fronts_none len_is none j k e b =
          let h : child_at x.edges (get_or q x.depth 0) ≡ None = ap (λ d. child_at x.edges (get_or q d 0)) (sym len_is) ∙ none in
          let f : Bytes = s.front_of n in
          let g : next_byte f k ≡ next_byte f q = Begins-next f k (next_byte f q) (goes_on j k e b) in
          let i : IsSome (child_at x.edges (next_byte f k)) = fits.edge j k e (in_node j k e b) in
          not_some (child_at x.edges (get_or q x.depth 0)) h (same_some (child_at x.edges (next_byte f k)) (child_at x.edges (get_or q x.depth 0)) (ap (child_at x.edges) (g ∙ ap (λ d. get_or q d 0) (sym fits.depth))) i)

      -- the descent continues along the edge at q's byte
      pub fronts_step : {len : ℕ} → len ≡ x.depth → len < length q → HoldsFronts keys q (s.front_of n ++ get_or q len 0 ∷ [])
      fronts_step len_is below =
          let g : Bytes = s.front_of n in
          let d : x.depth ≡ length g = fits.depth in
          let l : length (g ++ next_byte g q ∷ []) ≡ length g + 1 = length-append g (next_byte g q ∷ []) in
          subst (λ (z : ℕ). HoldsFronts keys q (g ++ get_or q z 0 ∷ [])) (sym (len_is ∙ d)) (record { holds = goes_on; short = omega arith })

module _ (keys : ℕ → Option Bytes) (q : Bytes) where
  -- if the only key that may be a prefix of q is not, no key is
  pub only_not : (i : ℕ) → IsOnlyFront keys q i → (l : Bytes) → keys i ≡ Some l → (Begins l q → ⊥) → NoFront keys q
  only_not i o l is never j k e b =
      let f : keys i ≡ Some k = ap keys (sym (o.only j k e b)) ∙ e in
      let h : k ≡ l = cc in
      never (subst (λ (k : Bytes). Begins k q) h b)

  -- and if it is not q, no key is q
  pub only_absent : (i : ℕ) → IsOnlyFront keys q i → keys i ≢ Some q → IsAbsent keys q
  only_absent i o other j e = other (ap keys (sym (o.only j q e (Begins-itself q))) ∙ e)
