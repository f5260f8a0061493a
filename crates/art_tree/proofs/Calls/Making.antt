-- A node is made of loose edges, one after another: the last of them, and one more.
use Rattle.std.proofs.Common.{◌≡◌, ◌≢◌, ℕ, zero, suc, ◌+◌, ◌-◌, ◌<◌, List, [], ◌∷◌, ◌++◌, length, take, drop, get_or, slice_get, Option, Some, None, IsSomeAnd, eqb, eq-eqb, false, refl, sym, ap, subst, ◌∙◌, inl, inr, arith}
use Rattle.std.proofs.lemmas.Bool.{ne_eqb, cases_eq}
use Rattle.std.proofs.lemmas.Bool.Decides.{eqb_tells}
use Rattle.std.proofs.lemmas.List.{take_more, take_all, map_more, get_or-drop, length-drop}
use Rattle.std.proofs.lemmas.Option.{get_or_from_slice_get, slice_get_within}
use Rattle.art_kinds.specs.Edges.{child_at, AscendsAbove, Ascends, AddsChild}
use Rattle.art_kinds.specs.Nodes.{Node, Renames, AddsEdgeTo}
use Rattle.art_kinds.specs.declared.records.ids.Edge.{Edge}
use Rattle.art_kinds.proofs.EdgeShifts.{same_edges}
use Rattle.art_kinds.proofs.CallerLemmas.{AscendsAbove-Ascends}
use Rattle.art_tree.specs.Calls.Building.{edges_of, last_depth, MakesNode, AddsLast}
use Rattle.art_tree.specs.declared.tree.build.LooseEdge.{LooseEdge}

-- ---- the last loose edge

-- an edge that is added is the last
last_depth-append : (es : List LooseEdge) (e : LooseEdge) → last_depth (es ++ e ∷ []) ≡ Some e.depth
last_depth-append [] e = refl
last_depth-append (x ∷ []) e = refl
last_depth-append (x ∷ y ∷ es) e = last_depth-append (y ∷ es) e

-- of the first n edges, the last is at index i, if n is i + 1
pub last_depth-take : (es : List LooseEdge) (i n : ℕ) (d : LooseEdge) → i < length es → n ≡ i + 1 → last_depth (take n es) ≡ Some (get_or es i d).depth
last_depth-take es i n d lt e =
    ap (λ (k : ℕ). last_depth (take k es)) e
    ∙ ap (λ (t : List LooseEdge). last_depth t) (take_more es i d lt)
    ∙ last_depth-append (take i es) (get_or es i d)

-- the edge at the last index is the last
pub last_depth-read : (es : List LooseEdge) (e : LooseEdge) → slice_get es (length es - 1) ≡ Some e → last_depth es ≡ Some e.depth
last_depth-read es e is =
    let lt : length es - 1 < length es = slice_get_within es (length es - 1) e is in
    ap (λ (t : List LooseEdge). last_depth t) (sym (take_all (length es) es (omega arith)))
    ∙ last_depth-take es (length es - 1) (length es) e lt (omega arith)
    ∙ ap (λ (x : LooseEdge). Some x.depth) (get_or_from_slice_get es (length es - 1) e e is)

-- ---- one more edge, the last

-- the byte of the last edge is greater
below_last : (b : ℕ) (es : List Edge) (e : Edge) → AscendsAbove b (es ++ e ∷ []) → b < e.byte
below_last b [] e a = a.0
below_last b (x ∷ es) e a = let h : b < x.byte = a.0 in let l : x.byte < e.byte = below_last x.byte es e a.1 in omega arith

-- so the edges before have no child at it
absent_before : (es : List Edge) (e : Edge) → Ascends (es ++ e ∷ []) → child_at es e.byte ≡ None
absent_before [] e a = refl
absent_before (x ∷ es) e a =
    let l : x.byte < e.byte = below_last x.byte es e a in
    let off : eqb x.byte e.byte ≡ false = ne_eqb x.byte e.byte (λ z. omega (arith, z)) in
    rw off (absent_before es e (AscendsAbove-Ascends x.byte (es ++ e ∷ []) a))

-- with the last edge, the child at its byte is its child
child_at-last : (es : List Edge) (e : Edge) → child_at es e.byte ≡ None → child_at (es ++ e ∷ []) e.byte ≡ Some e.to
child_at-last [] e n = rw (eq-eqb e.byte e.byte refl) refl
child_at-last (x ∷ es) e n =
    elim (eqb_tells x.byte e.byte) [
      | inl p ↦ let h : Some x.to ≡ None = rw p.0 at n in absurd cc
      | inr p ↦ rw p.0 (child_at-last es e (rw p.0 at n))
    ]

-- at other bytes the children are unchanged
child_at-others : (es : List Edge) (e : Edge) (c : ℕ) → c ≢ e.byte → child_at (es ++ e ∷ []) c ≡ child_at es c
child_at-others [] e c off = rw (ne_eqb e.byte c (λ z. off (sym z))) refl
child_at-others (x ∷ es) e c off =
    elim (eqb_tells x.byte c) [
      | inl p ↦ rw p.0 refl
      | inr p ↦ rw p.0 (child_at-others es e c off)
    ]

-- edges with one more child, at a byte greater than all others, have it at the end
added_last : (old new : List Edge) (e : Edge) → Ascends (old ++ e ∷ []) → AddsChild old new e.byte e.to → new ≡ old ++ e ∷ []
added_last old new e a adds =
    same_edges new (old ++ e ∷ []) adds.ascends a (λ b. elim (cases_eq b e.byte) [
      | inl p ↦ (
          let h : child_at new e.byte ≡ child_at (old ++ e ∷ []) e.byte = adds.added ∙ sym (child_at-last old e (absent_before old e a)) in
          subst (λ (z : ℕ). child_at new z ≡ child_at (old ++ e ∷ []) z) (sym p) h)
      | inr p ↦ adds.rest b p ∙ sym (child_at-others old e b p)
    ])

-- nodes with equal parts are equal
node_same : (x y : Node) (es : List Edge) → x.depth ≡ y.depth → x.prefix ≡ y.prefix → x.edges ≡ es → x ≡ record y { edges = es }
node_same x y es d p e =
    let f : ℕ → Node = λ z. record { depth = z; prefix = x.prefix; edges = x.edges } in
    let g : List ℕ → Node = λ z. record { depth = y.depth; prefix = z; edges = x.edges } in
    let h : List Edge → Node = λ z. record { depth = y.depth; prefix = y.prefix; edges = z } in
    ap f d ∙ ap g p ∙ ap h e

-- a node that gets a place for the edge, and then the edge
pub widened_last : (old mid new : ℕ → Option Node) (n m : ℕ) (e : Edge) (x : Node) → old n ≡ Some x → Ascends (x.edges ++ e ∷ []) → Renames old mid n m → AddsEdgeTo mid new m e.byte e.to → AddsLast old new n m e
widened_last old mid new n m e x is a moved adds = record {
  node = x;
  was = is;
  is = adds.is_is ∙ ap (λ (z : Node). Some z) (node_same adds.is x (x.edges ++ e ∷ []) (adds.depth ∙ ap (λ (z : Node). z.depth) same) (adds.prefix ∙ ap (λ (z : Node). z.prefix) same) (added_last x.edges adds.is.edges e a (subst (λ (z : Node). AddsChild z.edges adds.is.edges e.byte e.to) same adds.edges)));
  fresh = moved.fresh;
  gone = λ off. adds.others n (λ z. off (sym z)) ∙ moved.gone off;
  others = λ j offn offm. adds.others j offm ∙ moved.others j offn offm;
}
  where
    same : adds.was ≡ x
    same =
        let p : mid m ≡ Some adds.was = adds.was_is in
        let q : mid m ≡ Some moved.node = moved.is in
        let r : old n ≡ Some moved.node = moved.was in
        cc

-- the edge is absent under the new number of the node
pub widened_absent : (old mid : ℕ → Option Node) (n m : ℕ) (e : Edge) (x : Node) → old n ≡ Some x → Ascends (x.edges ++ e ∷ []) → Renames old mid n m → IsSomeAnd (mid m) (λ y. child_at y.edges e.byte ≡ None)
widened_absent old mid n m e x is a moved =
    let same : Some x ≡ mid m = sym is ∙ moved.was ∙ sym moved.is in
    subst (λ (o : Option Node). IsSomeAnd o (λ y. child_at y.edges e.byte ≡ None)) same (absent_before x.edges e a)

-- ---- a node that is made

-- a node that is made and then gets a last edge is made with that edge
pub made_more : (old mid new : ℕ → Option Node) (n m depth : ℕ) (prefix : List ℕ) (es : List Edge) (e : Edge) → MakesNode old mid n depth prefix es → AddsLast mid new n m e → MakesNode old new m depth prefix (es ++ e ∷ [])
made_more old mid new n m depth prefix es e made adds = record {
  fresh = elim (cases_eq m n) [
    | inl p ↦ ap old p ∙ made.fresh
    | inr p ↦ sym (made.others m p) ∙ adds.fresh p
  ];
  is =
      let x : Node = record { depth = depth; prefix = prefix; edges = es } in
      let p : mid n ≡ Some x = made.is in
      let q : mid n ≡ Some adds.node = adds.was in
      let same : adds.node ≡ x = cc in
      adds.is ∙ ap (λ (z : Node). Some (record z { edges = z.edges ++ e ∷ [] })) same;
  others = λ j off. elim (cases_eq j n) [
    | inl p ↦ ap new p ∙ adds.gone (λ z. off (p ∙ sym z)) ∙ sym made.fresh ∙ ap old (sym p)
    | inr p ↦ adds.others j p off ∙ made.others j p
  ];
}

-- ---- loose edges

-- the first of some loose edges ascend above a byte if all do
rise_take : (b : ℕ) (es : List LooseEdge) (n : ℕ) (last : List Edge) → AscendsAbove b (edges_of es ++ last) → AscendsAbove b (edges_of (take n es))
rise_take b es zero last a = tt
rise_take b [] (suc n) last a = tt
rise_take b (x ∷ es) (suc n) last a = (a.0, rise_take x.edge.byte es n last a.1)

-- the first of some loose edges ascend if all do
pub Ascends-take : (es : List LooseEdge) (n : ℕ) (last : List Edge) → Ascends (edges_of es ++ last) → Ascends (edges_of (take n es))
Ascends-take es zero last a = tt
Ascends-take [] (suc n) last a = tt
Ascends-take (x ∷ es) (suc n) last a = rise_take x.edge.byte es n last a

-- one more edge, read from the rest after the first two
pub edges_more : (es rest : List LooseEdge) (i : ℕ) (e : LooseEdge) → rest ≡ drop 2 es → i < length rest → e ≡ get_or rest i e → edges_of (take (i + 1 + 2) es) ≡ edges_of (take (i + 2) es) ++ e.edge ∷ []
edges_more es rest i e r lt read =
    let l : length rest ≡ length es - 2 = ap length r ∙ length-drop 2 es in
    let s : e ≡ get_or es (i + 2) e =
    read ∙ ap (λ (t : List LooseEdge). get_or t i e) r ∙ get_or-drop 2 es i e ∙ ap (λ (k : ℕ). get_or es k e) (omega arith) in
    ap (λ (k : ℕ). edges_of (take k es)) (omega arith)
    ∙ map_more (λ (x : LooseEdge). x.edge) es (i + 2) e (omega arith)
    ∙ ap (λ (x : LooseEdge). edges_of (take (i + 2) es) ++ x.edge ∷ []) (sym s)
