-- The edge above a child, if the store changes.
use Rattle.std.proofs.Common.{◌≡◌, ◌≢◌, ◌<◌, ℕ, List, [], ◌∷◌, ◌++◌, length, refl, ap, sym, subst, inl, inr, ◌⊎◌, Option, Some, None, IsSome, ◌∙◌}
use Rattle.std.proofs.lemmas.List.{same_from_push}
use Rattle.std.proofs.lemmas.Bool.Decides.{eqb_tells}
use Rattle.art_tree.specs.Invariant.EdgesAbove.{LeadsTo, TurnsTo, AscendsAt, edge_front}
use Rattle.art_tree.specs.Begins.{Bytes, Begins, next_byte}
use Rattle.art_kinds.specs.Nodes.{Node, Makes, Renames, Redirects}
use Rattle.art_kinds.specs.Edges.{child_at, Ascends}
use Rattle.art_tree.specs.Invariant.Shape.{Shape, Covers, NodeFits, Parts}
use Rattle.art_kinds.specs.declared.records.ids.Child.{Child}
use Rattle.art_kinds.specs.declared.records.ids.Child.TheVariants.{Inner}
use Rattle.art_kinds.specs.declared.records.ids.Edge.{Edge}
use Rattle.blart_keys.proofs.Options.{is_some, same_some}
use Rattle.art_tree.proofs.BeginsLemmas.{edge_some, Bytes-cases}
use Rattle.art_tree.proofs.Invariant.OneEdge.{not_itself, kept_mid}

-- if the edge's node is unchanged
pub leads_over : (old new : ℕ → Option Node) (root : Option Child) (above : Option (ℕ × ℕ)) (c : Child) → LeadsTo old root above c → ((p b : ℕ) (x : Node) → above ≡ Some (p, b) → old p ≡ Some x → new p ≡ Some x) → LeadsTo new root above c
leads_over old new root None c l h = l
leads_over old new root (Some (p, b)) c l h = (l.0, h p b l.0 refl l.1, l.2)

-- after a node was made
pub leads_made : (old new : ℕ → Option Node) (root : Option Child) (above : Option (ℕ × ℕ)) (c : Child) (n depth : ℕ) (prefix : List ℕ) (low high : Edge) → LeadsTo old root above c → Makes old new n depth prefix low high → LeadsTo new root above c
leads_made old new root above c n depth prefix low high l m = leads_over old new root above c l (λ p b x e is. m.others p (λ z. let f : old n ≡ Some x = ap old (sym z) ∙ is in let g : old n ≡ None = m.fresh in cc) ∙ is)

module _ {P : ℕ} (keys : ℕ → Option Bytes) (old new : ℕ → Option Node) (root : Option Child) (s : Shape P keys old root) (n : ℕ) where
  -- after the node below the edge was moved to another number
  pub leads_renamed : (above : Option (ℕ × ℕ)) (m : ℕ) → LeadsTo old root above (Inner n) → Renames old new n m → LeadsTo new root above (Inner n)
  leads_renamed None m l r = l
  leads_renamed (Some (p, b)) m l r = (l.0, kept_mid old new n m p l.0 r l.1 (not_itself keys old root s p b n l.0 l.1 l.2), l.2)

  -- and the edges of the edge's node ascend as before
  pub ascends_renamed : (above : Option (ℕ × ℕ)) (m : ℕ) → LeadsTo old root above (Inner n) → Renames old new n m → AscendsAt new above
  ascends_renamed None m l r = tt
  ascends_renamed (Some (p, b)) m l r = λ x is.
      let k : new p ≡ Some l.0 = kept_mid old new n m p l.0 r l.1 (not_itself keys old root s p b n l.0 l.1 l.2) in
      let same : l.0 ≡ x = cc in
      subst (λ (z : Node). Ascends z.edges) same (s.node p l.0 l.1).ascends

-- the node of an edge is live
pub leads_live : (nodes : ℕ → Option Node) (root : Option Child) (above : Option (ℕ × ℕ)) (c : Child) → LeadsTo nodes root above c → (e : ℕ × ℕ) → above ≡ Some e → IsSome (nodes e.0)
leads_live nodes root None c l e is = absurd cc
leads_live nodes root (Some d) c l e is = let z : d ≡ e = cc in subst (λ (w : ℕ × ℕ). IsSome (nodes w.0)) z (is_some (nodes d.0) l.0 l.1)

-- the edge above the child is that of the root, which is redirected, or that of a node
abbrev pub Hangs : (ℕ → Option Node) → Option Child → Option Child → Child → Child → Option (ℕ × ℕ) → Type 0
Hangs nodes root root' c to above = ((above ≡ None) × (root ≡ Some c) × (root' ≡ Some to)) ⊎ ((e : ℕ × ℕ) × (above ≡ Some e) × IsSome (nodes e.0) × (root' ≡ root))

pub above_cases : (nodes mid new : ℕ → Option Node) (root root' : Option Child) (above : Option (ℕ × ℕ)) (c to : Child) → LeadsTo nodes root above c → TurnsTo mid new root root' above to → Hangs nodes root root' c to above
above_cases nodes mid new root root' None c to leads turns = inl (refl, leads, turns.1)
above_cases nodes mid new root root' (Some e) c to leads turns = inr (e, refl, is_some (nodes e.0) leads.0 leads.1, turns.1)

-- if an edge is redirected, each node but that of the edge is unchanged
pub turned_off : (old new : ℕ → Option Node) (root root' : Option Child) (above : Option (ℕ × ℕ)) (to : Child) → TurnsTo old new root root' above to → (m : ℕ) → ((e : ℕ × ℕ) → above ≡ Some e → m ≢ e.0) → new m ≡ old m
turned_off old new root root' None to turns m off = turns.0 m
turned_off old new root root' (Some e) to turns m off = turns.0.others m (off e refl)

-- and no node comes
pub turned_free : (old new : ℕ → Option Node) (root root' : Option Child) (above : Option (ℕ × ℕ)) (to : Child) → TurnsTo old new root root' above to → (m : ℕ) → old m ≡ None → new m ≡ None
turned_free old new root root' None to turns m e = turns.0 m ∙ e
turned_free old new root root' (Some (p, b)) to turns m e =
    let red : Redirects old new p b to = turns.0 in
    red.others m (λ z. let f : old p ≡ None = ap old (sym z) ∙ e in let g : old p ≡ Some red.was = red.was_is in cc) ∙ e

-- the change of an old node: the edge with the front g0 now leads to another child
pub record Turns (x x' : Node) (f g0 : Bytes) (c0 c1 : Child) : Type 0 where
  pub depth : x'.depth ≡ x.depth
  pub ascends : Ascends x.edges → Ascends x'.edges
  pub rest : (b : ℕ) → f ++ b ∷ [] ≢ g0 → child_at x'.edges b ≡ child_at x.edges b
  pub was : (b : ℕ) → f ++ b ∷ [] ≡ g0 → child_at x.edges b ≡ Some c0
  pub now : (b : ℕ) → f ++ b ∷ [] ≡ g0 → child_at x'.edges b ≡ Some c1

-- so each live node changes if the edge above a child is redirected, and live fronts differ
pub turned_node : (front_of : ℕ → Bytes) (old new : ℕ → Option Node) (root root' : Option Child) (c to : Child) (Live : ℕ → Type 0) → ((m p : ℕ) → Live m → Live p → front_of m ≡ front_of p → m ≡ p) → (above : Option (ℕ × ℕ)) → LeadsTo old root above c → ((e : ℕ × ℕ) → above ≡ Some e → Live e.0)
    → TurnsTo old new root root' above to → (m : ℕ) (x : Node) → Live m → old m ≡ Some x → (x' : Node) × (new m ≡ Some x') × Turns x x' (front_of m) (edge_front front_of above) c to
turned_node front_of old new root root' c to Live apart None leads lives turns m x live is = (
  x,
  turns.0 m ∙ is,
  record {
    depth = refl;
    ascends = λ a. a;
    rest = λ b h. refl;
    was = λ b h. absurd (edge_some (front_of m) b h);
    now = λ b h. absurd (edge_some (front_of m) b h);
  },
)
turned_node front_of old new root root' c to Live apart (Some (p, b)) leads lives turns m x live is =
    let red : Redirects old new p b to = turns.0 in
    elim (eqb_tells m p) [
      | inl e ↦
          let f : old p ≡ Some x = ap old (sym e.1) ∙ is in
          let g : old p ≡ Some leads.0 = leads.1 in
          let h : old p ≡ Some red.was = red.was_is in
          let x_is : leads.0 ≡ x = cc in
          let same : red.was ≡ x = cc in
          let front : front_of m ≡ front_of p = ap front_of e.1 in (
            red.is,
            ap new e.1 ∙ red.is_is,
            record {
              depth = red.depth ∙ ap (λ (x : Node). x.depth) same;
              ascends = λ a. red.ascends;
              rest = λ d h. red.rest d (λ z. h (λ j. front j ++ z j ∷ [])) ∙ ap (λ (x : Node). child_at x.edges d) same;
              was = λ d h. (let z = same_from_push (front_of m) (front_of p) d b h in ap (child_at x.edges) z.1 ∙ ap (λ (x : Node). child_at x.edges b) (sym x_is) ∙ leads.2);
              now = λ d h. (let z = same_from_push (front_of m) (front_of p) d b h in ap (child_at red.is.edges) z.1 ∙ red.now);
            },
          )
      | inr e ↦
          let off : (d : ℕ) → front_of m ++ d ∷ [] ≡ front_of p ++ b ∷ [] → ⊥ = λ d h. e.1 (apart m p live (lives (p, b) refl) (same_from_push (front_of m) (front_of p) d b h).0) in (
            x,
            red.others m e.1 ∙ is,
            record {
              depth = refl;
              ascends = λ a. a;
              rest = λ d h. refl;
              was = λ d h. absurd (off d h);
              now = λ d h. absurd (off d h);
            },
          )
    ]

-- also if a node had another prefix before
pub turns_after : (x y z : Node) (f g0 : Bytes) (c to : Child) → y.depth ≡ x.depth → y.edges ≡ x.edges → Turns y z f g0 c to → Turns x z f g0 c to
turns_after x y z f g0 c to depth edges t = record {
  depth = t.depth ∙ depth;
  ascends = λ a. t.ascends (subst (λ (es : List Edge). Ascends es) (sym edges) a);
  rest = λ b h. t.rest b h ∙ ap (λ (es : List Edge). child_at es b) edges;
  was = λ b h. ap (λ (es : List Edge). child_at es b) (sym edges) ∙ t.was b h;
  now = t.now;
}

-- a node, with what relates it to the one that it was, if none came
pub came_from : (R : Node → Node → Type 0) (old new : Option Node) → ((x : Node) → old ≡ Some x → (x' : Node) × (new ≡ Some x') × R x x') → (old ≡ None → new ≡ None) → (x' : Node) → new ≡ Some x' → (x : Node) × (old ≡ Some x) × R x x'
came_from R None new change none x' is = let f : new ≡ None = none refl in absurd cc
came_from R (Some x) new change none x' is =
    let y = change x refl in
    let f : new ≡ Some y.0 = y.1 in
    let z : y.0 ≡ x' = cc in
    (x, refl, subst (λ (n : Node). R x n) z y.2)

-- a node whose edge was redirected fits other keys, if its children do
pub turned_fits : (keys keys' : ℕ → Option Bytes) (nodes nodes' : ℕ → Option Node) (fronts fronts' : ℕ → Bytes) (x x' : Node) (g g0 : Bytes) (c0 c1 : Child) → Turns x x' g g0 c0 c1 → NodeFits keys nodes fronts g x → Covers keys' nodes' fronts' g0 c1
    → ((b : ℕ) (c : Child) → g ++ b ∷ [] ≢ g0 → child_at x.edges b ≡ Some c → Covers keys' nodes' fronts' (g ++ b ∷ []) c) → ((j : ℕ) (l : Bytes) → keys' j ≡ Some l → Begins g l → (length g < length l) × IsSome (child_at x.edges (next_byte g l))) → Parts keys' g → NodeFits keys' nodes' fronts' g x'
turned_fits keys keys' nodes nodes' fronts fronts' x x' g g0 c0 c1 r f to rest key parts = record {
  depth = r.depth ∙ f.depth;
  below = λ b c e.
      elim (Bytes-cases (g ++ b ∷ []) g0) [
        | inl at ↦ (let a : child_at x'.edges b ≡ Some c1 = r.now b at in let h : c ≡ c1 = cc in rw (at, h) to)
        | inr far ↦ rest b c far (sym (r.rest b far) ∙ e)
      ];
  longer = λ j l e h. (key j l e h).0;
  edge = λ j l e h.
      elim (Bytes-cases (g ++ next_byte g l ∷ []) g0) [
        | inl at ↦ is_some (child_at x'.edges (next_byte g l)) c1 (r.now (next_byte g l) at)
        | inr far ↦ same_some (child_at x.edges (next_byte g l)) (child_at x'.edges (next_byte g l)) (sym (r.rest (next_byte g l) far)) (key j l e h).1
      ];
  parts = parts;
  ascends = r.ascends f.ascends;
}
