use Rattle.std.proofs.Common.{◌≡◌, ◌-◌, ◌<◌, ◌≤◌, ◌++◌, ◌∷◌, ℕ, [], List, length, take, drop, sym, subst, slice_range, get_or, All, lit<, arith, refl}
use Rattle.std.proofs.lemmas.List.{take_rest, length-drop}
use Rattle.std.proofs.lemmas.List.Elements.{All-contains}
use Rattle.blart_keys.proofs.RankLemmas.{Member, Contains-from_Member}
use Rattle.art_kinds.specs.Nodes.{at, room}
use Rattle.art_kinds.specs.Edges.{Ascends}
use Rattle.art_kinds.specs.declared.records.ids.Edge.{Edge}
use Rattle.art_tree.specs.declared.tree.build.LooseEdge.{LooseEdge}
use Rattle.art_tree.specs.Calls.Building.{edges_of, MakesNode}
use Rattle.art_tree.proofs.Invariant.Closing.{group_some, group_start, group_deep, group_rise, group_closed, upper_last}
use Rattle.art_tree.proofs.tree.build.close_one.Goals as goal

-- each loose edge of the group has the same depth
same : (g : List LooseEdge) (d : ℕ) → All (λ (e : LooseEdge). e.depth ≡ d) g → (e : LooseEdge) → Member e g → e.depth ≡ d
same g d h e m = All-contains (λ (e : LooseEdge). e.depth ≡ d) g e h (Contains-from_Member e g m)

pub start_above-start-requires : goal.start_above-start-requires
start_above-start-requires g c =
    let r = c.requires.part in
    let f = c.first_at-from in
    λ x is. (let a = upper_last r.0 (at c.args.nodes.now) c.args.key.now c.args.loose.now f.result c.args.depth c.args.least c.args.child r.3 (same _ _ f.ensures.group) f.ensures.before (f.ensures.some c.requires.last) c.requires.deep x is in let b = c.ranges.depth.fits in omega arith)

pub slice_bounds-prefix-count : goal.slice_bounds-prefix-count
slice_bounds-prefix-count g c =
    let r = c.requires.part in
    let f = c.first_at-from in
    subst (λ (z : ℕ). z ≤ c.args.depth) (sym c.start_above-start.ensures) (group_start r.0 (at c.args.nodes.now) c.args.key.now c.args.loose.now f.result c.args.depth c.args.least c.args.child r.3 (same _ _ f.ensures.group) f.ensures.before (f.ensures.some c.requires.last) c.requires.deep)

pub slice_bounds-prefix-start : goal.slice_bounds-prefix-start
slice_bounds-prefix-start g c =
    let r = c.requires.part in
    let f = c.first_at-from in
    let le : c.start_above-start.result ≤ c.args.depth = subst (λ (z : ℕ). z ≤ c.args.depth) (sym c.start_above-start.ensures) (group_start r.0 (at c.args.nodes.now) c.args.key.now c.args.loose.now f.result c.args.depth c.args.least c.args.child r.3 (same _ _ f.ensures.group) f.ensures.before (f.ensures.some c.requires.last) c.requires.deep) in
    let long : c.args.depth < length c.args.key.now = group_deep r.0 (at c.args.nodes.now) c.args.key.now c.args.loose.now f.result c.args.depth c.args.least c.args.child r.3 (same _ _ f.ensures.group) f.ensures.before (f.ensures.some c.requires.last) c.requires.deep in
    omega arith

pub make_node-requires : goal.make_node-requires
make_node-requires g c =
    let r = c.requires.part in
    let f = c.first_at-from in
    let es = c.args.loose.now in
    let rest : take (length es - f.result) (drop f.result es) ≡ drop f.result es = take_rest es f.result in
    let own : Edge = record { byte = get_or c.args.key.now c.args.depth 0; to = c.args.child } in
    let some : 0 < length (drop f.result es) = group_some r.0 (at c.args.nodes.now) c.args.key.now es f.result c.args.depth c.args.least c.args.child r.3 (same _ _ f.ensures.group) f.ensures.before (f.ensures.some c.requires.last) c.requires.deep in
    let rise : Ascends (edges_of (drop f.result es) ++ own ∷ []) = group_rise r.0 (at c.args.nodes.now) c.args.key.now es f.result c.args.depth c.args.least c.args.child r.3 (same _ _ f.ensures.group) f.ensures.before (f.ensures.some c.requires.last) c.requires.deep own refl in
    let few : length (drop f.result es) ≤ room c.args.nodes.now = (let a = c.requires.room in omega (arith, length-drop f.result es)) in
    (lit< tt, subst (λ (z : List LooseEdge). (0 < length z) × (Ascends (edges_of z ++ own ∷ []) × (length z ≤ room c.args.nodes.now))) (sym rest) (some, (rise, few)))

pub returns-clause-part : goal.returns-clause-part
returns-clause-part g c = λ keys leaf t p.
    let f = c.first_at-from in
    let es = c.args.loose.now in
    let rest : take (length es - f.result) (drop f.result es) ≡ drop f.result es = take_rest es f.result in
    let own : Edge = record { byte = get_or c.args.key.now c.args.depth 0; to = c.args.child } in
    let made : MakesNode (at c.args.nodes.now) (at c.make_node.new.nodes) c.make_node.result c.args.depth (take g.row.P (slice_range c.args.key.now c.start_above-start.result c.args.depth)) (edges_of (drop f.result es) ++ own ∷ []) =
    subst (λ (z : List LooseEdge). MakesNode (at c.args.nodes.now) (at c.make_node.new.nodes) c.make_node.result c.args.depth (take g.row.P (slice_range c.args.key.now c.start_above-start.result c.args.depth)) (edges_of z ++ own ∷ [])) rest c.make_node.ensures.made in
    group_closed keys (at c.args.nodes.now) c.args.key.now es f.result c.args.depth c.args.least c.args.child p (same _ _ f.ensures.group) f.ensures.before (f.ensures.some c.requires.last) c.requires.deep own refl leaf c.make_node.result (at c.make_node.new.nodes) refl t
    (subst (λ (z : ℕ). MakesNode (at c.args.nodes.now) (at c.make_node.new.nodes) c.make_node.result c.args.depth (take g.row.P (slice_range c.args.key.now z c.args.depth)) (edges_of (drop f.result es) ++ own ∷ [])) c.start_above-start.ensures made)
