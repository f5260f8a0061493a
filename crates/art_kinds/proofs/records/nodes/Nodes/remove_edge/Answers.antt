use Rattle.std.proofs.Common.{IsSome, rules}
use Rattle.art_kinds.specs.Edges.{child_at}
use Rattle.art_kinds.proofs.Changes.{found_small, dropped_all}
use Rattle.art_kinds.proofs.records.nodes.Nodes.remove_edge.Goals as goal

pub remove_edge-requires : goal.remove_edge-requires
remove_edge-requires g c =
    let r = found_small c.self.view_is c.parts-parts.result c.parts-parts.ensures.number c.in-Four.is c.self.invariant.fours (λ x. IsSome (child_at x.edges c.args.byte)) c.requires in
    let small = r.0 in
    (search rules, (c.self.invariant.fours, r.1))

pub remove_edge-requires-in-Sixteen : goal.remove_edge-requires-in-Sixteen
remove_edge-requires-in-Sixteen g c =
    let r = found_small c.self.view_is c.parts-parts.result c.parts-parts.ensures.number c.in-Sixteen.is c.self.invariant.sixteens (λ x. IsSome (child_at x.edges c.args.byte)) c.requires in
    let small = r.0 in
    (search rules, (c.self.invariant.sixteens, r.1))

pub remove_edge-requires-in-FortyEight : goal.remove_edge-requires-in-FortyEight
remove_edge-requires-in-FortyEight g c =
    let r = found_small c.self.view_is c.parts-parts.result c.parts-parts.ensures.number c.in-FortyEight.is c.self.invariant.forty_eights (λ x. IsSome (child_at x.edges c.args.byte)) c.requires in
    let small = r.0 in
    (search rules, (c.self.invariant.forty_eights, r.1))

pub remove_edge-requires-in-Full : goal.remove_edge-requires-in-Full
remove_edge-requires-in-Full g c =
    let r = found_small c.self.view_is c.parts-parts.result c.parts-parts.ensures.number c.in-Full.is c.self.invariant.fulls (λ x. IsSome (child_at x.edges c.args.byte)) c.requires in
    let small = r.0 in
    (search rules, (c.self.invariant.fulls, r.1))

pub returns-in-Four : goal.returns-in-Four
returns-in-Four g c =
    let r = dropped_all c.self.view_is c.parts-parts.result c.parts-parts.ensures.number c.in-Four.is c.remove_edge.ensures.changes in
    record { removed = r.0; spares = r.1; live = r.2 }

pub returns-in-Sixteen : goal.returns-in-Sixteen
returns-in-Sixteen g c =
    let r = dropped_all c.self.view_is c.parts-parts.result c.parts-parts.ensures.number c.in-Sixteen.is c.remove_edge-in-Sixteen.ensures.changes in
    record { removed = r.0; spares = r.1; live = r.2 }

pub returns-in-FortyEight : goal.returns-in-FortyEight
returns-in-FortyEight g c =
    let r = dropped_all c.self.view_is c.parts-parts.result c.parts-parts.ensures.number c.in-FortyEight.is c.remove_edge-in-FortyEight.ensures.changes in
    record { removed = r.0; spares = r.1; live = r.2 }

pub returns-in-Full : goal.returns-in-Full
returns-in-Full g c =
    let r = dropped_all c.self.view_is c.parts-parts.result c.parts-parts.ensures.number c.in-Full.is c.remove_edge-in-Full.ensures.changes in
    record { removed = r.0; spares = r.1; live = r.2 }
