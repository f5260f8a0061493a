use Rattle.std.proofs.Common.{IsSome, rules}
use Rattle.art_kinds.specs.Edges.{child_at}
use Rattle.art_kinds.proofs.Changes.{found_small, redirected_all}
use Rattle.art_kinds.proofs.records.nodes.Nodes.redirect.Goals as goal

pub redirect-requires : goal.redirect-requires
redirect-requires g c =
    let r = found_small c.self.view_is c.parts-parts.result c.parts-parts.ensures.number c.in-Four.is c.self.invariant.fours (λ x. IsSome (child_at x.edges c.args.byte)) c.requires in
    let small = r.0 in
    (search rules, (c.self.invariant.fours, r.1))

pub redirect-requires-in-Sixteen : goal.redirect-requires-in-Sixteen
redirect-requires-in-Sixteen g c =
    let r = found_small c.self.view_is c.parts-parts.result c.parts-parts.ensures.number c.in-Sixteen.is c.self.invariant.sixteens (λ x. IsSome (child_at x.edges c.args.byte)) c.requires in
    let small = r.0 in
    (search rules, (c.self.invariant.sixteens, r.1))

pub redirect-requires-in-FortyEight : goal.redirect-requires-in-FortyEight
redirect-requires-in-FortyEight g c =
    let r = found_small c.self.view_is c.parts-parts.result c.parts-parts.ensures.number c.in-FortyEight.is c.self.invariant.forty_eights (λ x. IsSome (child_at x.edges c.args.byte)) c.requires in
    let small = r.0 in
    (search rules, (c.self.invariant.forty_eights, r.1))

pub redirect-requires-in-Full : goal.redirect-requires-in-Full
redirect-requires-in-Full g c =
    let r = found_small c.self.view_is c.parts-parts.result c.parts-parts.ensures.number c.in-Full.is c.self.invariant.fulls (λ x. IsSome (child_at x.edges c.args.byte)) c.requires in
    let small = r.0 in
    (search rules, (c.self.invariant.fulls, r.1))

pub returns-in-Four : goal.returns-in-Four
returns-in-Four g c =
    let r = redirected_all c.self.view_is c.parts-parts.result c.parts-parts.ensures.number c.in-Four.is c.redirect.ensures.changes in
    record { edges_with_child = r.0; spares = r.1; live = r.2 }

pub returns-in-Sixteen : goal.returns-in-Sixteen
returns-in-Sixteen g c =
    let r = redirected_all c.self.view_is c.parts-parts.result c.parts-parts.ensures.number c.in-Sixteen.is c.redirect-in-Sixteen.ensures.changes in
    record { edges_with_child = r.0; spares = r.1; live = r.2 }

pub returns-in-FortyEight : goal.returns-in-FortyEight
returns-in-FortyEight g c =
    let r = redirected_all c.self.view_is c.parts-parts.result c.parts-parts.ensures.number c.in-FortyEight.is c.redirect-in-FortyEight.ensures.changes in
    record { edges_with_child = r.0; spares = r.1; live = r.2 }

pub returns-in-Full : goal.returns-in-Full
returns-in-Full g c =
    let r = redirected_all c.self.view_is c.parts-parts.result c.parts-parts.ensures.number c.in-Full.is c.redirect-in-Full.ensures.changes in
    record { edges_with_child = r.0; spares = r.1; live = r.2 }
