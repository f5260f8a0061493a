use Rattle.std.proofs.Common.{◌≡◌, None, rules}
use Rattle.art_kinds.specs.Edges.{child_at}
use Rattle.art_kinds.proofs.Changes.{room_of, found_small, added_all}
use Rattle.art_kinds.proofs.records.nodes.Nodes.add_edge.Goals as goal

pub add_edge-requires : goal.add_edge-requires
add_edge-requires g c =
    let r = found_small c.self.view_is c.parts-parts.result c.parts-parts.ensures.number c.in-Four.is c.self.invariant.fours (λ x. child_at x.edges c.args.byte ≡ None) c.requires.absent in
    let small = r.0 in
    (search rules, (c.self.invariant.fours, (room_of c.self.view_is c.parts-parts.result c.parts-parts.ensures.number c.in-Four.is c.args.byte c.requires.absent c.requires.place, r.1)))

pub add_edge-requires-in-Sixteen : goal.add_edge-requires-in-Sixteen
add_edge-requires-in-Sixteen g c =
    let r = found_small c.self.view_is c.parts-parts.result c.parts-parts.ensures.number c.in-Sixteen.is c.self.invariant.sixteens (λ x. child_at x.edges c.args.byte ≡ None) c.requires.absent in
    let small = r.0 in
    (search rules, (c.self.invariant.sixteens, (room_of c.self.view_is c.parts-parts.result c.parts-parts.ensures.number c.in-Sixteen.is c.args.byte c.requires.absent c.requires.place, r.1)))

pub add_edge-requires-in-FortyEight : goal.add_edge-requires-in-FortyEight
add_edge-requires-in-FortyEight g c =
    let r = found_small c.self.view_is c.parts-parts.result c.parts-parts.ensures.number c.in-FortyEight.is c.self.invariant.forty_eights (λ x. child_at x.edges c.args.byte ≡ None) c.requires.absent in
    let small = r.0 in
    (search rules, (c.self.invariant.forty_eights, (room_of c.self.view_is c.parts-parts.result c.parts-parts.ensures.number c.in-FortyEight.is c.args.byte c.requires.absent c.requires.place, r.1)))

pub add_edge-requires-in-Full : goal.add_edge-requires-in-Full
add_edge-requires-in-Full g c =
    let r = found_small c.self.view_is c.parts-parts.result c.parts-parts.ensures.number c.in-Full.is c.self.invariant.fulls (λ x. child_at x.edges c.args.byte ≡ None) c.requires.absent in
    let small = r.0 in
    (search rules, (c.self.invariant.fulls, (room_of c.self.view_is c.parts-parts.result c.parts-parts.ensures.number c.in-Full.is c.args.byte c.requires.absent c.requires.place, r.1)))

pub returns-in-Four : goal.returns-in-Four
returns-in-Four g c =
    let r = added_all c.self.view_is c.parts-parts.result c.parts-parts.ensures.number c.in-Four.is c.requires.absent c.add_edge.ensures.changes in
    record { added = r.0; spares = r.1; live = r.2 }

pub returns-in-Sixteen : goal.returns-in-Sixteen
returns-in-Sixteen g c =
    let r = added_all c.self.view_is c.parts-parts.result c.parts-parts.ensures.number c.in-Sixteen.is c.requires.absent c.add_edge-in-Sixteen.ensures.changes in
    record { added = r.0; spares = r.1; live = r.2 }

pub returns-in-FortyEight : goal.returns-in-FortyEight
returns-in-FortyEight g c =
    let r = added_all c.self.view_is c.parts-parts.result c.parts-parts.ensures.number c.in-FortyEight.is c.requires.absent c.add_edge-in-FortyEight.ensures.changes in
    record { added = r.0; spares = r.1; live = r.2 }

pub returns-in-Full : goal.returns-in-Full
returns-in-Full g c =
    let r = added_all c.self.view_is c.parts-parts.result c.parts-parts.ensures.number c.in-Full.is c.requires.absent c.add_edge-in-Full.ensures.changes in
    record { added = r.0; spares = r.1; live = r.2 }
