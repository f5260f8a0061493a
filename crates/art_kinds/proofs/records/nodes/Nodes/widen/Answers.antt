use Rattle.std.proofs.Common.{Option, IsSome, rules}
use Rattle.art_kinds.specs.Nodes.{Node}
use Rattle.art_kinds.proofs.Changes.{holds_at, small_live}
use Rattle.art_kinds.proofs.records.nodes.Nodes.widen.Goals as goal

pub count-requires-in-FortyEight : goal.count-requires-in-FortyEight
count-requires-in-FortyEight g c =
    let s = c.self-in-FortyEight in
    let v = s.invariant.forty_eights in
    let live = holds_at s.view_is c.parts-parts.result c.parts-parts.ensures.number c.in-FortyEight.is (λ (o : Option Node). IsSome o) c.requires.live in
    let small = small_live v c.parts-parts.result.place live in
    (search rules, (v, live))
