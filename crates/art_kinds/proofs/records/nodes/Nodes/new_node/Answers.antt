use Rattle.std.proofs.Common.{◌∙◌, List, length, ap}
use Rattle.art_kinds.specs.Nodes.{Node}
use Rattle.art_kinds.specs.declared.records.ids.Edge.{Edge}
use Rattle.art_kinds.proofs.Moving.{made-room}
use Rattle.art_kinds.proofs.records.nodes.Nodes.new_node.Goals as goal

pub returns-clause-room : goal.returns-clause-room
returns-clause-room g c =
    let u = c.fill.ensures in
    let two = ap (λ (x : Node). length x.edges) c.new-node.ensures ∙ ap (λ (es : List Edge). length es) c.pair.ensures in
    made-room c.self.view_is (record { fresh = u.fresh; is = u.now; others = u.others; spare = u.spare; used = u.used }) two
