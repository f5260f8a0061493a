use Rattle.art_kinds.specs.Nodes.{Nodes}
use Rattle.art_kinds.proofs.Copies.{no_node, no_live, no_room}
use Rattle.art_kinds.proofs.records.nodes.Nodes.new.Goals as goal

pub returns : goal.returns
returns g c =
    let s : Nodes = record { fours = c.new.result; sixteens = c.new-2.result; forty_eights = c.new-3.result; fulls = c.new-4.result } in
    let e0 = c.new.ensures.empty in
    let e1 = c.new-2.ensures.empty in
    let e2 = c.new-3.ensures.empty in
    let e3 = c.new-4.ensures.empty in
    record { none = no_node s e0 e1 e2 e3; live = no_live s e0 e1 e2 e3; room = no_room s c.new.ensures.spare }
