use Rattle.std.proofs.Common.{◌+◌, ◌%◌, lit<, arith}
use Rattle.art_kinds.specs.Nodes.{at}
use Rattle.art_kinds.proofs.CallerLemmas.{room-placed}
use Rattle.art_tree.proofs.Calls.Making.{widened_absent, widened_last}
use Rattle.art_tree.proofs.tree.build.add_last.Goals as goal

pub add_edge-requires : goal.add_edge-requires
add_edge-requires g c =
    let r = c.requires.rise in
    (lit< tt, (c.widen-wide.ensures.place, widened_absent (at c.args.nodes.now) (at c.widen-wide.new.self) c.args.id c.widen-wide.result c.args.edge r.0 r.1 r.2 c.widen-wide.ensures.moved))

pub returns-clause-added : goal.returns-clause-added
returns-clause-added g c =
    let r = c.requires.rise in
    widened_last (at c.args.nodes.now) (at c.widen-wide.new.self) (at c.add_edge.new.self) c.args.id c.widen-wide.result c.args.edge r.0 r.1 r.2 c.widen-wide.ensures.moved c.add_edge.ensures.added

pub returns-clause-room : goal.returns-clause-room
returns-clause-room g c =
    let k = c.widen-wide.result % 4 in
    room-placed k (k + 1) c.args.nodes.now c.widen-wide.new.self c.add_edge.new.self (λ e. omega (arith, e)) c.widen-wide.ensures.spares c.add_edge.ensures.spares
