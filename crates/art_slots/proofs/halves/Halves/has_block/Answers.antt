use Rattle.std.proofs.Common.{◌<◌, ◌≤◌, arith}
use Rattle.std.proofs.lemmas.Bool.{ltb-true, ltb-false}
use Rattle.art_slots.proofs.Blocks.{length-joined}
use Rattle.art_slots.proofs.halves.Halves.has_block.Goals as goal

pub returns-clause-here : goal.returns-clause-here
returns-clause-here c less =
    let n = length-joined c.self.inside.blocks.items c.self.invariant.0 in
    let e = c.len.ensures in
    let l : c.args.block < c.len.result = ltb-true c.args.block c.len.result less in
    rw (← c.self.view_is) (omega arith)

pub returns-clause-past : goal.returns-clause-past
returns-clause-past c not_less =
    let n = length-joined c.self.inside.blocks.items c.self.invariant.0 in
    let e = c.len.ensures in
    let l : c.len.result ≤ c.args.block = ltb-false c.args.block c.len.result not_less in
    rw (← c.self.view_is) (omega arith)
