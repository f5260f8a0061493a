use Rattle.std.proofs.Common.{◌≤◌, ◌<◌, ◌∙◌, sym, arith}
use Rattle.art_kinds.proofs.records.children.edge_below.Goals as goal

pub returns-in-Some : goal.returns-in-Some
returns-in-Some g c =
    let lo : 0 < c.loop-next.next = c.loop-next-test.true in
    let hi : c.loop-next.next ≤ c.args.end = c.loop-next.invariant.within in
    (omega arith, sym c.find.ensures ∙ c.in-Some.is, λ b l m. c.loop-next.invariant.none b (omega arith) m)

pub returns : goal.returns
returns g c = λ b hi. c.loop-next.invariant.none b (omega arith) hi
