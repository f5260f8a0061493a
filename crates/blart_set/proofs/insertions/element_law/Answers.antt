use Rattle.std.proofs.Common.{sym, ◌∙◌, ap}
use Rattle.blart_map.specs.Content.{pairs}
use Rattle.blart_keys.specs.Content.{under}
use Rattle.blart_keys.specs.Steps.{bytes}
use Rattle.blart_set.proofs.Lawful.{alone, begun, beginning, conflicting}
use Rattle.blart_set.proofs.insertions.element_law.Goals as goal

pub unreachable-requires : goal.unreachable-requires
unreachable-requires g c =
    let kb = g.K.AsBytes.bytes in
    let front : g.row.K.Denot × Unit {0} = (c.in-Some.front.0.now, c.in-Some.front.1.now) in
    let free = begun kb (pairs c.args.map.now) c.law.ensures.content c.args.element.now g.K.AsBytes.IsValue g.met.K.NoPrefixesBytes.no_fronts c.value_law.ensures front c.value_law-in-Some.ensures (sym c.in-Some.ensures.value) in
    conflicting _ _ c.conflicts.ensures.value c.if-not-conflicts.false free

pub unreachable-requires-in-Some-next : goal.unreachable-requires-in-Some-next
unreachable-requires-in-Some-next g c =
    let kb = g.K.AsBytes.bytes in
    let below : g.row.K.Denot × Unit {0} = (c.in-Some-next.below.0.now, c.in-Some-next.below.1.now) in
    let whole = sym (ap (under (bytes kb) (pairs c.args.map.now)) c.as_bytes.ensures) ∙ sym c.prefix.ensures.value ∙ c.in-Some-next.ensures.steps in
    let free = beginning kb (pairs c.args.map.now) c.law.ensures.content c.args.element.now g.K.AsBytes.IsValue g.met.K.NoPrefixesBytes.no_fronts c.value_law.ensures below c.value_law-in-Some-next.ensures _ whole in
    conflicting _ _ c.conflicts.ensures.value c.if-not-conflicts.false free

pub unreachable-requires-in-None-next : goal.unreachable-requires-in-None-next
unreachable-requires-in-None-next g c =
    let kb = g.K.AsBytes.bytes in
    let whole = sym (ap (under (bytes kb) (pairs c.args.map.now)) c.as_bytes.ensures) ∙ sym c.prefix.ensures.value ∙ c.in-None-next.ensures.steps.0 in
    let free = alone kb (pairs c.args.map.now) c.law.ensures.content c.args.element.now (sym c.in-None.ensures.value) whole in
    conflicting _ _ c.conflicts.ensures.value c.if-not-conflicts.false free
