use Rattle.std.proofs.Common.{List, ◌∙◌, ap, rules}
use Rattle.blart.specs.Words.{elements, stores}
use Rattle.caller_tests.proofs.reserving.add_one.Goals as goal

pub returns-clause-others : goal.returns-clause-others
returns-clause-others g c = λ q off.
    let has = λ (S : List g.row.K.Denot). stores g.K.AsBytes.bytes S q in
    let end = c.set-2-1.given.1 (search rules) ∙ c.drop-room.ensures in
    ap has (ap elements end) ∙ c.insert.ensures.updates.1 q off ∙ ap has c.in_ok-room.ensures.unchanged
