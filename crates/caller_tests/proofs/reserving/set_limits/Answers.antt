use Rattle.std.proofs.Common.{ℕ, List, ◌∙◌, ap, rules}
use Rattle.blart.specs.Words.{pairs, pair_at}
use Rattle.caller_tests.proofs.reserving.set_limits.Goals as goal

pub returns-clause-others : goal.returns-clause-others
returns-clause-others g c = λ q low high.
    let at = λ (S : List (g.row.K.Denot × ℕ)). pair_at g.K.AsBytes.bytes S q in
    let end = c.limits-2-1.given.1 (search rules) ∙ c.drop-room.ensures in
    ap at (ap pairs end) ∙ c.insert-2.ensures.updates.1 q high ∙ c.insert.ensures.updates.1 q low ∙ ap at c.in_ok-room.ensures.unchanged
