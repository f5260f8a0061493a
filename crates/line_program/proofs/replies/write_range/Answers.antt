use Rattle.std.proofs.Common.{refl, inl, inr, codes, ◌∷◌, [], append-nil}
use Rattle.line_program.specs.Results.{range_lines}
use Rattle.line_program.specs.Content.{content_of}
use Rattle.line_program.proofs.replies.write_range.Goals as goal

pub returns-in-Some : goal.returns-in-Some
returns-in-Some g c = λ low high is_low is_high.
    let (same_low, same_high) = c.in-Some.ensures low high is_low is_high in
    let S = content_of c.args.map.now in
    (range_lines S c.in-Some.low.items c.in-Some.high.items, inl (refl, rw (same_low, same_high) refl), c.write_between.ensures)

pub returns-in-None : goal.returns-in-None
returns-in-None g c = λ low high is_low is_high.
    (codes "refused memory" ∷ [], inr (c.in-None.ensures low high is_low is_high, refl, refl), rw append-nil c.write_line.ensures)
