use Rattle.std.proofs.Common.{sym, ◌∙◌, arith}
use Rattle.art_slots.specs.Words.{numbers as words}
use Rattle.art_rows.proofs.RowNumbers.{length-words}
use Rattle.art_rows.proofs.Searches.{found_nowhere, found_first}
use Rattle.art_rows.proofs.row.index_of_both.Goals as goal

pub returns-then-number_at-number : goal.returns-then-number_at-number
returns-then-number_at-number c =
    let ns = words c.args.low.now c.args.high.now in
    let l = length-words c.args.low.now c.args.high.now in
    sym (found_first ns c.args.number c.loop-index.index (omega arith) (sym c.number_at.ensures ∙ c.if-number_at-number.true) c.loop-index.invariant)

pub returns : goal.returns
returns c =
    let ns = words c.args.low.now c.args.high.now in
    let l = length-words c.args.low.now c.args.high.now in
    sym (found_nowhere ns c.args.number (λ k h. c.loop-index.invariant k (omega arith)) ∙ l)
