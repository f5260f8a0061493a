use Rattle.std.proofs.Common.{◌≡◌, true, ◌∙◌}
use Rattle.art_rows.specs.Rows.{among}
use Rattle.art_rows.proofs.RowNumbers.{low_once, low_index, row_index}
use Rattle.art_rows.proofs.row.Row.index_of.Goals as goal

pub index_of_half-requires-clause-once : goal.index_of_half-requires-clause-once
index_of_half-requires-clause-once c =
    let h : among c.args.self.now c.number-number.result ≡ true = rw c.number-number.ensures.value c.requires in
    low_once c.self.invariant c.self.view_is c.if-self-eq0.true c.number-number.result h

pub returns-then-self-eq0 : goal.returns-then-self-eq0
returns-then-self-eq0 c =
    let h : among c.args.self.now c.number-number.result ≡ true = rw c.number-number.ensures.value c.requires in
    c.index_of_half.ensures ∙ low_index c.self.invariant c.self.view_is c.if-self-eq0.true c.number-number.result h ∙ rw c.number-number.ensures.value

pub returns-else-self-eq0 : goal.returns-else-self-eq0
returns-else-self-eq0 c =
    let h : among c.args.self.now c.number-number.result ≡ true = rw c.number-number.ensures.value c.requires in
    c.index_of_both.ensures ∙ row_index c.self.invariant c.self.view_is c.number-number.result h ∙ rw c.number-number.ensures.value
