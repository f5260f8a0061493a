use Rattle.std.proofs.Common.{sym, ap, ◌∙◌, arith}
use Rattle.art_rows.proofs.FilingLemmas.{seen, last_there, last_none, row_filled}
use Rattle.art_rows.proofs.NumbersLemmas.{Has-last}
use Rattle.art_rows.proofs.leaves.Leaves.last_position.Goals as goal

pub read-requires : goal.read-requires
read-requires g c = Has-last c.self.inside.rows.pairs c.in-Some.row (sym c.last.ensures ∙ c.in-Some.is)

pub overflow_sub-index : goal.overflow_sub-index
overflow_sub-index g c =
    let w = row_filled (seen c.self.inside c.self.view_is c.self.invariant) c.in-Some.row _ c.read.ensures in
    omega (arith, w, c.len-index.ensures.len)

pub returns-in-None : goal.returns-in-None
returns-in-None g c =
    rw (← ap (λ t. t.rows) c.self.view_is) (sym (last_none (seen c.self.inside c.self.view_is c.self.invariant) (sym c.last.ensures ∙ c.in-None.is)))

pub returns-in-Some : goal.returns-in-Some
returns-in-Some g c =
    let f = seen c.self.inside c.self.view_is c.self.invariant in
    rw (← ap (λ t. t.rows) c.self.view_is, c.len-index.ensures.len) (sym (last_there f c.in-Some.row _ (sym c.last.ensures ∙ c.in-Some.is) c.read.ensures))
