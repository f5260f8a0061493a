use Rattle.std.proofs.Common.{◌≡◌, ◌<◌, ◌+◌, ◌-◌, sym, ◌∙◌, arith}
use Rattle.art_rows.proofs.FilingLemmas.{seen, has_row_at, backward_within, not_first_within, backward_end, not_first_end, backward_none, row_filled}
use Rattle.art_rows.proofs.NumbersLemmas.{Has-before}
use Rattle.art_rows.proofs.leaves.Leaves.backward.Goals as goal

pub returns-then-position-gt0-clause-before : goal.returns-then-position-gt0-clause-before
returns-then-position-gt0-clause-before g c k e =
    let f = seen c.self.inside c.self.view_is c.self.invariant in
    let m : k + 1 - 1 ≡ k = omega arith in
    rw (← c.self.view_is, ← m) (sym (backward_within f (k + 1) c.args.position (rw (← c.self.view_is) at e) c.if-position-gt0.true))

pub returns-then-position-gt0-clause-first : goal.returns-then-position-gt0-clause-first
returns-then-position-gt0-clause-first g c e =
    let f = seen c.self.inside c.self.view_is c.self.invariant in
    let n : 0 < 0 = not_first_within f 0 c.args.position (rw (← c.self.view_is) at e) c.if-position-gt0.true in
    absurd (omega arith)

pub prev_of-requires : goal.prev_of-requires
prev_of-requires g c = has_row_at (seen c.self.inside c.self.view_is c.self.invariant) c.requires.0 c.args.position (rw (← c.self.view_is) at c.requires.1)

pub read-requires : goal.read-requires
read-requires g c = Has-before c.self.inside.rows.pairs c.args.position.row c.in-Some.row (sym c.prev_of.ensures ∙ c.in-Some.is)

pub overflow_sub-index : goal.overflow_sub-index
overflow_sub-index g c =
    let w = row_filled (seen c.self.inside c.self.view_is c.self.invariant) c.in-Some.row _ c.read.ensures in
    omega (arith, w, c.len-index.ensures.len)

pub returns-in-None-clause-before : goal.returns-in-None-clause-before
returns-in-None-clause-before g c k e =
    let f = seen c.self.inside c.self.view_is c.self.invariant in
    let n : k + 1 ≡ 0 = backward_none f (k + 1) c.args.position (rw (← c.self.view_is) at e) c.if-position-gt0.false (sym c.prev_of.ensures ∙ c.in-None.is) in
    absurd (omega arith)

pub returns-in-Some-clause-before : goal.returns-in-Some-clause-before
returns-in-Some-clause-before g c k e =
    let f = seen c.self.inside c.self.view_is c.self.invariant in
    let m : k + 1 - 1 ≡ k = omega arith in
    rw (← c.self.view_is, ← m, c.len-index.ensures.len) (sym (backward_end f (k + 1) c.args.position (rw (← c.self.view_is) at e) c.if-position-gt0.false c.in-Some.row (sym c.prev_of.ensures ∙ c.in-Some.is) _ c.read.ensures))

pub returns-in-Some-clause-first : goal.returns-in-Some-clause-first
returns-in-Some-clause-first g c e =
    let f = seen c.self.inside c.self.view_is c.self.invariant in
    let n : 0 < 0 = not_first_end f 0 c.args.position (rw (← c.self.view_is) at e) c.in-Some.row (sym c.prev_of.ensures ∙ c.in-Some.is) in
    absurd (omega arith)
