use Rattle.std.proofs.Common.{◌<◌, length, sym, ap, ◌∙◌, rules}
use Rattle.std.specs.Prelude.{option_map}
use Rattle.art_rows.proofs.FilingLemmas.{seen, has_row_at, index_at, forward_within, forward_after}
use Rattle.art_rows.specs.Rows.{start_of}
use Rattle.art_rows.proofs.leaves.Leaves.forward.Goals as goal

pub read-requires : goal.read-requires
read-requires g c = has_row_at (seen c.self.inside c.self.view_is c.self.invariant) c.requires.0 c.args.position (rw (← c.self.view_is) at c.requires.1)

pub overflow_add-index : goal.overflow_add-index
overflow_add-index g c =
    let f = seen c.self.inside c.self.view_is c.self.invariant in
    let w : c.args.position.index < length c.read.result = index_at f c.requires.0 c.args.position (rw (← c.self.view_is) at c.requires.1) _ c.read.ensures in
    search rules

pub returns-then-index-len : goal.returns-then-index-len
returns-then-index-len g c k e =
    let f = seen c.self.inside c.self.view_is c.self.invariant in
    rw (← c.self.view_is) (sym (forward_within f k c.args.position (rw (← c.self.view_is) at e) _ c.read.ensures (rw (← c.len-len.ensures.len) c.if-index-len.true)))

pub returns-in-None : goal.returns-in-None
returns-in-None g c k e =
    let f = seen c.self.inside c.self.view_is c.self.invariant in
    rw (← c.self.view_is) (ap (option_map start_of) (sym c.in-None.is ∙ c.next_of.ensures) ∙ sym (forward_after f k c.args.position (rw (← c.self.view_is) at e) _ c.read.ensures (rw (← c.len-len.ensures.len) c.if-index-len.false)))

pub returns-in-Some : goal.returns-in-Some
returns-in-Some g c k e =
    let f = seen c.self.inside c.self.view_is c.self.invariant in
    rw (← c.self.view_is) (ap (option_map start_of) (sym c.in-Some.is ∙ c.next_of.ensures) ∙ sym (forward_after f k c.args.position (rw (← c.self.view_is) at e) _ c.read.ensures (rw (← c.len-len.ensures.len) c.if-index-len.false)))
