use Rattle.std.proofs.Common.{◌≡◌, ◌∷◌, map, Some, sym, ap, ◌∙◌, arith}
use Rattle.art_rows.specs.Rows.{position_at, nth}
use Rattle.art_rows.proofs.FilingLemmas.{seen, none_there}
use Rattle.art_rows.proofs.Ends.{first_none, first_has, first_index, first_taken}
use Rattle.art_rows.proofs.leaves.Leaves.take_first.Goals as goal

pub returns-in_default : goal.returns-in_default
returns-in_default g c =
    let ps = c.args.self.now.pairs in
    let f = seen c.self.inside c.self.view_is c.self.invariant in
    let none = first_none ps (none_there f _ (ap (λ t. position_at t.rows (0)) c.self.view_is ∙ sym c.first_position.ensures ∙ c.in_default.is)) in
    record { takes = (none, none); room = omega arith }

pub remove_at-requires-clause-has : goal.remove_at-requires-clause-has
remove_at-requires-clause-has g c = let ps = c.args.self.now.pairs in first_has ps c.number-id.result (c.number-id.ensures (0) (sym c.first_position.ensures ∙ c.in-Some.is))

pub remove_at-requires-clause-at : goal.remove_at-requires-clause-at
remove_at-requires-clause-at g c =
    let ps = c.args.self.now.pairs in
    let f = seen c.self.inside c.self.view_is c.self.invariant in
    let at : position_at c.args.self.now.rows (0) ≡ Some c.in-Some.position = sym c.first_position.ensures ∙ c.in-Some.is in
    ap (position_at c.args.self.now.rows) (first_index ps c.number-id.result (c.number-id.ensures (0) at)) ∙ at

pub returns : goal.returns
returns g c =
    let ps = c.args.self.now.pairs in
    let f = seen c.self.inside c.self.view_is c.self.invariant in
    let there : nth (map (λ p. p.0) ps) (0) ≡ Some c.number-id.result = c.number-id.ensures (0) (sym c.first_position.ensures ∙ c.in-Some.is) in
    record { takes = (c.number-id.result, first_taken ps c.number-id.result c.remove_at.result there c.remove_at.ensures.value ∙ ap (λ l. (c.number-id.result, c.remove_at.result) ∷ l) (sym c.remove_at.ensures.rest)); room = c.remove_at.ensures.room }
