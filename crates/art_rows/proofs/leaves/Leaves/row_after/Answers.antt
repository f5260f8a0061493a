use Rattle.std.proofs.Common.{◌≡◌, ℕ, List, Option, Some, None, sym, ap, ◌∙◌}
use Rattle.std.specs.Prelude.{IfSome}
use Rattle.art_rows.specs.Numbers.{Numbered, Has, number_after}
use Rattle.art_rows.proofs.NumbersLemmas.{Has-after}
use Rattle.art_rows.proofs.leaves.Leaves.row_after.Goals as goal

after_there : (rows : List (Numbered (List ℕ))) (r : ℕ) (o : Option ℕ) → o ≡ number_after rows r → IfSome o (Has rows)
after_there rows r None e = tt
after_there rows r (Some q) e = Has-after rows r q (sym e)

pub returns-clause-there : goal.returns-clause-there
returns-clause-there g c = after_there c.args.self.now.rows c.args.row c.next_of.result (c.next_of.ensures ∙ ap (λ t. number_after t.rows c.args.row) c.self.view_is)
