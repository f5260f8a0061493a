use Rattle.std.proofs.Common.{◌∙◌}
use Rattle.art_rows.proofs.FilingLemmas.{seen, has_row_at, index_at, number_there}
use Rattle.art_rows.proofs.leaves.Leaves.number.Goals as goal

pub read-requires : goal.read-requires
read-requires g c = has_row_at (seen c.self.inside c.self.view_is c.self.invariant) c.requires.0 c.args.position (rw (← c.self.view_is) at c.requires.1)

pub at-requires : goal.at-requires
at-requires g c = (index_at (seen c.self.inside c.self.view_is c.self.invariant) c.requires.0 c.args.position (rw (← c.self.view_is) at c.requires.1) _ c.read.ensures)

pub returns : goal.returns
returns g c k e =
    number_there (seen c.self.inside c.self.view_is c.self.invariant) k c.args.position (rw (← c.self.view_is) at e) _ c.read.ensures ∙ (c.at.ensures)
