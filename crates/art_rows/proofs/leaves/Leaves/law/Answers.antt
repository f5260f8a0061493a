use Rattle.art_rows.proofs.FilingLemmas.{seen_rows}
use Rattle.art_rows.proofs.leaves.Leaves.law.Goals as goal

pub returns-clause-rows : goal.returns-clause-rows
returns-clause-rows g c = (seen_rows c.self.inside c.self.view_is c.self.invariant).apart
