use Rattle.line_program.proofs.Listing.{shown_all}
use Rattle.line_program.proofs.replies.write_list.Goals as goal

pub returns : goal.returns
returns g c = rw c.iter.ensures.value at (c.write_listing.ensures c.iter.result (shown_all c.iter.result))
