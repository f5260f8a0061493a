use Rattle.art_kinds.proofs.Tables.{next-of-from}
use Rattle.art_kinds.proofs.records.children.edge_after.Goals as goal

pub returns : goal.returns
returns g c = next-of-from _ c.args.byte c.edge_from.result c.edge_from.ensures
