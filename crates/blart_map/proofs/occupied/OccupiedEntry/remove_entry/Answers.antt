use Rattle.blart_map.specs.Content.{pairs}
use Rattle.art_edits.proofs.Placed.Setting.{occupied_removed}
use Rattle.blart_map.proofs.occupied.OccupiedEntry.remove_entry.Goals as goal

pub returns-clause-rest : goal.returns-clause-rest
unfolding pairs
returns-clause-rest g c =
    rw c.take_leaf.ensures.rest (occupied_removed g.K.AsBytes.bytes c.args.self.map.now c.numbers_law.ensures.content c.numbers_law.ensures.distinct c.args.self.id c.args.self.stands)
