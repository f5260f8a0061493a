use Rattle.art_edits.proofs.Moved.Appending.{joined_parts}
use Rattle.blart_map.specs.Content.{pairs}
use Rattle.blart_map.proofs.map.TreeMap.parts_law.Goals as goal

pub returns : goal.returns
returns g c = λ low high S parted appended. joined_parts g.K.AsBytes.bytes (pairs c.args.self.now) low high S c.law.ensures.content parted appended
