use Rattle.std.proofs.Common.{lit<, sym, ◌∙◌}
use Rattle.blart_map.specs.Content.{pairs}
use Rattle.blart_map.proofs.Related.InnerPairs.{tested, tested_not, inner_has, one_pair, more_pairs}
use Rattle.blart_map.proofs.inner.InnerOccupiedEntry.get_key_value.Goals as goal

pub leaf-requires : goal.leaf-requires
leaf-requires g c =
    let e = c.args.self.now in
    let kb = g.K.AsBytes.bytes in
    (lit< tt, inner_has kb e.map.now (kb e.key) e.first e.last c.numbers_law.ensures.content c.numbers_law.ensures.distinct e.stands)

pub returns-then-eq : goal.returns-then-eq
unfolding pairs
returns-then-eq g c =
    let e = c.args.self.now in
    let kb = g.K.AsBytes.bytes in
    sym c.leaf.ensures ∙ one_pair kb e.map.now (kb e.key) e.first e.last c.numbers_law.ensures.content c.numbers_law.ensures.distinct e.stands (tested e.first e.last c.if-eq.ensures)

pub returns-else-eq : goal.returns-else-eq
unfolding pairs
returns-else-eq g c =
    let e = c.args.self.now in
    let kb = g.K.AsBytes.bytes in
    more_pairs kb e.map.now (kb e.key) e.first e.last c.numbers_law.ensures.content c.numbers_law.ensures.distinct e.stands (tested_not e.first e.last c.if-eq.ensures)
