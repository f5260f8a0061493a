use Rattle.std.proofs.Common.{refl, ◌&&◌}
use Rattle.blart_keys.specs.Bounds.{bound_bytes, is_from_start, is_up_to_end}
use Rattle.blart_map.proofs.Taken.OnceTaken.{opened_taken, opened_left}
use Rattle.blart_map.proofs.map.TreeMap.take_walk_counted.Goals as goal

pub returns-clause-all : goal.returns-clause-all
returns-clause-all g c test =
    let kb = g.K.AsBytes.bytes in
    let ps = c.args.self.now in
    let lo = bound_bytes g.Q.AsBytes.bytes c.args.start in
    let hi = bound_bytes g.Q.AsBytes.bytes c.args.end in
    opened_taken test c.cursor_counted-cursor.result c.of.result.cursor ps c.args.self.now c.of.result.map.now refl c.of.ensures.unchanged c.numbers_law.ensures.distinct c.of.ensures.same_cursor (λ pair. is_from_start lo (kb pair.0) && is_up_to_end hi (kb pair.0)) c.cursor_counted-cursor.ensures.leaves

pub returns-clause-picks : goal.returns-clause-picks
returns-clause-picks g c test =
    let kb = g.K.AsBytes.bytes in
    let ps = c.args.self.now in
    let lo = bound_bytes g.Q.AsBytes.bytes c.args.start in
    let hi = bound_bytes g.Q.AsBytes.bytes c.args.end in
    opened_left test c.cursor_counted-cursor.result c.of.result.cursor ps c.args.self.now c.of.result.map.now refl c.of.ensures.unchanged c.of.ensures.same_cursor (λ pair. is_from_start lo (kb pair.0) && is_up_to_end hi (kb pair.0)) c.cursor_counted-cursor.ensures.leaves
