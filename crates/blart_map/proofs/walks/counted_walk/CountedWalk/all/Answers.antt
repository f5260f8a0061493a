use Rattle.blart_map.proofs.Passed.Opening.{opens_counted}
use Rattle.blart_map.proofs.walks.counted_walk.CountedWalk.all.Goals as goal

pub invariant_of-result : goal.invariant_of-result
invariant_of-result g c = record { fits = opens_counted c.all-cursor.result c.map.inside.tree.pairs c.args.map.now c.map.view_is c.all-cursor.ensures.fits c.len-left.result c.len-left.ensures c.all-cursor.ensures.left }
