use Rattle.std.proofs.Common.{lit<}
use Rattle.art_walk.proofs.Lending.{has_lent}
use Rattle.blart_map.proofs.walks.take_walk.TakeWalk.key.Goals as goal

pub leaf-requires : goal.leaf-requires
leaf-requires g c = let s = c.args.self.now in (lit< tt, has_lent s.cursor s.lent s.map.now s.fits c.unwrap-id.result c.unwrap-id.ensures)

pub returns : goal.returns
returns g c = rw c.unwrap-id.ensures (c.leaf.result.1.now, c.leaf.ensures)
