use Rattle.art_walk.proofs.Lending.{count_is}
use Rattle.blart_map.proofs.walks.counted_walk.CountedWalk.len.Goals as goal

pub returns : goal.returns
returns g c = let s = c.args.self.now in count_is s.cursor s.lent s.left s.map.now s.fits
