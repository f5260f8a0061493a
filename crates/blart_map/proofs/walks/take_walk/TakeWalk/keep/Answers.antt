use Rattle.art_walk.proofs.Lending.{kept_fits}
use Rattle.blart_map.proofs.walks.take_walk.TakeWalk.keep.Goals as goal

pub invariant_of-self : goal.invariant_of-self
invariant_of-self g c = let s = c.args.self.now in record { fits = kept_fits s.cursor s.lent s.map.now s.fits }
