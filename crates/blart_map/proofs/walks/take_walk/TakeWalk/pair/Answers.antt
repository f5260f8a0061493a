use Rattle.std.proofs.Common.{refl, sym, ap, ◌∙◌, lit<}
use Rattle.art_walk.specs.Lent.{walk_fits, numbers, written_last, fits_written}
use Rattle.art_walk.proofs.Lending.{has_lent, same_left}
use Rattle.blart_map.proofs.Written.LentPairs.{same_take, pair_there}
use Rattle.blart_map.proofs.walks.take_walk.TakeWalk.pair.Goals as goal

pub leaf_mut-requires : goal.leaf_mut-requires
leaf_mut-requires g c = let s = c.args.self.now in (lit< tt, has_lent s.cursor s.lent s.map.now s.fits c.unwrap-id.result c.unwrap-id.ensures)

pub invariant_of-self-lent : goal.invariant_of-self-lent
invariant_of-self-lent g c w =
    let s = c.args.self.now in
    (ap (λ o. walk_fits s.cursor s.lent (numbers (written_last o s.map.now w))) (sym c.unwrap-id.ensures) ∙ fits_written s.cursor s.lent s.map.now w s.fits, tt)

pub returns : goal.returns
returns g c =
    let s = c.args.self.now in
    let id = c.unwrap-id.result in (
      (refl, λ w. same_take s w _ (ap (λ o. written_last o s.map.now w) (sym c.unwrap-id.ensures)) _),
      record {
        writes_back = tt;
        value = pair_there s.lent s.map.now id _ c.unwrap-id.ensures c.leaf_mut.ensures.value;
        same_left = λ w. same_left s.map.now c.numbers_law.ensures.distinct s.cursor s.lent s.fits w;
      },
    )
