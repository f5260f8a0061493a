use Rattle.std.proofs.Common.{true, refl, lit<}
use Rattle.art_walk.proofs.Lending.{at_some, never_none, from_test, moved, fits_now, fits_with, is_lent_first}
use Rattle.blart_map.proofs.walks.lending_walk.LendingWalk.next.Goals as goal

pub step-requires : goal.step-requires
step-requires g c = let s = c.args.self.now in (lit< tt, from_test s.cursor s.lent s.map.now s.fits)

pub invariant_of-self : goal.invariant_of-self
invariant_of-self g c =
    let s = c.args.self.now in
    record { fits = moved true s.map.now s.cursor c.step.new.cursor s.lent s.fits c.step.ensures.fits _ c.step.ensures.passes }

pub invariant_of-self-2 : goal.invariant_of-self-2
invariant_of-self-2 g c =
    let s = c.args.self.now in
    record { fits = fits_now true s.map.now c.step.ensures.distinct s.cursor c.step.new.cursor s.lent s.fits c.in_ok-id.ensures.fits c.in_ok-id.id c.in_ok-id.ensures.there c.in_ok-id.ensures.passes }

pub invariant_of-self-lent : goal.invariant_of-self-lent
invariant_of-self-lent g c w =
    let s = c.args.self.now in
    (fits_with true s.map.now c.step.ensures.distinct s.cursor c.step.new.cursor s.lent s.fits c.in_ok-id.ensures.fits c.in_ok-id.id c.value_mut.result.now c.value_mut.ensures.value c.in_ok-id.ensures.passes w, tt)

pub returns : goal.returns
returns g c =
    let s = c.args.self.now in
    let lent = is_lent_first s.map.now c.step.ensures.distinct s.cursor c.step.new.cursor s.lent s.fits c.in_ok-id.ensures.fits c.in_ok-id.id c.value_mut.result.now c.value_mut.ensures.value c.in_ok-id.ensures.passes in (
      (refl, λ w. at_some _ c.value_mut.result (refl, lent w), never_none _ c.value_mut.result),
      record { writes_back = tt; end = tt },
    )
