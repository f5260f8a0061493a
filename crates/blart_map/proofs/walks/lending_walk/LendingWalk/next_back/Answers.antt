use Rattle.std.proofs.Common.{false, refl, lit<}
use Rattle.art_walk.proofs.Lending.{at_some, never_none, from_test, moved, fits_now, fits_with, is_lent_last}
use Rattle.blart_map.proofs.walks.lending_walk.LendingWalk.next_back.Goals as goal

pub step_back-requires : goal.step_back-requires
step_back-requires g c = let s = c.args.self.now in (lit< tt, from_test s.cursor s.lent s.map.now s.fits)

pub invariant_of-self : goal.invariant_of-self
invariant_of-self g c =
    let s = c.args.self.now in
    record { fits = moved false s.map.now s.cursor c.step_back.new.cursor s.lent s.fits c.step_back.ensures.fits _ c.step_back.ensures.passes }

pub invariant_of-self-2 : goal.invariant_of-self-2
invariant_of-self-2 g c =
    let s = c.args.self.now in
    record { fits = fits_now false s.map.now c.step_back.ensures.distinct s.cursor c.step_back.new.cursor s.lent s.fits c.in_ok-id.ensures.fits c.in_ok-id.id c.in_ok-id.ensures.there c.in_ok-id.ensures.passes }

pub invariant_of-self-lent : goal.invariant_of-self-lent
invariant_of-self-lent g c w =
    let s = c.args.self.now in
    (fits_with false s.map.now c.step_back.ensures.distinct s.cursor c.step_back.new.cursor s.lent s.fits c.in_ok-id.ensures.fits c.in_ok-id.id c.value_mut.result.now c.value_mut.ensures.value c.in_ok-id.ensures.passes w, tt)

pub returns : goal.returns
returns g c =
    let s = c.args.self.now in
    let lent = is_lent_last s.map.now c.step_back.ensures.distinct s.cursor c.step_back.new.cursor s.lent s.fits c.in_ok-id.ensures.fits c.in_ok-id.id c.value_mut.result.now c.value_mut.ensures.value c.in_ok-id.ensures.passes in (
      (refl, λ w. at_some _ c.value_mut.result (refl, lent w), never_none _ c.value_mut.result),
      record { writes_back = tt; end = tt },
    )
