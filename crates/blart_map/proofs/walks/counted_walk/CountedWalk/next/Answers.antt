use Rattle.std.proofs.Common.{true, refl, lit<, arith}
use Rattle.art_walk.proofs.Lending.{at_some, never_none, from_test, count_test, count_is, fewer_after, is_lent_first}
use Rattle.blart_map.proofs.Written.Counting.{count_ended, count_now, count_with}
use Rattle.blart_map.proofs.walks.counted_walk.CountedWalk.next.Goals as goal

pub step-requires : goal.step-requires
step-requires g c = let s = c.args.self.now in (lit< tt, from_test s.cursor s.lent s.map.now (count_test s.cursor s.lent s.left s.map.now s.fits))

pub overflow_sub-self : goal.overflow_sub-self
overflow_sub-self g c =
    let s = c.args.self.now in
    let h = fewer_after true s.cursor c.step.new.cursor s.map.now c.in_ok-id.id s.left (count_is s.cursor s.lent s.left s.map.now s.fits) c.in_ok-id.ensures.passes in
    omega arith

pub invariant_of-self : goal.invariant_of-self
invariant_of-self g c =
    let s = c.args.self.now in
    record { fits = count_ended true s.map.now c.step.ensures.distinct s.cursor c.step.new.cursor s.lent s.left s.fits c.step.ensures.fits _ c.step.ensures.passes c.in_err-id.ensures.passes }

pub invariant_of-self-2 : goal.invariant_of-self-2
invariant_of-self-2 g c =
    let s = c.args.self.now in
    record { fits = count_now true s.map.now c.step.ensures.distinct s.cursor c.step.new.cursor s.lent s.left s.fits c.in_ok-id.ensures.fits c.in_ok-id.id c.in_ok-id.ensures.passes c.in_ok-id.ensures.there }

pub invariant_of-self-lent : goal.invariant_of-self-lent
invariant_of-self-lent g c w =
    let s = c.args.self.now in
    (count_with true s.map.now c.step.ensures.distinct s.cursor c.step.new.cursor s.lent s.left s.fits c.in_ok-id.ensures.fits c.in_ok-id.id c.in_ok-id.ensures.passes c.value_mut.result.now c.value_mut.ensures.value w, tt)

pub returns : goal.returns
returns g c =
    let s = c.args.self.now in
    let test = count_test s.cursor s.lent s.left s.map.now s.fits in
    let lent = is_lent_first s.map.now c.step.ensures.distinct s.cursor c.step.new.cursor s.lent test c.in_ok-id.ensures.fits c.in_ok-id.id c.value_mut.result.now c.value_mut.ensures.value c.in_ok-id.ensures.passes in (
      (refl, λ w. at_some _ c.value_mut.result (refl, lent w), never_none _ c.value_mut.result),
      record { writes_back = tt; end = tt },
    )
