use Rattle.std.proofs.Common.{true, refl, le_of_eq}
use Rattle.art_walk.specs.EachWritten.{LeavesPair, TakesAtPair}
use Rattle.art_walk.proofs.Passing.{passed_at, same_written, fewer_left}
use Rattle.art_walk.proofs.Writing.{callable_passed, callable_left, writing_start, writing_step, writing_end, leaves_pair}
use Rattle.art_walk.proofs.each.write_pairs.Goals as goal

pub leaves-init : goal.leaves-init
leaves-init g c = record {
  callable = c.requires.callable;
  fits = c.requires.fits;
  distinct = c.law.ensures.distinct;
  writing = writing_start (LeavesPair g.F.FnMut) _ _ _;
}

pub f-requires : goal.f-requires
f-requires g c =
    let s = c.leaves.invariant in
    let lv = c.leaf_mut-value.result in
    let p = passed_at true c.leaves.tree.pairs c.leaves.cursor c.step.new.self s.distinct s.fits c.in-Some.ensures.fits _ _ c.leaf_mut-value.ensures.value c.in-Some.ensures.passes in
    callable_passed (LeavesPair g.F.FnMut) (TakesAtPair g.F.FnMut) p c.leaves.f s.callable lv.0 lv.1 refl refl

pub leaves-smaller : goal.leaves-smaller
leaves-smaller g c =
    let s = c.leaves.invariant in
    let p = passed_at true c.leaves.tree.pairs c.leaves.cursor c.step.new.self s.distinct s.fits c.in-Some.ensures.fits _ _ c.leaf_mut-value.ensures.value c.in-Some.ensures.passes in
    le_of_eq (fewer_left p (same_written p c.f.new.arg3))

pub leaves-preserved : goal.leaves-preserved
leaves-preserved g c =
    let s = c.leaves.invariant in
    let lv = c.leaf_mut-value.result in
    let p = passed_at true c.leaves.tree.pairs c.leaves.cursor c.step.new.self s.distinct s.fits c.in-Some.ensures.fits _ _ c.leaf_mut-value.ensures.value c.in-Some.ensures.passes in
    let same = same_written p c.f.new.arg3 in
    let leaves = leaves_pair g.F.FnMut c.leaves.f c.f.new.self (lv.0.now, lv.1.now) lv.0 lv.1 _ c.f.ensures refl refl in
    record {
      callable = callable_left (LeavesPair g.F.FnMut) (TakesAtPair g.F.FnMut) p c.leaves.f s.callable c.f.new.arg3 c.f.new.self leaves;
      fits = same.fits;
      distinct = same.distinct;
      writing = writing_step (LeavesPair g.F.FnMut) s.writing p c.f.new.arg3 c.f.new.self leaves;
    }

pub returns-clause-writes : goal.returns-clause-writes
returns-clause-writes g c = writing_end (LeavesPair g.F.FnMut) _ _ _ _ _ _ c.leaves.invariant.writing c.in_default.ensures.passes.0
