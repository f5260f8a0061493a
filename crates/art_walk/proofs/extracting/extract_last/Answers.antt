use Rattle.std.proofs.Common.{false, lit<, refl, le_of_eq}
use Rattle.art_walk.proofs.Passing.{passed_at, same_written, has_written, fewer_left}
use Rattle.art_walk.proofs.Callable.{called_at, callable_passed}
use Rattle.art_walk.proofs.Extracted.{extracting_left, extracted}
use Rattle.art_walk.proofs.extracting.extract_last.Goals as goal

pub pred-requires : goal.pred-requires
pred-requires g c =
    let s = c.pairs.invariant in
    let p = passed_at false c.pairs.tree.pairs c.pairs.cursor c.step_back.new.self s.distinct s.fits c.in-Some.ensures.fits _ _ c.leaf_mut-value.ensures.value c.in-Some.ensures.passes in
    callable_passed g.F.FnMut p c.pairs.pred s.callable c.leaf_mut-value.result.0 c.leaf_mut-value.result.1 refl refl

pub remove-requires : goal.remove-requires
remove-requires g c =
    let s = c.pairs.invariant in
    let p = passed_at false c.pairs.tree.pairs c.pairs.cursor c.step_back.new.self s.distinct s.fits c.in-Some.ensures.fits _ _ c.leaf_mut-value.ensures.value c.in-Some.ensures.passes in
    (lit< tt, has_written p c.pred.new.arg3)

pub returns-then-pred : goal.returns-then-pred
returns-then-pred g c =
    let s = c.pairs.invariant in
    let p = passed_at false c.pairs.tree.pairs c.pairs.cursor c.step_back.new.self s.distinct s.fits c.in-Some.ensures.fits _ _ c.leaf_mut-value.ensures.value c.in-Some.ensures.passes in
    let called = called_at g.F.FnMut c.pairs.pred c.leaf_mut-value.result.0 c.leaf_mut-value.result.1 _ c.pred.result c.pred.new.self c.pred.ensures in
    extracted g.F.FnMut s p c.pred.result c.pred.new.arg3 c.pred.new.self called c.if-pred.true c.remove.result c.remove.ensures.value c.remove.new.self.pairs c.remove.ensures.rest

pub pairs-smaller : goal.pairs-smaller
pairs-smaller g c =
    let s = c.pairs.invariant in
    let p = passed_at false c.pairs.tree.pairs c.pairs.cursor c.step_back.new.self s.distinct s.fits c.in-Some.ensures.fits _ _ c.leaf_mut-value.ensures.value c.in-Some.ensures.passes in
    le_of_eq (fewer_left p (same_written p c.pred.new.arg3))

pub pairs-preserved : goal.pairs-preserved
pairs-preserved g c =
    let s = c.pairs.invariant in
    let p = passed_at false c.pairs.tree.pairs c.pairs.cursor c.step_back.new.self s.distinct s.fits c.in-Some.ensures.fits _ _ c.leaf_mut-value.ensures.value c.in-Some.ensures.passes in
    let called = called_at g.F.FnMut c.pairs.pred c.leaf_mut-value.result.0 c.leaf_mut-value.result.1 _ c.pred.result c.pred.new.self c.pred.ensures in
    extracting_left g.F.FnMut s p c.pred.result c.pred.new.arg3 c.pred.new.self called c.if-pred.false
