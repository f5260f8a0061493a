use Rattle.std.proofs.Common.{true, List, [], sym, subst, lit<, refl, le_of_eq}
use Rattle.blart_keys.specs.Walks.{AsksPair}
use Rattle.art_tree.specs.Leaves.{Numbered}
use Rattle.art_tree.specs.Pairs.{pairs_of}
use Rattle.art_walk.specs.Cursor.{leaves_left}
use Rattle.art_walk.specs.Asking.{RetainsBy}
use Rattle.art_walk.proofs.Passing.{passed_at, same_written, has_written, same_removed, fewer_left}
use Rattle.art_walk.proofs.Asking.{retaining_end, retaining_kept, retaining_gone, asks_at}
use Rattle.art_walk.proofs.Callable.{Callable, callable_passed, callable_left}
use Rattle.art_walk.proofs.retaining.retain_by.Goals as goal

pub pairs-init : goal.pairs-init
pairs-init g c =
    let left = c.all-cursor.ensures.left in
    record {
      callable = subst (λ (l : List (Numbered g.row.K.Denot g.row.V.Denot)). Callable g.F.FnMut c.args.f.now (pairs_of l)) (sym left) c.requires;
      fits = c.all-cursor.ensures.fits;
      distinct = c.law.ensures.distinct;
      retaining = record {
        kept = [];
        whole = sym left;
        then = λ rest h r. subst (λ (l : List (Numbered g.row.K.Denot g.row.V.Denot)). RetainsBy (AsksPair g.F.FnMut) (pairs_of l) c.args.f.now rest h) left r;
      };
    }

pub f-requires : goal.f-requires
f-requires g c =
    let s = c.pairs.invariant in
    let p = passed_at true c.pairs.tree.pairs c.pairs.cursor c.step.new.self s.distinct s.fits c.in-Some.ensures.fits _ _ c.leaf_mut-value.ensures.value c.in-Some.ensures.passes in
    callable_passed g.F.FnMut p c.pairs.f s.callable c.leaf_mut-value.result.0 c.leaf_mut-value.result.1 refl refl

pub pairs-smaller-then-f : goal.pairs-smaller-then-f
pairs-smaller-then-f g c =
    let s = c.pairs.invariant in
    let p = passed_at true c.pairs.tree.pairs c.pairs.cursor c.step.new.self s.distinct s.fits c.in-Some.ensures.fits _ _ c.leaf_mut-value.ensures.value c.in-Some.ensures.passes in
    le_of_eq (fewer_left p (same_written p c.f.new.arg3))

pub pairs-preserved-then-f : goal.pairs-preserved-then-f
pairs-preserved-then-f g c =
    let s = c.pairs.invariant in
    let p = passed_at true c.pairs.tree.pairs c.pairs.cursor c.step.new.self s.distinct s.fits c.in-Some.ensures.fits _ _ c.leaf_mut-value.ensures.value c.in-Some.ensures.passes in
    let asks = asks_at g.F.FnMut c.pairs.f c.leaf_mut-value.result.0 c.leaf_mut-value.result.1 _ c.f.result c.f.new.self c.f.ensures in
    let same = same_written p c.f.new.arg3 in
    record {
      callable = callable_left g.F.FnMut p c.pairs.f s.callable c.f.result c.f.new.arg3 c.f.new.self asks.called same;
      fits = same.fits;
      distinct = same.distinct;
      retaining = retaining_kept (AsksPair g.F.FnMut) _ _ s.retaining p c.f.result c.f.new.arg3 c.f.new.self asks c.if-f.true;
    }

pub remove-pair-requires : goal.remove-pair-requires
remove-pair-requires g c =
    let s = c.pairs.invariant in
    let p = passed_at true c.pairs.tree.pairs c.pairs.cursor c.step.new.self s.distinct s.fits c.in-Some.ensures.fits _ _ c.leaf_mut-value.ensures.value c.in-Some.ensures.passes in
    (lit< tt, has_written p c.f.new.arg3)

pub pairs-smaller : goal.pairs-smaller
pairs-smaller g c =
    let s = c.pairs.invariant in
    let p = passed_at true c.pairs.tree.pairs c.pairs.cursor c.step.new.self s.distinct s.fits c.in-Some.ensures.fits _ _ c.leaf_mut-value.ensures.value c.in-Some.ensures.passes in
    le_of_eq (fewer_left p (same_removed p c.f.new.arg3 c.remove-pair.new.self.pairs c.remove-pair.ensures.rest))

pub pairs-preserved : goal.pairs-preserved
pairs-preserved g c =
    let s = c.pairs.invariant in
    let p = passed_at true c.pairs.tree.pairs c.pairs.cursor c.step.new.self s.distinct s.fits c.in-Some.ensures.fits _ _ c.leaf_mut-value.ensures.value c.in-Some.ensures.passes in
    let asks = asks_at g.F.FnMut c.pairs.f c.leaf_mut-value.result.0 c.leaf_mut-value.result.1 _ c.f.result c.f.new.self c.f.ensures in
    let same = same_removed p c.f.new.arg3 c.remove-pair.new.self.pairs c.remove-pair.ensures.rest in
    record {
      callable = callable_left g.F.FnMut p c.pairs.f s.callable c.f.result c.f.new.arg3 c.f.new.self asks.called same;
      fits = same.fits;
      distinct = same.distinct;
      retaining = retaining_gone (AsksPair g.F.FnMut) _ _ s.retaining p c.f.result c.f.new.arg3 c.f.new.self asks c.if-f.false _ c.remove-pair.ensures.rest;
    }

pub returns : goal.returns
returns g c =
    retaining_end (AsksPair g.F.FnMut) _ _ c.pairs.tree.pairs (leaves_left c.pairs.cursor c.pairs.tree.pairs) c.pairs.f c.pairs.invariant.retaining c.in_default.ensures.passes.0
